-- The words that the steps take, step by step.
use Rattle.tv_core.proofs.Common.{◌≡◌, ◌≢◌, ℕ, zero, suc, ◌+◌, ◌-◌, ◌<◌, Bool, true, false, List, [], ◌∷◌, ◌++◌, refl, sym, ap, ◌∙◌, arith, add-one, append-nil}
use Rattle.tv_core.proofs.Common.{append_assoc, Ok, Err, eq-eqb, eqb-true, slice_index, joined_below}
use Rattle.std.specs.Prelude.{◌==◌}
use Rattle.tv_block.specs.Block.{block_of}
use Rattle.tv_inputs.specs.declared.records.Spot.{Spot}
use Rattle.tv_core.proofs.JoinedLaws.{joined_below-zero, joined_below-suc}
use Rattle.tv_layout.specs.Layout.{block_at, taken_wire, taken_wires}
use Rattle.tv_layout.specs.Places.{boot_count, zero_wires_at, first_at, runs_of}
use Rattle.tv_extract.proofs.WordLaws.{refused_for, words_then, words_refused}
use Rattle.tv_extract.specs.Extraction.{word_at, words_at}
use Rattle.tv_step.specs.declared.not_run.NotRun.{NotRun}

-- joined lists up to n begin with those up to i
data Begins (f : ℕ → List ℕ) (i n : ℕ) : Type 0 where
  Rest : (rest : List ℕ) → joined_below n f ≡ joined_below i f ++ (f i ++ rest) → Begins f i n

begins : (f : ℕ → List ℕ) (i more : ℕ) → Begins f i (i + suc more)
begins f i zero =
    let many : i + 1 ≡ suc i = omega arith in
    Begins.Rest [] (ap (λ m. joined_below m f) many ∙ joined_below-suc i f ∙ ap (λ l. joined_below i f ++ l) (sym (append-nil (f i))))
begins f i (suc more) = longer (begins f i more)
  where
    longer : Begins f i (i + suc more) → Begins f i (i + suc (suc more))
    longer (Begins.Rest rest is) =
        let many : i + suc (suc more) ≡ suc (i + suc more) = omega arith in
        Begins.Rest (rest ++ f (i + suc more))
        (ap (λ m. joined_below m f) many ∙ joined_below-suc (i + suc more) f ∙ ap (λ l. l ++ f (i + suc more)) is
        ∙ append_assoc (joined_below i f) (f i ++ rest) (f (i + suc more))
        ∙ ap (λ l. joined_below i f ++ l) (append_assoc (f i) rest (f (i + suc more))))

-- where a step has a word, and where it has none
takes_one : (z : List ℕ) (spot : Spot) → slice_index z spot.taken ≡ 1 → taken_wire z spot ≡ spot.word ∷ []
takes_one z spot is = rw (eq-eqb (slice_index z spot.taken) 1 is) refl

takes_none : (z : List ℕ) (spot : Spot) → slice_index z spot.taken ≢ 1 → taken_wire z spot ≡ []
takes_none z spot other = by_test (slice_index z spot.taken == 1) refl
  where
    by_test : (b : Bool) → (slice_index z spot.taken == 1) ≡ b → taken_wire z spot ≡ []
    by_test true is = absurd (other (eqb-true (slice_index z spot.taken) 1 is))
    by_test false is = rw is refl

module _ (w : ℕ) (image : List ℕ) (n : ℕ) (z : List ℕ) where
  abbrev wires : ℕ → List ℕ
  wires i = taken_wire z (block_at (block_of w) n (boot_count image n) (zero_wires_at w n) (first_at w n) i).spot

  pub taken_none : words_at w z (taken_wires (block_of w) (runs_of w image n 0) z) ≡ Ok []
  unfolding taken_wires
  taken_none = ap (words_at w z) (joined_below-zero wires)

  more_wires : (i : ℕ) (spot : Spot) → spot ≡ (block_at (block_of w) n (boot_count image n) (zero_wires_at w n) (first_at w n) i).spot
      → taken_wires (block_of w) (runs_of w image n (i + 1)) z ≡ taken_wires (block_of w) (runs_of w image n i) z ++ taken_wire z spot
  unfolding taken_wires
  more_wires i spot is =
      ap (λ m. joined_below m wires) (add-one i) ∙ joined_below-suc i wires ∙ ap (λ s. joined_below i wires ++ taken_wire z s) (sym is)

  -- step i takes a word
  pub taken_more : (i : ℕ) (spot : Spot) (words : List ℕ) (v : ℕ)
      → spot ≡ (block_at (block_of w) n (boot_count image n) (zero_wires_at w n) (first_at w n) i).spot
      → words_at w z (taken_wires (block_of w) (runs_of w image n i) z) ≡ Ok words → slice_index z spot.taken ≡ 1 → word_at w z spot.word ≡ Ok v
      → words_at w z (taken_wires (block_of w) (runs_of w image n (i + 1)) z) ≡ Ok (words ++ v ∷ [])
  taken_more i spot words v is before takes word =
      let one : words_at w z (spot.word ∷ []) ≡ Ok (v ∷ []) = rw word refl in
      ap (words_at w z) (more_wires i spot is ∙ ap (λ l. taken_wires (block_of w) (runs_of w image n i) z ++ l) (takes_one z spot takes))
      ∙ words_then w z (taken_wires (block_of w) (runs_of w image n i) z) (spot.word ∷ []) words (v ∷ []) before one

  -- it takes none
  pub taken_same : (i : ℕ) (spot : Spot) (words : List ℕ) → spot ≡ (block_at (block_of w) n (boot_count image n) (zero_wires_at w n) (first_at w n) i).spot
      → words_at w z (taken_wires (block_of w) (runs_of w image n i) z) ≡ Ok words → slice_index z spot.taken ≢ 1
      → words_at w z (taken_wires (block_of w) (runs_of w image n (i + 1)) z) ≡ Ok words
  taken_same i spot words is before other =
      ap (words_at w z) (more_wires i spot is ∙ ap (λ l. taken_wires (block_of w) (runs_of w image n i) z ++ l) (takes_none z spot other)
      ∙ append-nil (taken_wires (block_of w) (runs_of w image n i) z)) ∙ before

  -- its word is wide
  pub taken_refused : (i t : ℕ) (spot : Spot) (words : List ℕ) (fault : NotRun) → i < t
      → spot ≡ (block_at (block_of w) n (boot_count image n) (zero_wires_at w n) (first_at w n) i).spot
      → words_at w z (taken_wires (block_of w) (runs_of w image n i) z) ≡ Ok words → slice_index z spot.taken ≡ 1 → word_at w z spot.word ≡ Err fault
      → words_at w z (taken_wires (block_of w) (runs_of w image n t) z) ≡ Err fault
  unfolding taken_wires
  taken_refused i t spot words fault within is before takes refused =
      let many : t ≡ i + suc (t - i - 1) = omega arith in
      by_rest (begins wires i (t - i - 1)) many
    where
      by_rest : Begins wires i (i + suc (t - i - 1)) → t ≡ i + suc (t - i - 1) → words_at w z (joined_below t wires) ≡ Err fault
      by_rest (Begins.Rest rest joined) many =
          ap (λ m. words_at w z (joined_below m wires)) many
          ∙ ap (words_at w z) (joined ∙ ap (λ s. joined_below i wires ++ (taken_wire z s ++ rest)) (sym is)
          ∙ ap (λ l. joined_below i wires ++ (l ++ rest)) (takes_one z spot takes))
          ∙ words_refused w z (joined_below i wires) rest spot.word words fault before refused

pub ruleset taken_laws = (taken_none, taken_more, taken_same, taken_refused, refused_for)
