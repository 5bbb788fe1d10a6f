-- What a step takes of the auxiliary tape: in an assignment, and by the machine, by cases.
use Rattle.tv_core.proofs.Common.{◌≡◌, ℕ, Bool, true, false, List, [], ◌∷◌, ◌++◌, map, refl, sym, ap, ap₂, ◌∙◌, Option, Some, None, range_with_len, slice_index}
use Rattle.tv_core.proofs.Common.{joined_below}
use Rattle.std.proofs.lemmas.List.{map-append}
use Rattle.std.specs.List.{flat_map}
use Rattle.std.specs.Prelude.{slice_get, ◌==◌, ◌&&◌, not, is_some, if◌then◌else◌}
use Rattle.tv_inputs.specs.declared.records.Spot.{Spot}
use Rattle.tv_layout.specs.Blocks.{BlockCircuit}
use Rattle.tv_layout.specs.Layout.{taken_wire, taken_wires, taken_at, taken_of, step_block}
use Rattle.tv_layout.specs.Places.{runs_of}
use Rattle.tv_numbers.specs.Laws.{AuxFits}
use Rattle.tv_step.specs.Reads.{reads_aux, word_taken, words_in, finds_end}
use Rattle.tv_step.specs.State.{State}

-- ---- in an assignment
-- the word that a step takes, by its test
abbrev pub taken_in : List ℕ → Spot → List ℕ
taken_in z spot = if slice_index z spot.taken == 1 then slice_index z spot.word ∷ [] else []

pub taken_at_is : (z : List ℕ) (spot : Spot) → taken_at z spot ≡ taken_in z spot
taken_at_is z spot = by_test (slice_index z spot.taken == 1)
  where
    by_test : (b : Bool) → map (slice_index z) (if b then spot.word ∷ [] else []) ≡ (if b then slice_index z spot.word ∷ [] else [])
    by_test true = refl
    by_test false = refl

all_taken : (z : List ℕ) (spot : ℕ → Spot) (places : List ℕ)
    → map (slice_index z) (flat_map (λ i. taken_wire z (spot i)) places) ≡ flat_map (λ i. taken_in z (spot i)) places
all_taken z spot [] = refl
all_taken z spot (i ∷ places) =
    map-append (slice_index z) (taken_wire z (spot i)) (flat_map (λ i. taken_wire z (spot i)) places)
    ∙ ap₂ (λ (a b : List ℕ). a ++ b) (taken_at_is z (spot i)) (all_taken z spot places)

pub taken_of_is : (block : BlockCircuit) (w : ℕ) (image : List ℕ) (n t : ℕ) (z : List ℕ)
    → taken_of block (runs_of w image n t) z ≡ joined_below t (λ i. taken_in z (step_block block (runs_of w image n t) i).spot)
unfolding taken_wires joined_below
taken_of_is block w image n t z = all_taken z (λ i. (step_block block (runs_of w image n t) i).spot) (range_with_len 0 t)

-- ---- by the machine
-- it takes a word, or it reads the tape and finds its end, or it doesn't read it
pub data AuxCase (w : ℕ) (st : State) : Type 0 where
  Takes : (v : ℕ) (rest : List ℕ) → st.aux ≡ v ∷ rest → reads_aux w st ≡ true → word_taken w st ≡ Some v → finds_end w st ≡ false → AuxCase w st
  Ends : st.aux ≡ [] → reads_aux w st ≡ true → word_taken w st ≡ None → finds_end w st ≡ true → AuxCase w st
  Other : reads_aux w st ≡ false → word_taken w st ≡ None → finds_end w st ≡ false → AuxCase w st

module _ (w : ℕ) (st : State) where
  taken_is : (b : Bool) → reads_aux w st ≡ b → word_taken w st ≡ (if b then slice_get st.aux 0 else None)
  taken_is b e = ap (λ r. if r then slice_get st.aux 0 else None) e

  ends_is : (b : Bool) (word : Option ℕ) → reads_aux w st ≡ b → slice_get st.aux 0 ≡ word → finds_end w st ≡ (b && not (is_some word))
  ends_is b word e f = ap₂ (λ r w. r && not (is_some w)) e f

  by_tape : (aux : List ℕ) → st.aux ≡ aux → reads_aux w st ≡ true → AuxCase w st
  by_tape [] same e =
      let zero_wires : slice_get st.aux 0 ≡ None = ap (λ l. slice_get l 0) same in
      Ends same e (taken_is true e ∙ zero_wires) (ends_is true None e zero_wires)
  by_tape (v ∷ rest) same e =
      let some : slice_get st.aux 0 ≡ Some v = ap (λ l. slice_get l 0) same in
      Takes v rest same e (taken_is true e ∙ some) (ends_is true (Some v) e some)

  by_read : (b : Bool) → reads_aux w st ≡ b → AuxCase w st
  by_read true e = by_tape st.aux refl e
  by_read false e = Other e (taken_is false e) (ends_is false (slice_get st.aux 0) e refl)

  -- what fits the tape is what it takes
  pub taken_fits : (takes : Bool) (word : ℕ) (rest : List ℕ) → AuxFits w st takes word rest → (takes ≡ true → reads_aux w st ≡ true)
      → (if takes then word ∷ [] else []) ≡ words_in (word_taken w st)
  taken_fits true word rest fits reads =
      let is : word_taken w st ≡ Some word = taken_is true (reads refl) ∙ ap (λ l. slice_get l 0) (fits.taken refl) in
      ap words_in (sym is)
  taken_fits false word rest fits reads = by_reads (reads_aux w st) refl
    where
      by_reads : (b : Bool) → reads_aux w st ≡ b → [] ≡ words_in (word_taken w st)
      by_reads true e =
          let is : word_taken w st ≡ None = taken_is true e ∙ ap (λ l. slice_get l 0) (fits.ends refl e) in
          ap words_in (sym is)
      by_reads false e = ap words_in (sym (taken_is false e))

  pub aux_case : AuxCase w st
  aux_case = by_read (reads_aux w st) refl
