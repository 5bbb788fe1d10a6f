-- What is extracted is a run of the assignment, and each satisfying assignment has one.
use Rattle.tv_core.proofs.Common.{◌≡◌, ◌≢◌, ℕ, zero, suc, ◌+◌, ◌<◌, ◌^◌, Bool, true, false, List, [], ◌∷◌, length, map, refl, sym, ap, ap₂, ◌∙◌, subst, Result}
use Rattle.tv_core.proofs.Common.{Ok, Err, All, lt-ltb, eq-eqb, eqb-true, length-map, range_with_len, slice_index, HasFrom}
use Rattle.std.proofs.lemmas.Bool.{ltb-true}
use Rattle.std.proofs.lemmas.List.Elements.{All-nil, All-cons, All-head, All-tail}
use Rattle.std.proofs.lemmas.List.FromFn.{length-range_with_len}
use Rattle.std.specs.Prelude.{◌==◌, nat_lt}
use Rattle.tv_stages.specs.declared.nets.Net.{Net}
use Rattle.tv_block.specs.Block.{block_of}
use Rattle.tv_step.proofs.EndLaws.{answer_is_within}
use Rattle.tv_step.specs.Machine.{start, end_of}
use Rattle.tv_step.specs.State.{State}
use Rattle.tv_step.specs.Range.{AreWords}
use Rattle.tv_step.specs.declared.end.End.{End}
use Rattle.tv_step.specs.declared.end.End.TheVariants as ends
use Rattle.tv_layout.proofs.Systems.{system_sound}
use Rattle.tv_layout.specs.Layout.{taken_wires}
use Rattle.tv_layout.specs.Places.{tape_at, runs_of}
use Rattle.tv_layout.specs.Systems.{system_of}
use Rattle.tv_extract.proofs.WordLaws.{refused_for}
use Rattle.tv_extract.specs.Extraction.{◌>>=◌, word_at, words_at, answering, run_in}
use Rattle.tv_extract.specs.Runs.{IsRunOf, ExtractedIsRun, SatisfyingHaveRuns}
use Rattle.tv_step.specs.declared.not_run.NotRun.{NotRun}
use Rattle.tv_extract.specs.declared.run.Run.{Run}

-- ---- chains of answers
then_ok : {A B : Type 0} (first : Result A NotRun) (f : A → Result B NotRun) (b : B) → (first >>= f) ≡ Ok b → (a : A) × (first ≡ Ok a) × (f a ≡ Ok b)
then_ok (Ok a) f b e = (a, refl, e)
then_ok (Err fault) f b e = absurd cc

then_of : {A B : Type 0} (first : Result A NotRun) (f : A → Result B NotRun) (a : A) → first ≡ Ok a → (first >>= f) ≡ f a
then_of first f a e = ap (λ r. r >>= f) e

abbrev SameOk : {A : Type 0} → Result A NotRun → A → Type 0
SameOk (Ok a) b = a ≡ b
SameOk (Err fault) b = Unit {0}

ok_same : {A : Type 0} (a b : A) (first : Result A NotRun) → first ≡ Ok a → first ≡ Ok b → a ≡ b
ok_same a b first e f = subst (λ r. SameOk r b) e (subst (λ r. SameOk r b) (sym f) refl)

-- ---- words at wires
word_ok : (w : ℕ) (z : List ℕ) (wire v : ℕ) → word_at w z wire ≡ Ok v → (v ≡ slice_index z wire) × (v < 2 ^ w)
word_ok w z wire v e = by_test (nat_lt (slice_index z wire) (2 ^ w)) refl
  where
    by_test : (b : Bool) → nat_lt (slice_index z wire) (2 ^ w) ≡ b → (v ≡ slice_index z wire) × (v < 2 ^ w)
    by_test true test =
        let same : word_at w z wire ≡ Ok (slice_index z wire) = rw test refl in
        let is : v ≡ slice_index z wire = ok_same v (slice_index z wire) (word_at w z wire) e same in
        (is, subst (λ u. u < 2 ^ w) (sym is) (ltb-true (slice_index z wire) (2 ^ w) test))
    by_test false test =
        let other : word_at w z wire ≡ Err (NotRun.WideWire wire) = rw test refl in
        absurd cc

word_is : (w : ℕ) (z : List ℕ) (wire : ℕ) → slice_index z wire < 2 ^ w → word_at w z wire ≡ Ok (slice_index z wire)
word_is w z wire small = rw (lt-ltb (slice_index z wire) (2 ^ w) small) refl

words_ok : (w : ℕ) (z wires words : List ℕ) → words_at w z wires ≡ Ok words → (words ≡ map (slice_index z) wires) × AreWords w words
words_ok w z [] words e =
    let none : words ≡ [] = ok_same words [] (words_at w z []) e refl in
    (none, subst (AreWords w) (sym none) (All-nil (λ v. v < 2 ^ w)))
words_ok w z (wire ∷ wires) words e =
    let first = then_ok (word_at w z wire) (λ word. words_at w z wires >>= (λ words. Ok (word ∷ words))) words e in
    let rest = then_ok (words_at w z wires) (λ words. Ok (first.0 ∷ words)) words first.2 in
    let here = word_ok w z wire first.0 first.1 in
    let more = words_ok w z wires rest.0 rest.1 in
    let is : first.0 ∷ rest.0 ≡ words = ok_same (first.0 ∷ rest.0) words (Ok (first.0 ∷ rest.0)) refl rest.2 in
    (sym is ∙ ap₂ (λ (v : ℕ) (vs : List ℕ). v ∷ vs) here.0 more.0, subst (AreWords w) is (All-cons (λ v. v < 2 ^ w) first.0 rest.0 here.1 more.1))

words_are : (w : ℕ) (z wires : List ℕ) → AreWords w (map (slice_index z) wires) → words_at w z wires ≡ Ok (map (slice_index z) wires)
words_are w z [] words = refl
words_are w z (wire ∷ wires) words =
    then_of (word_at w z wire) (λ word. words_at w z wires >>= (λ words. Ok (word ∷ words))) (slice_index z wire)
    (word_is w z wire (All-head (λ v. v < 2 ^ w) (slice_index z wire) (map (slice_index z) wires) words))
    ∙ then_of (words_at w z wires) (λ words. Ok (slice_index z wire ∷ words)) (map (slice_index z) wires)
    (words_are w z wires (All-tail (λ v. v < 2 ^ w) (slice_index z wire) (map (slice_index z) wires) words))

-- ---- the words of the tapes
-- an assignment has at wires in a row what it has there
has_row : (z : List ℕ) (first n : ℕ) → HasFrom z first (map (slice_index z) (range_with_len first n))
has_row z first n = by_count n first
  where
    by_count : (n first : ℕ) → HasFrom z first (map (slice_index z) (range_with_len first n))
    by_count zero first = tt
    by_count (suc n) first = (refl, by_count n (first + 1))

-- ---- the end of the run
answering_ok : (answer : ℕ) (tape aux : List ℕ) (end : End) (run : Run) → answering answer tape aux end ≡ Ok run
    → (end ≡ ends.Answer answer run.step) × (run.answer ≡ answer) × (run.tape ≡ tape) × (run.aux ≡ aux)
answering_ok answer tape aux (ends.Answer v step) run e = by_test (v == answer) refl
  where
    by_test : (b : Bool) → (v == answer) ≡ b → (ends.Answer v step ≡ ends.Answer answer run.step) × (run.answer ≡ answer) × (run.tape ≡ tape) × (run.aux ≡ aux)
    by_test true test =
        let same : v ≡ answer = eqb-true v answer test in
        let ok : answering answer tape aux (ends.Answer v step) ≡ Ok (record { answer = answer; tape = tape; aux = aux; step = step }) = rw test refl in
        let is : run ≡ record { answer = answer; tape = tape; aux = aux; step = step } = ok_same run _ (answering answer tape aux (ends.Answer v step)) e ok in
        rw is (ap (λ u. ends.Answer u step) same, refl, refl, refl)
    by_test false test =
        let other : answering answer tape aux (ends.Answer v step) ≡ Err (NotRun.NotARun (ends.Answer v step)) = rw test refl in
        absurd cc
answering_ok answer tape aux (ends.Undefined op step) run e = absurd cc
answering_ok answer tape aux (ends.Silent steps) run e = absurd cc

same_end : (w : ℕ) (image : List ℕ) (t : ℕ) (x tape u aux : List ℕ) (v answer step : ℕ) → tape ≡ x → aux ≡ u → answer ≡ v
    → end_of w t (start w image x u) ≡ ends.Answer v step → end_of w t (start w image tape aux) ≡ ends.Answer answer step
same_end w image t x tape u aux v answer step same_tape same_aux same_answer e =
    ap₂ (λ (l m : List ℕ). end_of w t (start w image l m)) same_tape same_aux ∙ e ∙ ap (λ a. ends.Answer a step) (sym same_answer)

-- ---- the run, by what is found on the way
pub words_small : (w : ℕ) (z wires words : List ℕ) → words_at w z wires ≡ Ok words → All (λ v. v < 2 ^ w) words
words_small w z wires words e = (words_ok w z wires words e).1

module _ (w : ℕ) (net : Net) (image : List ℕ) (n t : ℕ) (z : List ℕ) where
  pub run_miscounted : length z ≢ (system_of net (runs_of w image n t)).wires
      → run_in net (runs_of w image n t) z ≡ Err (NotRun.WireCount (length z) (system_of net (runs_of w image n t)).wires)
  unfolding run_in
  run_miscounted other = by_test (length z == (system_of net (runs_of w image n t)).wires) refl
    where
      by_test : (b : Bool) → (length z == (system_of net (runs_of w image n t)).wires) ≡ b
          → run_in net (runs_of w image n t) z ≡ Err (NotRun.WireCount (length z) (system_of net (runs_of w image n t)).wires)
      by_test true is = absurd (other (eqb-true (length z) (system_of net (runs_of w image n t)).wires is))
      by_test false is = rw is refl

  pub run_wide : (fault : NotRun) → length z ≡ (system_of net (runs_of w image n t)).wires → word_at w z 1 ≡ Err fault
      → run_in net (runs_of w image n t) z ≡ Err fault
  unfolding run_in
  run_wide fault many refused = rw (eq-eqb (length z) (system_of net (runs_of w image n t)).wires many, refused) refl

  pub run_wide_tape : (answer : ℕ) (fault : NotRun) → length z ≡ (system_of net (runs_of w image n t)).wires → word_at w z 1 ≡ Ok answer
      → words_at w z (range_with_len tape_at n) ≡ Err fault → run_in net (runs_of w image n t) z ≡ Err fault
  unfolding run_in
  run_wide_tape answer fault many first refused = rw (eq-eqb (length z) (system_of net (runs_of w image n t)).wires many, first, refused) refl

  pub run_wide_aux : (answer : ℕ) (tape : List ℕ) (fault : NotRun) → length z ≡ (system_of net (runs_of w image n t)).wires → word_at w z 1 ≡ Ok answer
      → words_at w z (range_with_len tape_at n) ≡ Ok tape → words_at w z (taken_wires (block_of w) (runs_of w image n t) z) ≡ Err fault
      → run_in net (runs_of w image n t) z ≡ Err fault
  unfolding run_in
  run_wide_aux answer tape fault many first second refused =
      rw (eq-eqb (length z) (system_of net (runs_of w image n t)).wires many, first, second, refused) refl

  -- what the run that ends so gives
  pub run_ends : (answer steps : ℕ) (tape aux x u : List ℕ) (machine : State) (end : End) (result : Result Run NotRun)
      → length z ≡ (system_of net (runs_of w image n t)).wires → word_at w z 1 ≡ Ok answer → words_at w z (range_with_len tape_at n) ≡ Ok tape
      → words_at w z (taken_wires (block_of w) (runs_of w image n t) z) ≡ Ok aux → x ≡ tape → u ≡ aux → machine ≡ start w image x u → steps ≡ t
      → end ≡ end_of w steps machine → result ≡ answering answer tape aux end → run_in net (runs_of w image n t) z ≡ result
  unfolding run_in
  run_ends answer steps tape aux x u machine end result many first second third a b c d e f =
      rw (eq-eqb (length z) (system_of net (runs_of w image n t)).wires many, first, second, third, f, e, d, c, a, b) refl

-- ---- the laws
pub extracted_is_run : ExtractedIsRun
unfolding run_in
extracted_is_run net runs z run e = by_test (length z == (system_of net runs).wires) refl
  where
    chain : Result Run NotRun
    chain =
        word_at runs.width z 1
        >>= (λ answer. words_at runs.width z (range_with_len tape_at runs.n)
        >>= (λ tape. words_at runs.width z (taken_wires (block_of runs.width) runs z)
        >>= (λ aux. answering answer tape aux (end_of runs.width runs.t (start runs.width runs.image tape aux)))))

    of_chain : chain ≡ Ok run → IsRunOf runs z run
    of_chain is =
        let a = then_ok (word_at runs.width z 1) _ run is in
        let x = then_ok (words_at runs.width z (range_with_len tape_at runs.n)) _ run a.2 in
        let u = then_ok (words_at runs.width z (taken_wires (block_of runs.width) runs z)) _ run x.2 in
        let answer = word_ok runs.width z 1 a.0 a.1 in
        let tape = words_ok runs.width z (range_with_len tape_at runs.n) x.0 x.1 in
        let aux = words_ok runs.width z (taken_wires (block_of runs.width) runs z) u.0 u.1 in
        let end = answering_ok a.0 x.0 u.0 (end_of runs.width runs.t (start runs.width runs.image x.0 u.0)) run u.2 in
        let answers : end_of runs.width runs.t (start runs.width runs.image run.tape run.aux) ≡ ends.Answer run.answer run.step =
        same_end runs.width runs.image runs.t x.0 run.tape u.0 run.aux a.0 run.answer run.step end.2 end.3 end.1 end.0 in
        record {
          answer = end.1 ∙ answer.0;
          many = ap length (end.2 ∙ tape.0) ∙ length-map (range_with_len tape_at runs.n) (slice_index z) ∙ length-range_with_len tape_at runs.n;
          tape = subst (HasFrom z tape_at) (sym (end.2 ∙ tape.0)) (has_row z tape_at runs.n);
          aux = end.3 ∙ aux.0;
          tape_words = subst (AreWords runs.width) (sym end.2) tape.1;
          aux_words = subst (AreWords runs.width) (sym end.3) aux.1;
          answers = answers;
          within = (answer_is_within runs.width runs.t (start runs.width runs.image run.tape run.aux) run.answer run.step answers).1;
        }

    by_test : (b : Bool) → (length z == (system_of net runs).wires) ≡ b → IsRunOf runs z run
    by_test true test = let same : run_in net runs z ≡ chain = rw test refl in of_chain (sym same ∙ e)
    by_test false test =
        let other : run_in net runs z ≡ Err (NotRun.WireCount (length z) (system_of net runs).wires) = rw test refl in
        absurd cc

pub satisfying_have_runs : SatisfyingHaveRuns
unfolding run_in
satisfying_have_runs net runs z fits sat =
    let run = system_sound net runs x z fits long (has_row z tape_at runs.n) sat in
    let end : end_of runs.width runs.t (start runs.width runs.image x u) ≡ ends.Answer (slice_index z 1) run.accepts.0 = run.accepts.2 in
    let counted : (length z == (system_of net runs).wires) ≡ true = eq-eqb (length z) (system_of net runs).wires sat.each_wire in
    let same : (slice_index z 1 == slice_index z 1) ≡ true = eq-eqb (slice_index z 1) (slice_index z 1) refl in
    record {
      run = record { answer = slice_index z 1; tape = x; aux = u; step = run.accepts.0 };
      is = rw (
        counted,
        word_is runs.width z 1 run.answer,
        words_are runs.width z (range_with_len tape_at runs.n) run.tape,
        words_are runs.width z (taken_wires (block_of runs.width) runs z) run.taken,
        end,
        same,
      ) refl;
      reads = run.reads;
    }
  where
    x : List ℕ
    x = map (slice_index z) (range_with_len tape_at runs.n)

    long : length x ≡ runs.n
    long = length-map (range_with_len tape_at runs.n) (slice_index z) ∙ length-range_with_len tape_at runs.n

    u : List ℕ
    u = map (slice_index z) (taken_wires (block_of runs.width) runs z)

pub ruleset extracted = (words_small, run_miscounted, run_wide, run_wide_tape, run_wide_aux, refused_for)
