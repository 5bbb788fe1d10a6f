-- What an assignment has at the wires of circuits one after another.
use Rattle.tv_core.proofs.Common.{◌≡◌, ℕ, ◌+◌, ◌*◌, ◌%◌, ◌==◌, if◌then◌else◌, List, [], ◌∷◌, ◌++◌, sym, ◌∙◌, ap₂, subst, slice_index, Meets-split, Meets-join}
use Rattle.tv_core.proofs.Common.{HasFrom-split, Circuit, pure, ◌>>=◌, Combination, value, Assigns, Meets, HasFrom}
use Rattle.tv_bits.proofs.TimesLaws.{times_sound, times_complete, times_next}
use Rattle.tv_bits.specs.Times.{times_of}
use Rattle.tv_core.specs.Inverse.{inverse_of}
use Rattle.tv_core.specs.Laws.{Fills}
use Rattle.tv_core.specs.declared.field.TheConstants.{P}
use Rattle.tv_inputs.proofs.AccumulationLaws.{accumulated_sound, accumulated_complete, accumulated_next}
use Rattle.tv_inputs.proofs.TapeGates.{if_zero_sound, if_zero_complete, if_zero_next}
use Rattle.tv_inputs.specs.Accumulation.{accumulated_of}
use Rattle.tv_inputs.specs.Tapes.{if_zero_of}

-- z settles a circuit: where z meets its list, Q holds of its answer, and where z has these values at the wires that it
-- makes, z meets its list
pub record Settles (z : List ℕ) {A : Type 0} (circuit : Circuit A) (values : List ℕ) (Q : A → Type 0) : Type 0 where
  pub sound : (next : ℕ) → Meets z (circuit next).list → Q (circuit next).answer
  pub complete : (next : ℕ) → HasFrom z next values → Meets z (circuit next).list

module _ {z : List ℕ} {B : Type 0} {Q : B → Type 0} where
  -- a circuit, and the one after it, by what holds of the answer of the first one
  pub settles_then : {A : Type 0} (first : Circuit A) (second : A → Circuit B) (vs ws : List ℕ) {S : A → Type 0} → Fills first vs → Settles z first vs S
      → ((a : A) → S a → Settles z (second a) ws Q) → Settles z (first >>= second) (vs ++ ws) Q
  unfolding ◌>>=◌
  settles_then first second vs ws ends p q = record {
    sound = λ next meets. let m = Meets-split z (first next).list _ meets in (q (first next).answer (p.sound next m.0)).sound (first next).next m.1;
    complete = λ next has.
        let h = HasFrom-split z next vs ws has in
        let m = p.complete next h.0 in
        Meets-join z (first next).list _ m ((q (first next).answer (p.sound next m)).complete (first next).next
        (subst (λ k. HasFrom z k ws) (sym (ends next)) h.1));
  }

  -- a circuit whose answer is passed on in another form
  pub settles_to : {A : Type 0} (first : Circuit A) (f : A → B) {vs : List ℕ} {S : A → Type 0} → Settles z first vs S → ((a : A) → S a → Q (f a))
      → Settles z (first >>= λ a. pure (f a)) vs Q
  unfolding ◌>>=◌ pure
  settles_to first f p q = record {
    sound = λ next meets. q (first next).answer (p.sound next (Meets-split z (first next).list [] meets).0);
    complete = λ next has. Meets-join z (first next).list [] (p.complete next has) tt;
  }

  pub settles_pure : (b : B) → Q b → Settles z (pure b) [] Q
  unfolding pure
  settles_pure b q = record { sound = λ next meets. q; complete = λ next has. tt }

-- ---- of one wire: a product, a product added to a sum, and a number where another is 0
module _ {z : List ℕ} (assigns : Assigns z) where
  pub settles_times : (x y : Combination) {v : ℕ} → value x z * value y z % P ≡ v → Settles z (times_of x y) (v ∷ []) (λ k. slice_index z k ≡ v)
  settles_times x y e = record {
    sound = λ next meets. times_sound z next x y assigns meets ∙ e;
    complete = λ next has. times_complete z next x y assigns (has.0 ∙ sym e, tt);
  }

  pub settles_sum : (x f g : Combination) {v : ℕ} → (value x z + value f z * value g z) % P ≡ v
      → Settles z (accumulated_of x f g) (v ∷ []) (λ k. slice_index z k ≡ v)
  settles_sum x f g e = record {
    sound = λ next meets. accumulated_sound z next x f g assigns meets ∙ e;
    complete = λ next has. accumulated_complete z next x f g assigns (has.0 ∙ sym e, tt);
  }

  settles_if_zero : (g x : Combination) {m n : ℕ} → value g z ≡ m → value x z ≡ n
      → Settles z (if_zero_of g x) ((if n == 0 then m else 0) ∷ inverse_of n * m % P ∷ []) (λ k. slice_index z k ≡ (if n == 0 then m else 0))
  settles_if_zero g x e f = record {
    sound = λ next meets. if_zero_sound z next g x assigns meets ∙ ap₂ (λ n m. if n == 0 then m else 0) f e;
    complete = λ next has. if_zero_complete z next g x assigns (has.0 ∙ sym (ap₂ (λ n m. if n == 0 then m else 0) f e))
        (has.1.0 ∙ sym (ap₂ (λ n m. inverse_of n * m % P) f e));
  }

  module _ {B : Type 0} {Q : B → Type 0} {ws : List ℕ} (second : ℕ → Circuit B) where
    pub times_then : (x y : Combination) {v : ℕ} → value x z * value y z % P ≡ v → ((k : ℕ) → slice_index z k ≡ v → Settles z (second k) ws Q)
        → Settles z (times_of x y >>= second) (v ∷ ws) Q
    times_then x y {v} e rest = settles_then (times_of x y) second (v ∷ []) ws (times_next x y) (settles_times x y e) rest

    pub sum_then : (x f g : Combination) {v : ℕ} → (value x z + value f z * value g z) % P ≡ v
        → ((k : ℕ) → slice_index z k ≡ v → Settles z (second k) ws Q) → Settles z (accumulated_of x f g >>= second) (v ∷ ws) Q
    sum_then x f g {v} e rest = settles_then (accumulated_of x f g) second (v ∷ []) ws (accumulated_next x f g) (settles_sum x f g e) rest

    pub if_zero_then : (g x : Combination) {m n : ℕ} → value g z ≡ m → value x z ≡ n
        → ((k : ℕ) → slice_index z k ≡ (if n == 0 then m else 0) → Settles z (second k) ws Q)
        → Settles z (if_zero_of g x >>= second) ((if n == 0 then m else 0) ∷ inverse_of n * m % P ∷ ws) Q
    if_zero_then g x {m} {n} e f rest =
        settles_then (if_zero_of g x) second ((if n == 0 then m else 0) ∷ inverse_of n * m % P ∷ []) ws (if_zero_next g x) (settles_if_zero g x e f) rest
