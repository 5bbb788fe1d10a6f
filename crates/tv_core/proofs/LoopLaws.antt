-- Loops: what their turns put and give, where a turn is refused, and what an assignment meets of them.
use Rattle.std.proofs.Common.{◌≡◌, ℕ, zero, suc, ◌+◌, ◌-◌, ◌*◌, ◌<◌, List, [], ◌∷◌, sym, ◌∙◌, subst, arith, inl, inr, add-one}
use Rattle.std.proofs.lemmas.Bool.{cases_eq}
use Rattle.tv_core.proofs.BelowLaws.{each_below-zero, each_below-suc}
use Rattle.tv_core.proofs.ValuesChain.{gives_then, gives_then_refused, gives_refused_then, gives_nothing}
use Rattle.tv_core.proofs.MeetsLaws.{parts, whole}
use Rattle.tv_core.specs.Below.{each_below}
use Rattle.tv_core.specs.Circuits.{Circuit, turns, pure, ◌>>=◌}
use Rattle.tv_core.specs.Values.{ValuesMeaning, GivesAll, GivesSome}
use Rattle.tv_core.specs.Laws.{Meets}
use Rattle.tv_core.specs.declared.sink.SinkFault.{SinkFault}

module _ {A : Type 0} (z : List ℕ) (piece : ℕ → A → Circuit A) (x : A) (next : ℕ) where
  -- where what n turns put is met, so is what turn number i put
  pub turn_met : (n i : ℕ) → i < n → Meets z (turns n piece x next).list → Meets z (piece i (turns i piece x next).answer (turns i piece x next).next).list
  unfolding turns
  turn_met zero i h met = absurd (omega arith)
  turn_met (suc n) i h met =
      let both = parts z (turns n piece x) (piece n) next met in
      elim (cases_eq i n) [
        | inl same ↦ subst (λ k. Meets z (piece k (turns k piece x next).answer (turns k piece x next).next).list) (sym same) both.1
        | inr apart ↦ turn_met n i (omega arith) both.0
      ]

  -- and the other way round
  pub turns_met : (n : ℕ) → ((i : ℕ) → i < n → Meets z (piece i (turns i piece x next).answer (turns i piece x next).next).list)
      → Meets z (turns n piece x next).list
  unfolding turns pure
  turns_met zero each = tt
  turns_met (suc n) each = whole z (turns n piece x) (piece n) next (turns_met n (λ i h. each i (omega arith))) (each n (omega arith))

-- where n turns end that make as many wires each
pub turns-next : {A : Type 0} (piece : ℕ → A → Circuit A) (x : A) (next made n : ℕ) → ((i : ℕ) (a : A) (at : ℕ) → (piece i a at).next ≡ at + made)
    → (turns n piece x next).next ≡ next + n * made
unfolding turns pure ◌>>=◌
turns-next piece x next made zero each = omega arith
turns-next piece x next made (suc n) each =
    each n (turns n piece x next).answer (turns n piece x next).next ∙ omega (arith, turns-next piece x next made n each)

-- each turn passes a number
module _ {V : Type 0} (m : ValuesMeaning V) (f : ℕ → ℕ) where
  pub gives_no_turn : (v : V) → GivesAll m v v (each_below 0 f)
  gives_no_turn v = rw each_below-zero (gives_nothing m v)

  pub gives_turn : (n : ℕ) (old mid new : V) → GivesAll m old mid (each_below n f) → GivesAll m mid new (f n ∷ []) → GivesAll m old new (each_below (n + 1) f)
  gives_turn n old mid new p q = rw (add-one, each_below-suc) (gives_then m (each_below n f) (f n ∷ []) old mid new p q)

  refused_by : (n more : ℕ) (old new : V) (fault : SinkFault) → GivesSome m old new (each_below (suc n) f) fault
      → GivesSome m old new (each_below (suc n + more) f) fault
  refused_by n zero old new fault p = let same : suc n + 0 ≡ suc n = omega arith in rw same p
  refused_by n (suc more) old new fault p =
      let same : suc n + suc more ≡ suc (suc n + more) = omega arith in
      rw (same, each_below-suc) (gives_refused_then m (each_below (suc n + more) f) (f (suc n + more) ∷ []) old new fault (refused_by n more old new fault p))

  pub gives_turn_refused : (n i : ℕ) (old mid new : V) (fault : SinkFault) → i < n → GivesAll m old mid (each_below i f) → GivesSome m mid new (f i ∷ []) fault
      → GivesSome m old new (each_below n f) fault
  gives_turn_refused n i old mid new fault h p q =
      let same : suc i + (n - suc i) ≡ n = omega arith in
      let last = each_below-suc i f in
      rw (← same) (refused_by i (n - suc i) old new fault (rw last (gives_then_refused m (each_below i f) (f i ∷ []) old mid new fault p q)))
