-- The values of the levels of a thermometer, given one level after another.
use Rattle.tv_core.proofs.Common.{◌≡◌, ℕ, zero, suc, ◌+◌, ◌-◌, ◌^◌, ◌<◌, [], ◌++◌, length, inl, inr, refl, subst, ◌∙◌, ap, ap₂, arith, add-one, cases_eq}
use Rattle.tv_core.proofs.Common.{length-each_below, GivesAll}
use Rattle.std.proofs.Common.{length-append}
use Rattle.tv_core.proofs.ValuesChain.{gives_then, gives_then_refused, gives_refused_then, gives_nothing}
use Rattle.tv_core.specs.Values.{ValuesMeaning, GivesSome}
use Rattle.tv_core.specs.declared.sink.SinkFault.{SinkFault}
use Rattle.tv_shift.proofs.MarkTerms.{products-more}
use Rattle.tv_shift.specs.Thermometer.{products_below, level_value, level_values, thermometer_values}

pub values-none : (y : ℕ) → thermometer_values 0 y ≡ []
unfolding thermometer_values
values-none y = refl

pub values-more : (k y : ℕ) → thermometer_values (suc k) y ≡ thermometer_values k y ++ level_values y k
unfolding thermometer_values
values-more k y = refl

pub length-values : (k y : ℕ) → length (thermometer_values k y) ≡ products_below k
length-values zero y = ap length (values-none y)
length-values (suc k) y =
    let same : k + 1 ≡ suc k = omega arith in
    ap length (values-more k y) ∙ length-append (thermometer_values k y) (level_values y k)
    ∙ ap₂ (λ a b. a + b) (length-values k y) (length-each_below (2 ^ k - 1) (level_value y k)) ∙ products-more k ∙ ap products_below same

module _ {V : Type 0} (m : ValuesMeaning V) (y : ℕ) where
  pub gives_no_level : (v : V) → GivesAll m v v (thermometer_values 0 y)
  gives_no_level v = rw values-none (gives_nothing m v)

  pub gives_level : (k : ℕ) (old mid new : V) → GivesAll m old mid (thermometer_values k y) → GivesAll m mid new (level_values y k)
      → GivesAll m old new (thermometer_values (k + 1) y)
  gives_level k old mid new p q = rw (add-one, values-more) (gives_then m (thermometer_values k y) (level_values y k) old mid new p q)

  pub gives_level_refused : (k i : ℕ) (old mid new : V) (fault : SinkFault) → i < k → GivesAll m old mid (thermometer_values i y)
      → GivesSome m mid new (level_values y i) fault → GivesSome m old new (thermometer_values k y) fault
  gives_level_refused zero i old mid new fault h p q = absurd (omega arith)
  gives_level_refused (suc k) i old mid new fault h p q = rw values-more (elim (cases_eq i k) [
    | inl same ↦ subst (λ n. GivesSome m old new (thermometer_values n y ++ level_values y n) fault) same
        (gives_then_refused m (thermometer_values i y) (level_values y i) old mid new fault p q)
    | inr apart ↦ gives_refused_then m (thermometer_values k y) (level_values y k) old new fault (gives_level_refused k i old mid new fault (omega arith) p q)
  ])
