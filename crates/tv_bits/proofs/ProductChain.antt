-- What the turns emit that make a product of factors.
use Rattle.tv_core.proofs.Common.{◌≡◌, ℕ, ◌+◌, ◌-◌, ◌<◌, [], arith, false, Result, refl, turns, put, wire, Combination, EmitsAll, all_last, emits_in}
use Rattle.tv_core.proofs.Common.{emits_no_turn, emits_turn, some_first, then_in, turn_some}
use Rattle.tv_core.specs.Sinks.{Meaning, Emits, PutsSome}
use Rattle.tv_core.specs.declared.sink.SinkFault.{SinkFault}
use Rattle.tv_bits.specs.Prefixes.{next_product, zero_product_of}
use Rattle.tv_bits.specs.Times.{times_of}

module _ {S : Type 0} {m : Meaning S} (factor : ℕ → Combination) where
  pub no_product : {s : S} {product : Combination} → m.broken s ≡ false → product ≡ factor 0
      → EmitsAll m s s (turns 0 (next_product factor) (factor 0)) 0 0 product
  no_product whole is = rw is (emits_no_turn _ _ whole)

  module _ (i : ℕ) {old mid : S} {k l : ℕ} {before : Combination} (d : EmitsAll m old mid (turns i (next_product factor) (factor 0)) k l before) where
    pub one_product : {new : S} {after : Combination} {w : ℕ}
        → EmitsAll m mid new (times_of before (factor (i + 1))) 1 1 w → after ≡ wire w
        → EmitsAll m old new (turns (i + 1) (next_product factor) (factor 0)) (k + 1) (l + 1) after
    unfolding next_product
    one_product e is = rw is (emits_turn _ _ i d (all_last _ e refl))

    pub product_refused : {new : S} (t : ℕ) {fault : SinkFault} → i < t - 2 → PutsSome m mid new (times_of before (factor (i + 1))) fault
        → PutsSome m old new (zero_product_of factor t) fault
    unfolding next_product zero_product_of
    product_refused t h p = some_first _ (turn_some _ _ i d h (some_first _ p))

    pub last_product : (new : S) {p q : ℕ} (t : ℕ) (result : Result (Unit {0}) SinkFault) → i ≡ t - 2 → k ≡ p → l + 1 ≡ q
        → Emits m mid new (put before (factor (t - 1)) []) 0 1 result → Emits m old new (zero_product_of factor t) p q result
    unfolding zero_product_of
    last_product new t result all made added e =
        let first = rw all at d in
        emits_in _ _ _ _ _ (omega (arith, made)) added (then_in _ _ _ _ _ first e)
