-- What calls emit whose circuits are written otherwise.
use Rattle.tv_core.proofs.Common.{◌≡◌, ℕ, ◌≤◌, subst, arith, top, length, Circuit, Combination, EmitsAll}
use Rattle.std.proofs.Common.{max}
use Rattle.tv_core.specs.Sinks.{Meaning, PutsSome}
use Rattle.tv_core.specs.declared.sink.SinkFault.{SinkFault}

-- what a call put, where a circuit is another
module _ {S : Type 0} {m : Meaning S} {A : Type 0} {a b : Circuit A} (same : a ≡ b) {old new : S} where
  pub all_at : {r : A} {k l : ℕ} → EmitsAll m old new a k l r → EmitsAll m old new b k l r
  all_at {r} {k} {l} p = subst (λ c. EmitsAll m old new c k l r) same p

  pub some_at : {fault : SinkFault} → PutsSome m old new a fault → PutsSome m old new b fault
  some_at {fault} p = subst (λ c. PutsSome m old new c fault) same p

pub max_within : {a b x y : Combination} (n : ℕ) → a ≡ x → b ≡ y → top x ≤ n → top y ≤ n → max (top a) (top b) ≤ n
max_within n e f g h = rw (e, f) (omega arith)

pub max_short : {a b x y : Combination} → a ≡ x → b ≡ y → length x ≤ 64 → length y ≤ 64 → max (length a) (length b) ≤ 64
max_short e f g h = rw (e, f) (omega arith)
