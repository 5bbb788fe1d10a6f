-- Cases over a number below a literal, as an opcode.
use Rattle.std.proofs.Common.{ℕ, zero, suc, ◌<◌, sym, subst, arith, inl, inr}
use Rattle.std.proofs.lemmas.Bool.{cases_eq}

-- one proof for each number below n, the last one first
abbrev pub EachBelow : ℕ → (ℕ → Type 0) → Type 0
EachBelow zero Q = Unit {0}
EachBelow (suc n) Q = Q n × EachBelow n Q

pub below : (n : ℕ) (Q : ℕ → Type 0) → EachBelow n Q → (k : ℕ) → k < n → Q k
below zero Q each k h = absurd (omega arith)
below (suc n) Q each k h = elim (cases_eq k n) [
  | inl same ↦ subst Q (sym same) each.0
  | inr apart ↦ below n Q each.1 k (omega arith)
]
