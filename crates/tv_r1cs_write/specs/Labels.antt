-- The labels that a system's wires get.
use Rattle.std.specs.Prelude.{ℕ, List}
use Rattle.std.specs.List.Sorted.{IsStrictlyIncreasing}
use Rattle.tv_r1cs_write.specs.Bytes.{others}
use Rattle.tv_r1cs_write.specs.declared.parts.Labels.{Labels}
use Rattle.tv_r1cs_write.specs.declared.parts.Labels.TheVariants as labels

-- labels, each of them listed, or the numbers below another one but for some
abbrev pub labels_of : Labels → List ℕ
labels_of (labels.Listed list) = list.now
labels_of (labels.Others count but) = others count but.now

-- numbers that are left out rise
abbrev pub HasOrder : Labels → Type 0
HasOrder (labels.Listed list) = Unit {0}
HasOrder (labels.Others count but) = IsStrictlyIncreasing but.now
