-- A function's values at the numbers below n: their sum, their list, and a combination of wires in a row.
use Rattle.std.specs.Prelude.{ℕ, ◌+◌, List, map}
use Rattle.std.specs.List.{range_with_len, sum_by, flat_map}
use Rattle.tv_core.specs.Constraints.{Combination}

-- f 0 + f 1 + .. + f (n - 1)
unfoldable pub sum_below : ℕ → (ℕ → ℕ) → ℕ
sum_below n f = sum_by f (range_with_len 0 n)

-- f 0, f 1, .. f (n - 1)
unfoldable pub each_below : {A : Type 0} → ℕ → (ℕ → A) → List A
each_below n f = map f (range_with_len 0 n)

-- the lists f 0, f 1, .. f (n - 1), one after another
unfoldable pub joined_below : {A : Type 0} → ℕ → (ℕ → List A) → List A
joined_below n f = flat_map f (range_with_len 0 n)

-- n wires that follow each other from a first one on, number i of them with the coefficient c i
unfoldable pub weighted : ℕ → ℕ → (ℕ → ℕ) → Combination
weighted first n c = map (λ i. (c i, first + i)) (range_with_len 0 n)
