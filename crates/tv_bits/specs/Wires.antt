-- Lists of wires: the numbers that they hold, and a bound above them.
use Rattle.std.specs.Prelude.{ℕ, ◌+◌, List, [], ◌∷◌, map, max, slice_index}

-- the numbers in some wires
abbrev pub words_at : List ℕ → List ℕ → List ℕ
words_at z wires = map (λ w. slice_index z w) wires

-- one more than the greatest of some wires, and 0 where there is none
abbrev pub wires_top : List ℕ → ℕ
wires_top [] = 0
wires_top (w ∷ ws) = max (w + 1) (wires_top ws)
