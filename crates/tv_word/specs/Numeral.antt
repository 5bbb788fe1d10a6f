-- What a run of digits says.
use Rattle.std.specs.Prelude.{ℕ, ◌+◌, ◌*◌, ◌^◌, List, [], ◌∷◌, length, Option, Some, None, Bool, ◌&&◌, nat_lt, if◌then◌else◌}
use Rattle.std.specs.List.{list_all}
use Rattle.std.specs.Char.{digit_value, is_digit}

-- the value of digits in a base: the sum of each digit times the base to the power of how many digits follow it
abbrev pub positional : ℕ → List ℕ → ℕ
positional base [] = 0
positional base (c ∷ cs) = digit_value c * base ^ length cs + positional base cs

-- one or more bytes, each a digit of the base
abbrev pub is_numeral : ℕ → List ℕ → Bool
is_numeral base text = nat_lt 0 (length text) && list_all (λ c. is_digit c base) text

-- the value of a text of digits, where it lies below a bound
abbrev pub numeral : ℕ → ℕ → List ℕ → Option ℕ
numeral base bound text =
    if is_numeral base text && nat_lt (positional base text) bound then Some (positional base text) else None
