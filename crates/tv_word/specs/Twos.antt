-- Signed numbers in two's complement of w bits.
use Rattle.std.specs.Prelude.{ℕ, ◌-◌, ◌%◌, ◌^◌, ℤ, pos, negsuc, Bool, nat_lt}

-- the number of w bits that is a signed number in two's complement: the number modulo 2 ^ w
abbrev pub twos : ℕ → ℤ → ℕ
twos w (pos n) = n % 2 ^ w
twos w (negsuc n) = 2 ^ w - 1 - n % 2 ^ w

-- a signed number lies from - 2 ^ (w - 1) up to 2 ^ (w - 1) - 1
abbrev pub fits : ℕ → ℤ → Bool
fits w (pos n) = nat_lt n (2 ^ (w - 1))
fits w (negsuc n) = nat_lt n (2 ^ (w - 1))
