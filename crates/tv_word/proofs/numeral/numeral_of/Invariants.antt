use Rattle.std.proofs.Common.{◌≡◌, ◌<◌, ◌^◌, true, take}
use Rattle.std.specs.Char.{is_digit}
use Rattle.std.specs.List.{list_all}
use Rattle.tv_word.specs.Numeral.{positional}
use Rattle.tv_word.proofs.numeral.numeral_of.Given as goal

-- the bytes so far are digits, and represent the number so far
abbrev pub invariant-loop-byte : goal.invariant-loop-byte
invariant-loop-byte l =
    (list_all (λ c. is_digit c l.base) (take l.byte-index l.text) ≡ true)
    × (l.number ≡ positional l.base (take l.byte-index l.text))
    × (l.number < 2 ^ 64)
