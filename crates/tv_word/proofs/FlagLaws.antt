-- A truth value as a number.
use Rattle.std.proofs.Common.{◌<◌, Bool, true, false, arith}
use Rattle.tv_word.specs.Word.{flag_of}

pub flag_small : (b : Bool) → flag_of b < 2
flag_small true = omega arith
flag_small false = omega arith
