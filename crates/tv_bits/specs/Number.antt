-- The number that bits represent, as a combination.
use Rattle.tv_bits.specs.Bits.{bits_combination}
use Rattle.tv_bits.specs.declared.bit_wires.Bits.{Bits}
use Rattle.tv_core.specs.Constraints.{Combination}

abbrev pub number_of : Bits → Combination
number_of bits = bits_combination bits.first bits.n
