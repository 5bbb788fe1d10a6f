-- Worked rows of the definitions on order: 54 is 110110 and 45 is 101101, in chunks of 2 bits.
use Rattle.tv_core.proofs.Common.{◌≡◌, ◌-◌, refl}
use Rattle.tv_bits.specs.Order.{prefix_difference, first_difference}
use Rattle.tv_core.specs.declared.field.TheConstants.{P}

whole_numbers : prefix_difference 54 45 0 ≡ 9
whole_numbers = refl

without_a_chunk : prefix_difference 54 45 2 ≡ 2
without_a_chunk = refl

the_other_way : prefix_difference 45 54 4 ≡ P - 1
the_other_way = refl

first_above : first_difference 2 3 54 45 ≡ 1
unfolding first_difference
first_above = refl

first_below : first_difference 2 3 45 54 ≡ 0
unfolding first_difference
first_below = refl

first_of_words : first_difference 8 4 4294967295 0 ≡ 255
unfolding first_difference
first_of_words = refl
