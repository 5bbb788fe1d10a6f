-- Worked rows: texts, and the numbers that they hold or their first fault, below 100 and at most four.
use Rattle.std.proofs.Common.{◌≡◌, [], ◌∷◌, Ok, Err, refl, codes}
use Rattle.tv_tape.specs.declared.items.TapeFault.TheVariants.{BadItem, TooBig, TooMany}
use Rattle.tv_tape.specs.Tape.{numbers_of, tape_of}

no_text : tape_of [] 100 4 ≡ Ok []
unfolding tape_of numbers_of
no_text = refl

blanks : tape_of (9 ∷ 10 ∷ 13 ∷ 32 ∷ []) 100 4 ≡ Ok []
unfolding tape_of numbers_of
blanks = refl

numbers : tape_of (codes "  03 4  0000000099") 100 4 ≡ Ok (3 ∷ 4 ∷ 99 ∷ [])
unfolding tape_of numbers_of
numbers = refl

big : tape_of (codes "1 100 x") 100 4 ≡ Err (TooBig 1)
unfolding tape_of numbers_of
big = refl

no_number : tape_of (codes "1 x 100") 100 4 ≡ Err (BadItem 1)
unfolding tape_of numbers_of
no_number = refl

signed : tape_of (codes "+1") 100 4 ≡ Err (BadItem 0)
unfolding tape_of numbers_of
signed = refl

fifth : tape_of (codes "1 2 3 4 x") 100 4 ≡ Err (TooMany 4)
unfolding tape_of numbers_of
fifth = refl
