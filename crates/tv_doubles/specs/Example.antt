-- Five double lines that meet all premises: an image pair, a tape word, a guard, a fetch of the image pair, and the answer.
use Rattle.std.specs.Prelude.{ℕ, zero, suc, ◌-◌, ◌^◌}
use Rattle.tv_doubles.specs.Doubles.{DoubleLine, HonestDoubles, no_words}
use Rattle.tv_doubles.specs.Successors.{IsGreatest, successor}
use Rattle.tv_doubles.specs.Whole.{Kind, AreLines, Reaches, AllMeet, reach_at, excess_at}
use Rattle.tv_doubles.specs.Whole.Kind.{Step, Image, Tape, Guard}

-- memory has the double cells 0 and 1, the tape 2, and null is 3
abbrev pub example_line : ℕ → DoubleLine
example_line zero = record { cell = 0; old = no_words; new = record { first = 5; second = 7 } }
example_line (suc zero) = record { cell = 2; old = no_words; new = record { first = 9; second = 0 } }
example_line (suc (suc zero)) = record { cell = 1; old = no_words; new = no_words }
example_line (suc (suc (suc zero))) = record { cell = 0; old = record { first = 5; second = 7 }; new = record { first = 5; second = 7 } }
example_line (suc (suc (suc (suc i)))) = record { cell = 3; old = no_words; new = no_words }

abbrev pub example_kind : ℕ → Kind
example_kind zero = Image
example_kind (suc zero) = Tape
example_kind (suc (suc zero)) = Guard
example_kind (suc (suc (suc i))) = Step

pub record ExampleIsRight : Type 0 where
  pub lines : AreLines (2 ^ 32) 5 example_line example_kind
  pub reaches : Reaches 5 example_line example_kind (λ i. 3)
  pub honest : HonestDoubles 5 example_line
  pub greatest : IsGreatest 5 example_line (5 - 1)
  pub meet : AllMeet (2 ^ 32) 5 example_line example_kind (successor 5 example_line) (reach_at 5 example_line example_kind) (excess_at (2 ^ 32) 5 example_line)
