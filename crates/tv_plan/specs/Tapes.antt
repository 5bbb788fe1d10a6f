-- The numbers of tapes.
use Rattle.std.specs.Prelude.{◌≡◌, ℕ, ◌+◌, List, [], ◌∷◌, Result, Ok}
use Rattle.tv_core.specs.declared.field.TheConstants.{P}
use Rattle.tv_tape.specs.Tape.{tape_of}
use Rattle.tv_tape.specs.declared.items.TapeFault.{TapeFault}
use Rattle.tv_tape.specs.declared.items.TapeFault.TheVariants as tape
use Rattle.tv_core.specs.declared.limits.TheConstants.{TEXT_BYTES, CHECK_WORDS}
use Rattle.tv_plan.specs.declared.refusal.Bad.{Bad}
use Rattle.tv_plan.specs.declared.refusal.Bad.TheVariants as bad
use Rattle.tv_plan.specs.declared.refusal.What.{What}
use Rattle.tv_plan.specs.declared.refusal.What.TheVariants.{TapeWords, TextBytes}
use Rattle.tv_plan.specs.declared.refusal.Stop.{Stop}
use Rattle.tv_plan.specs.declared.refusal.Stop.TheVariants.{Contents, Memory}
use Rattle.tv_plan.specs.Finds.{made_by}
use Rattle.tv_plan.specs.Flaws.{Flaw, Flaw.{OfTape, OverLimit}}
use Rattle.tv_plan.specs.Plan.{within}

-- what a fault of the tape at a word is; it is one item more that passes the limit
abbrev pub tape_stop : ℕ → What → TapeFault → Stop
tape_stop word what (tape.BadItem at) = Contents (bad.Tape word at)
tape_stop word what (tape.TooBig at) = Contents (bad.Tape word at)
tape_stop word what (tape.TooMany most) = Contents (bad.Limit what (most + 1) most)
tape_stop word what tape.Memory = Memory

-- the numbers of the text of the tape at a word: below a bound each, and at most this many of this quantity
unfoldable pub numbers_of : ℕ → What → ℕ → ℕ → List ℕ → Result (List ℕ) Bad
numbers_of word what below most text = made_by what (tape_stop word what) (tape_of text below most)

-- what the file of the tape at a word may be refused for, the numbers being of this quantity
abbrev pub tape_flaws : ℕ → What → List Flaw
tape_flaws word what = OverLimit TextBytes ∷ OverLimit what ∷ OfTape word ∷ []

-- the file of the tape at a word, which may have this many bytes: its numbers
abbrev pub numbers_in : ℕ → What → ℕ → ℕ → List ℕ → Result (List ℕ) Bad
numbers_in word what below most = within TextBytes TEXT_BYTES (numbers_of word what below most)

-- the file of the tape at a word that lists public numbers
abbrev pub publics_in : ℕ → List ℕ → Result (List ℕ) Bad
publics_in word = numbers_in word TapeWords P CHECK_WORDS

-- some text has these numbers, below a bound each, and at most this many
abbrev pub AreTold : ℕ → ℕ → List ℕ → Type 0
AreTold below most numbers = (text : List ℕ) × (tape_of text below most ≡ Ok numbers)
