-- The circuit of one step, and the values of its wires, as a system takes them.
use Rattle.std.specs.Prelude.{ℕ, ◌-◌, Bool, List, length, Option}
use Rattle.tv_block.specs.declared.records.Block.{Block}
use Rattle.tv_inputs.specs.declared.records.StateWires.{StateWires}
use Rattle.tv_core.specs.Circuits.{Circuit}
use Rattle.tv_numbers.specs.Views.{View, seen}
use Rattle.tv_step.specs.State.{State}
use Rattle.tv_word.specs.Word.{flag_of}

-- one step from a state, by the number of words of the primary tape, the state's wires, and the time of its first line
abbrev pub BlockCircuit : Type 0
BlockCircuit = ℕ → StateWires → ℕ → Circuit Block

-- the values of a block's wires, by the number of words of the primary tape, the state in numbers, the old words of the
-- step's three lines, and the word that it takes of the auxiliary tape
abbrev pub BlockValues : Type 0
BlockValues = ℕ → View → List ℕ → Option ℕ → List ℕ

-- the numbers in a state's wires: as many words of the primary tape of n are taken as aren't left
abbrev pub view_of : ℕ → State → Bool → View
view_of n st ended = seen st (n - length st.primary) (flag_of ended)
