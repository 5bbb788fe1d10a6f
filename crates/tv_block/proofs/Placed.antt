-- A step's wires stand where they are said to.
use Rattle.tv_core.proofs.Common.{◌≡◌, ℕ, ◌+◌, ◌-◌, ◌*◌, ◌/◌, ◌<◌, ◌++◌, ◌∙◌, ap, ap₂, arith, range_with_len, fresh, pure, ◌>>=◌, wire, constant, Combination}
use Rattle.tv_core.proofs.Common.{IsWidth}
use Rattle.tv_core.specs.declared.lines.LineLc.{LineLc}
use Rattle.tv_decode.proofs.InstructionLaws.{instruction_sizes}
use Rattle.tv_decode.specs.Instructions.{imm_wire}
use Rattle.tv_decode.specs.declared.records.InstructionWires.{InstructionWires}
use Rattle.tv_arithmetic.proofs.ArithmeticCounts.{arithmetic_sizes}
use Rattle.tv_parts.proofs.FlagFills.{flag_sizes}
use Rattle.tv_parts.proofs.MemoryFills.{memory_sizes}
use Rattle.tv_inputs.proofs.OperandLaws.{operand_sizes}
use Rattle.tv_results.proofs.PcFills.{pc_sizes}
use Rattle.tv_inputs.proofs.TapeFills.{tapes_sizes}
use Rattle.tv_parts.proofs.WrittenFills.{written_sizes}
use Rattle.tv_inputs.specs.declared.records.ArithmeticWires.{ArithmeticWires}
use Rattle.tv_inputs.specs.declared.records.OperandWires.{OperandWires}
use Rattle.tv_inputs.specs.declared.records.Spot.{Spot}
use Rattle.tv_inputs.specs.declared.records.StateWires.{StateWires}
use Rattle.tv_inputs.specs.declared.records.StoreWires.{StoreWires}
use Rattle.tv_inputs.specs.declared.records.TapeWires.{TapeWires}
use Rattle.tv_block.proofs.BlockChain.{instruction, triple, operand, made, tapes, memory, results, zero, written, flag}
use Rattle.tv_block.proofs.BlockChain.{operand_begins, arithmetic_begins, tapes_begin, memory_begins, written_begins, flag_begins, pc_begins}
use Rattle.tv_block.proofs.PlaceLaws.{same_state, same_wires, all_three}
use Rattle.tv_block.specs.Block.{data_of, cell_of, computed_of, effects_of, block_of}
use Rattle.tv_block.specs.Complete.{block_made}
use Rattle.tv_block.specs.Places.{arithmetic_at, tapes_at, memory_at, written_at, flag_at, pc_at}
use Rattle.tv_block.specs.Places.{first_line, second_line, third_line, block_wires, IsShortLine, BlockPlaces}
use Rattle.tv_block.specs.Under.{LineUnder, SpotUnder}

-- ---- what is answered
abbrev wired_line : Combination → ℕ → ℕ → ℕ → LineLc
wired_line cell time old new = record { cell = cell; time = constant time; old = wire old; new = wire new }

same_line : (time a b c d e f : ℕ) → a ≡ d → b ≡ e → c ≡ f → wired_line (wire a) time b c ≡ wired_line (wire d) time e f
same_line time a b c d e f p q r = cc

abbrev spot_at : ℕ → ℕ → Spot
spot_at taken word = record { taken = taken; word = word }

-- a place from a part's first wire, as one from the step's
moved : (next at part k : ℕ) → next ≡ at + part → next + k ≡ at + (part + k)
moved next at part k e = omega (arith, e)

head_place : (w : ℕ) → IsWidth w → (at : ℕ) → at + (w - 5) + 29 + w ≡ at + (2 * w + 24)
head_place w width at = omega (arith, width)

tail_place : (w : ℕ) → IsWidth w → (at : ℕ) → at + (w - 5) + 29 + w + 1 ≡ at + (2 * w + 25)
tail_place w width at = omega (arith, width)

answer_place : (w at : ℕ) → at + (w - 5) + 28 ≡ at + (w - 5 + 28)
answer_place w at = omega arith

block_placed : (w : ℕ) → IsWidth w → (n : ℕ) (state : StateWires) (time at : ℕ) → (block_of w n state time at).answer ≡ block_wires w state time at
unfolding block_of computed_of effects_of fresh pure ◌>>=◌
block_placed w width n state time at =
    let i = instruction w n state at in
    let r = triple w n state at in
    let o = operand w n state at in
    let m = made w n state at in
    let t = tapes w n state at in
    let d = memory w n state at in
    let op = i.answer.op in
    let instruction_is = instruction_sizes.answer w at in
    let operand_is = operand_sizes.answer w (imm_wire w i.answer) i.answer.tail r.answer.named_word r.next in
    let made_is = arithmetic_sizes.answer w width op r.answer.other_word o.next o.answer (o.next + 1) in
    let tapes_is = tapes_sizes.answer w n state op o.answer m.next in
    let memory_is = memory_sizes.answer w width state op o.answer (data_of m.answer r.answer.other_word) t.answer t.next in
    let written_is = written_sizes.answer op state r.answer (results w n state at).answer.word (zero w n state at).next in
    let from_written = written_begins w n state at width in
    let from_tapes = tapes_begin w n state at width in
    same_wires _ _ _ _ _ _ _ _ _ _ _ _ _ _
    (same_state _ _ _ _ _ _ _ _ _ _
    (pc_sizes.answer w state op o.answer (flag w n state at).next ∙ moved _ at (pc_at w) 3 (pc_begins w n state at width))
    (written_is ∙ ap (λ k. range_with_len k 16) (moved _ at (written_at w) 1 from_written))
    (flag_sizes.answer w state op m.answer.x o.next t.answer (written w n state at).next ∙ moved _ at (flag_at w) 2 (flag_begins w n state at width))
    (ap (λ (t : TapeWires). t.taken) tapes_is ∙ moved _ at (tapes_at w) 3 from_tapes)
    (ap (λ (t : TapeWires). t.ended) tapes_is ∙ moved _ at (tapes_at w) 6 from_tapes))
    (ap (λ k. wired_line (cell_of w state.pc) time k k) (ap (λ (i : InstructionWires). i.head) instruction_is ∙ head_place w width at))
    (ap (λ k. wired_line (cell_of w state.pc ++ constant 1) (time + 1) k k) (ap (λ (i : InstructionWires). i.tail) instruction_is ∙ tail_place w width at))
    (same_line (time + 2) _ _ _ _ _ _
    (ap (λ (s : StoreWires). s.line.cell) memory_is ∙ moved _ at (memory_at w) 1 (memory_begins w n state at width))
    (ap (λ (s : StoreWires). s.line.old) memory_is ∙ moved _ at (memory_at w) 2 (memory_begins w n state at width))
    (ap (λ (s : StoreWires). s.new) memory_is ∙ moved _ at (memory_at w) (w / 8 + 4) (memory_begins w n state at width)))
    (ap₂ spot_at (ap (λ (t : TapeWires). t.takes) tapes_is ∙ moved _ at (tapes_at w) 5 from_tapes)
    (ap (λ (m : ArithmeticWires). m.row.low) made_is ∙ moved _ at (arithmetic_at w) (3 * w) (arithmetic_begins w n state at width)))
    (ap (λ (i : InstructionWires). i.op + 28) instruction_is ∙ answer_place w at)
    (ap (λ (o : OperandWires). o.word) operand_is ∙ operand_begins w n state at width)

-- ---- short, and below the step's end
module _ (w : ℕ) (state : StateWires) (time at : ℕ) where
  short_first : IsShortLine (first_line w state time at)
  short_first = record { cell = omega arith; time = omega arith; old = omega arith; new = omega arith }

  short_second : IsShortLine (second_line w state time at)
  short_second = record { cell = omega arith; time = omega arith; old = omega arith; new = omega arith }

  short_third : IsShortLine (third_line w time at)
  short_third = record { cell = omega arith; time = omega arith; old = omega arith; new = omega arith }

  module _ (width : IsWidth w) where
    first_below : state.pc < at + block_made w → LineUnder (at + block_made w) (first_line w state time at)
    first_below pc = record { cell = omega (arith, pc); time = omega arith; old = omega arith; new = omega arith }

    second_below : state.pc < at + block_made w → LineUnder (at + block_made w) (second_line w state time at)
    second_below pc = record { cell = omega (arith, pc); time = omega arith; old = omega arith; new = omega arith }

    third_below : LineUnder (at + block_made w) (third_line w time at)
    third_below = record { cell = omega (arith, width); time = omega arith; old = omega (arith, width); new = omega (arith, width) }

    spot_below : SpotUnder (at + block_made w) (block_wires w state time at).spot
    spot_below = record { taken = omega (arith, width); word = omega (arith, width) }

pub block_places : BlockPlaces
block_places = record {
  answer = block_placed;
  short = λ w width state time next.
      all_three IsShortLine (first_line w state time next) (second_line w state time next) (third_line w time next)
      (short_first w state time next) (short_second w state time next) (short_third w state time next);
  below = λ w width state time next pc.
      all_three (LineUnder (next + block_made w)) (first_line w state time next) (second_line w state time next) (third_line w time next)
      (first_below w state time next width pc) (second_below w state time next width pc) (third_below w state time next width);
  after = λ w width next. omega (arith, width);
  spot = λ w width state time next. spot_below w state time next width;
}
