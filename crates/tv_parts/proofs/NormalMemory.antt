-- What a step does to memory is put by normal combinations.
use Rattle.tv_core.proofs.Common.{ℕ, ◌+◌, ◌-◌, ◌/◌, ◌<◌, ◌≤◌, [], ◌∷◌, ◌++◌, refl, arith, fresh, put, pure, ◌>>=◌, wire, constant, scaled, top, IsNormal}
use Rattle.tv_core.proofs.Common.{IsNormalFrom, AreNormal, for_widths, IsWidth}
use Rattle.tv_bits.proofs.NormalLaws.{wire_normal, constant_normal, rise_normal, bits_normal, bits_top, scaled_bits_top, times_normal}
use Rattle.tv_bits.specs.Bits.{bits_combination}
use Rattle.tv_bits.specs.Times.{times_of}
use Rattle.tv_core.proofs.NormalCircuits.{normal_append, normal_negated, normal_both}
use Rattle.tv_core.proofs.NormalLaws.{IsNormalFrom-lower}
use Rattle.tv_core.specs.declared.field.TheConstants.{P}
use Rattle.tv_core.specs.declared.limits.TheConstants.{TAPE_CELLS, NULL_CELL}
use Rattle.tv_isa.specs.Opcodes.{memory_ops}
use Rattle.tv_isa.specs.declared.opcode.TheConstants.{STORE_B, STORE_W}
use Rattle.tv_inputs.proofs.NormalAccumulation.{accumulated_normal}
use Rattle.tv_inputs.proofs.NormalOpcodes.{opcode_sum_normal, opcodes_then}
use Rattle.tv_inputs.proofs.UpperLaws.{upper_normal}
use Rattle.tv_inputs.specs.Accumulation.{closed_of}
use Rattle.tv_parts.specs.Memory.{located_line, byte_of_pair, byte_of_four, byte_at_of, power_in, new_of, memory_of}
use Rattle.tv_inputs.specs.OpcodeSums.{opcode_sum}
use Rattle.tv_inputs.specs.Operand.{upper_of}
use Rattle.tv_inputs.specs.Tapes.{primary_in}
use Rattle.tv_inputs.specs.declared.records.DataWires.{DataWires}
use Rattle.tv_inputs.specs.declared.records.LineWires.{LineWires}
use Rattle.tv_inputs.specs.declared.records.OperandWires.{OperandWires}
use Rattle.tv_inputs.specs.declared.records.StateWires.{StateWires}
use Rattle.tv_inputs.specs.declared.records.TapeWires.{TapeWires}

-- ---- the cell
cells_normal : (w : ℕ) → IsWidth w → (a : OperandWires) → 0 < a.word → a.word < a.bits.first → IsNormal ((P - NULL_CELL, 0) ∷ upper_of 1 a (w / 16))
cells_normal w width a some rise =
    let rest = upper_normal 1 1 a (w / 16) (omega (arith, width)) (λ e. omega arith) some rise in
    (omega arith, omega arith, omega arith, rest)

held_normal : (before op after : ℕ) → before < op → op + 29 ≤ after → IsNormal ((P - 1, before) ∷ (opcode_sum op memory_ops ++ wire after))
held_normal before op after h k =
    let last = wire_normal (op + 29) after k in
    let rest : IsNormalFrom (op + 0) (opcode_sum op memory_ops ++ wire after) =
    opcodes_then 1 op 0 29 memory_ops (wire after) (omega arith) (omega arith) refl refl (omega arith) last in
    (omega arith, omega arith, omega arith, IsNormalFrom-lower (before + 1) (op + 0) (opcode_sum op memory_ops ++ wire after) (omega arith) rest)

line_normal : (w : ℕ) → IsWidth w → (state : StateWires) (op : ℕ) (a : OperandWires) (word : ℕ) (t : TapeWires) (next : ℕ) → 0 < state.taken_of_primary
    → state.taken_of_primary < op → op + 29 ≤ t.taken → t.taken < next → 0 < a.word → a.word < a.bits.first
    → AreNormal (located_line w state op a word t next).list
unfolding located_line times_of closed_of fresh put pure ◌>>=◌
line_normal w width state op a word t next some before row within operand rise =
    let cells = (P - NULL_CELL, 0) ∷ upper_of 1 a (w / 16) in
    let tape = (TAPE_CELLS, 0) ∷ (1, state.taken_of_primary) ∷ (P - 1, next) ∷ [] in
    let held = (P - 1, state.taken_of_primary) ∷ (opcode_sum op memory_ops ++ wire t.taken) in
    let null = constant_normal NULL_CELL (omega arith) (omega arith) in
    let touched = opcode_sum_normal op memory_ops refl in
    let primary : IsNormal (primary_in state t) = rise_normal state.taken_of_primary t.taken (omega arith) in
    let located = accumulated_normal (constant NULL_CELL) (opcode_sum op memory_ops) cells next null (omega arith) touched
    (cells_normal w width a operand rise) in
    let cell = accumulated_normal (wire next) (primary_in state t) tape (next + 1) (wire_normal 0 next (omega arith)) (omega arith) primary (search arith) in
    let held_is = held_normal state.taken_of_primary op t.taken before row in
    let old = times_normal held (wire word) (next + 1 + 1) held_is (wire_normal 0 word (omega arith)) in
    (located.0, (cell.0, (old.0, tt)))

-- ---- the byte
two_normal : (bits a next : ℕ) → bits + 16 ≤ next → AreNormal (byte_of_pair bits a next).list
unfolding byte_of_pair
two_normal bits a next within =
    let low = bits_combination bits 8 in
    let high = bits_combination (bits + 8) 8 in
    let low_is = bits_normal bits 8 (omega arith) in
    let high_is = bits_normal (bits + 8) 8 (omega arith) in
    let joined = normal_append bits (bits + 8) (scaled (P - 1) low) high (normal_negated bits low low_is) (scaled_bits_top (P - 1) bits 8)
    (omega arith) high_is in
    let difference : IsNormal (scaled (P - 1) low ++ high) = IsNormalFrom-lower 0 bits (scaled (P - 1) low ++ high) (omega arith) joined in
    let below : top low ≤ next = omega (arith, bits_top bits 8, within) in
    accumulated_normal low (wire a) (scaled (P - 1) low ++ high) next (IsNormalFrom-lower 0 bits low (omega arith) low_is) below
    (wire_normal 0 a (omega arith)) difference

four_normal : (bits a next : ℕ) → bits + 32 ≤ next → AreNormal (byte_of_four bits a next).list
unfolding byte_of_four byte_of_pair closed_of fresh put pure ◌>>=◌
four_normal bits a next within =
    let low = two_normal bits a next (omega arith) in
    let high = two_normal (bits + 16) a (next + 1) (omega arith) in
    let change = rise_normal next (next + 1) (omega arith) in
    let last = accumulated_normal (wire next) (wire (a + 1)) ((P - 1, next) ∷ (1, next + 1) ∷ []) (next + 1 + 1)
    (wire_normal 0 next (omega arith)) (omega arith) (wire_normal 0 (a + 1) (omega arith)) change in
    (low.0, (high.0, (last.0, tt)))

abbrev ByteIsNormal : ℕ → Type 0
ByteIsNormal w = (bits a next : ℕ) → bits + w ≤ next → AreNormal (byte_at_of w bits a next).list

byte_16 : ByteIsNormal 16
unfolding byte_at_of
byte_16 bits a next within = two_normal bits a next within

byte_32 : ByteIsNormal 32
unfolding byte_at_of
byte_32 bits a next within = four_normal bits a next within

byte_normal : (w : ℕ) → IsWidth w → ByteIsNormal w
byte_normal = for_widths ByteIsNormal byte_16 byte_32

-- its wire, and the next one
abbrev ByteIsAfter : ℕ → Type 0
ByteIsAfter w = (bits a next : ℕ) → (next ≤ (byte_at_of w bits a next).answer) × (next ≤ (byte_at_of w bits a next).next)

after_16 : ByteIsAfter 16
unfolding byte_at_of byte_of_pair closed_of fresh put pure ◌>>=◌
after_16 bits a next = (omega arith, omega arith)

after_32 : ByteIsAfter 32
unfolding byte_at_of byte_of_four byte_of_pair closed_of fresh put pure ◌>>=◌
after_32 bits a next = (omega arith, omega arith)

byte_after : (w : ℕ) → IsWidth w → ByteIsAfter w
byte_after = for_widths ByteIsAfter after_16 after_32

-- ---- the word after the step
abbrev PowerIsNormal : ℕ → Type 0
PowerIsNormal w = (a both : ℕ) → 0 < a → a + 1 < both → IsNormal (power_in w a both)

power_normal : (w : ℕ) → IsWidth w → PowerIsNormal w
power_normal = for_widths PowerIsNormal (λ a both h k. search arith) (λ a both h k. search arith)

stored_normal : (first byte : ℕ) → first + 8 ≤ byte → IsNormal (bits_combination first 8 ++ (P - 1, byte) ∷ [])
stored_normal first byte within =
    let bits = bits_combination first 8 in
    let below : top bits ≤ byte = omega (arith, bits_top first 8, within) in
    let last : IsNormalFrom byte ((P - 1, byte) ∷ []) = (omega arith, omega arith, omega arith, tt) in
    IsNormalFrom-lower 0 first (bits ++ (P - 1, byte) ∷ []) (omega arith)
    (normal_append first byte bits ((P - 1, byte) ∷ []) (bits_normal first 8 (omega arith)) below (omega arith) last)

new_normal : (w : ℕ) → IsWidth w → (op : ℕ) (d : DataWires) (a : OperandWires) (line : LineWires) (byte next : ℕ) → 0 < a.bits.first → a.bits.first + 1 < d.both
    → d.x.first + 8 ≤ byte → d.other < d.word → line.old < next → AreNormal (new_of w op d a line byte next).list
unfolding new_of times_of closed_of fresh put pure ◌>>=◌
new_normal w width op d a line byte next address both bits other old =
    let power = power_normal w width a.bits.first d.both address both in
    let stored = bits_combination d.x.first 8 ++ (P - 1, byte) ∷ [] in
    let change = times_normal (power_in w a.bits.first d.both) stored next power (stored_normal d.x.first byte bits) in
    let changed = times_normal (opcode_sum op (STORE_B ∷ [])) (wire next) (next + 1) (opcode_sum_normal op (STORE_B ∷ []) refl)
    (wire_normal 0 next (omega arith)) in
    let kept : IsNormal (wire line.old ++ wire (next + 1)) = search arith in
    let new = accumulated_normal (wire line.old ++ wire (next + 1)) (opcode_sum op (STORE_W ∷ [])) ((1, d.other) ∷ (P - 1, d.word) ∷ []) (next + 1 + 1)
    kept (omega arith) (opcode_sum_normal op (STORE_W ∷ []) refl) (search arith) in
    (change.0, (changed.0, (new.0, tt)))

-- ---- all of it
pub memory_normal : (w : ℕ) → IsWidth w → (state : StateWires) (op : ℕ) (a : OperandWires) (d : DataWires) (t : TapeWires) (next : ℕ)
    → 0 < state.taken_of_primary → state.taken_of_primary < op → op + 29 ≤ t.taken → t.taken < next → 0 < a.word
    → a.word < a.bits.first → a.bits.first + 1 < d.both
    → d.bits + w ≤ next → d.x.first + 8 ≤ next → d.other < d.word → AreNormal (memory_of w state op a d t next).list
unfolding memory_of located_line times_of closed_of fresh put pure ◌>>=◌
memory_normal w width state op a d t next some before row within operand rise both bits decomposed other =
    let line = located_line w state op a d.word t next in
    let byte = byte_at_of w d.bits a.bits.first line.next in
    let new = new_of w op d a line.answer byte.answer byte.next in
    let places = byte_after w width d.bits a.bits.first line.next in
    let first = line_normal w width state op a d.word t next some before row within operand rise in
    let second = byte_normal w width d.bits a.bits.first line.next (omega arith) in
    let third = new_normal w width op d a line.answer byte.answer byte.next (omega arith) both (omega (arith, places.0)) other (omega (arith, places.1)) in
    normal_both line.list _ first (normal_both byte.list _ second (normal_both new.list [] third tt))
