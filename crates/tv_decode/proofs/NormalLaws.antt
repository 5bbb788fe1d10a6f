-- An instruction's circuit puts normal combinations.
use Rattle.tv_core.proofs.Common.{ℕ, ◌+◌, ◌-◌, ◌*◌, ◌^◌, ◌<◌, ◌≤◌, arith, nat_tests, here, pure, put, ◌>>=◌, constant, IsNormal, IsNormalFrom, AreNormal}
use Rattle.tv_core.proofs.Common.{IsWidth}
use Rattle.tv_bits.proofs.NormalLaws.{constant_normal, bits_normal, bits_top, row_normal, weighted_normal, new_bits_normal, kept_normal}
use Rattle.tv_bits.proofs.BitsLaws.{new_bits_next}
use Rattle.tv_bits.specs.Bits.{bits_combination, new_bits_of}
use Rattle.tv_bits.specs.OneHot.{row_sum}
use Rattle.tv_bits.specs.Times.{kept_of}
use Rattle.tv_core.proofs.NormalCircuits.{normal_append, normal_both}
use Rattle.tv_core.proofs.NormalLaws.{IsNormalFrom-lower}
use Rattle.tv_core.specs.Below.{weighted}
use Rattle.tv_core.specs.declared.field.TheConstants.{P}
use Rattle.tv_decode.specs.Instructions.{opcode_weight, head_of, instruction_of}
use Rattle.tv_decode.proofs.InstructionLaws.{at_below}
use Rattle.tv_isa.specs.Opcodes.{opcode_at}

-- ---- the weights of the opcodes but 0
weight_of : (w : ℕ) → IsWidth w → (k : ℕ) → 1 ≤ k → k < 32 → (0 < k * 2 ^ (w - 5)) × (k * 2 ^ (w - 5) < P)
weight_of w width k some small = (grind arith, grind arith)

at_some : (j : ℕ) → 1 ≤ opcode_at (j + 1)
at_some j = grind (arith, nat_tests)

weights_normal : (w : ℕ) → IsWidth w → (first : ℕ) → IsNormalFrom first (weighted first 28 (λ j. opcode_weight w (j + 1)))
weights_normal w width first =
    weighted_normal first 28 (λ j. opcode_weight w (j + 1)) (λ j h. weight_of w width (opcode_at (j + 1)) (at_some j) (at_below (j + 1) (omega arith)))

-- the bits of the first word, and the row after them
head_normal : (w : ℕ) → IsWidth w → (low op : ℕ) → low + (w - 5) ≤ op → IsNormal (head_of w low op)
head_normal w width low op after =
    let short : w - 5 ≤ 63 = omega arith in
    let bits = bits_combination low (w - 5) in
    let weights = weighted (op + 1) 28 (λ j. opcode_weight w (j + 1)) in
    let rest = IsNormalFrom-lower op (op + 1) weights (omega arith) (weights_normal w width (op + 1)) in
    IsNormalFrom-lower 0 low (head_of w low op) (omega arith)
    (normal_append low op bits weights (bits_normal low (w - 5) short) (omega (arith, bits_top low (w - 5))) (omega arith) rest)

pub instruction_normal : (w : ℕ) → IsWidth w → (next : ℕ) → AreNormal (instruction_of w next).list
unfolding instruction_of new_bits_of here pure put ◌>>=◌
instruction_normal w width next =
    let low = new_bits_of (w - 5) next in
    let row = new_bits_of 29 low.next in
    let second = new_bits_of w row.next in
    let head = head_of w next low.next in
    let tail = bits_combination row.next w in
    let once : IsNormal (constant 1) = constant_normal 1 (omega arith) (omega arith) in
    let sum : IsNormal (row_sum low.next 29) = IsNormalFrom-lower 0 low.next (row_sum low.next 29) (omega arith) (row_normal low.next 29) in
    let first_word : IsNormal head = head_normal w width next low.next (omega (arith, new_bits_next (w - 5) next)) in
    let second_word : IsNormal tail = IsNormalFrom-lower 0 row.next tail (omega arith) (bits_normal row.next w (omega arith)) in
    normal_both low.list _ (new_bits_normal (w - 5) next)
    (normal_both row.list _ (new_bits_normal 29 low.next)
    (normal_both second.list _ (new_bits_normal w row.next) (
      record { a = sum; b = once; c = once },
      normal_both (kept_of head second.next).list _ (kept_normal head second.next first_word)
          (normal_both (kept_of tail (kept_of head second.next).next).list _ (kept_normal tail (kept_of head second.next).next second_word) tt),
    )))
