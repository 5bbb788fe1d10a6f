-- The laws of the fields.
use Rattle.tv_core.proofs.Common.{◌≡◌, ℕ, ◌+◌, ◌-◌, ◌/◌, ◌%◌, ◌^◌, ◌<◌, ◌==◌, if◌then◌else◌, List, ◌++◌, length, inl, inr, refl, sym, ◌∙◌, ap, subst, arith}
use Rattle.tv_core.proofs.Common.{slice_index, length-each_below, Meets-split, Meets-join, HasFrom-split, each_below, pure, ◌>>=◌, HasFrom, IsWidth}
use Rattle.tv_bits.proofs.BitLaws.{bit_cases}
use Rattle.tv_bits.proofs.OneHotLaws.{onehot_sound, onehot_complete, onehot_next}
use Rattle.tv_bits.proofs.SizeLaws.{onehot_in_field, onehot_sizes}
use Rattle.tv_bits.proofs.BitNumbers.{HasBits-low, HasBits-high, HasBits-bit_at}
use Rattle.tv_bits.specs.Bits.{HasBits, part}
use Rattle.tv_bits.specs.OneHot.{onehot_of, onehot_values, one_at}
use Rattle.tv_bits.specs.declared.bit_wires.Bits.{Bits}
use Rattle.tv_core.proofs.FieldLaws.{InField-append}
use Rattle.tv_decode.specs.Fields.{fields_of, fields_wires, fields_values, FieldsAreSound, FieldsAreComplete, FieldsSizes}
use Rattle.tv_isa.specs.Instruction.{field}
use Rattle.tv_isa.specs.declared.instr.Instr.{Instr}

-- some of a word's bits represent a field of it
pub field_bits_are : (z : List ℕ) (w first low count more v : ℕ) → low + (count + more) ≡ w → HasBits z first w v
    → HasBits z (first + low) count (field low count v)
field_bits_are z w first low count more v size s =
    HasBits-low z (first + low) count more (v / 2 ^ low) (HasBits-high z first low (count + more) v (subst (λ n. HasBits z first n v) (sym size) s))

pub word_reg_bits : (z : List ℕ) (w : ℕ) → IsWidth w → (first a : ℕ) → HasBits z first w a → HasBits z (first + 0) 4 (a % 16)
word_reg_bits z w width first a r =
    let same : first ≡ first + 0 = omega arith in
    let size : w ≡ 4 + (w - 4) = omega arith in
    subst (λ k. HasBits z k 4 (a % 16)) same (HasBits-low z first 4 (w - 4) a (subst (λ n. HasBits z first n a) size r))

pub by_parity : (n : ℕ) → n < 2 → n ≡ (if n == 1 then 1 else 0)
by_parity n small = elim (bit_cases n small) [ inl none ↦ rw none refl | inr one ↦ rw one refl ]

module _ (w : ℕ) (width : IsWidth w) (z : List ℕ) (h a : Bits) (v u : ℕ) (s : HasBits z h.first w v) (r : HasBits z a.first w u) where
  op_bits_are : HasBits z (h.first + (w - 5)) 5 (field (w - 5) 5 v)
  op_bits_are = field_bits_are z w h.first (w - 5) 5 0 v (omega arith) s

  dest_bits_are : HasBits z (h.first + (w - 10)) 4 (field (w - 10) 4 v)
  dest_bits_are = field_bits_are z w h.first (w - 10) 4 6 v (omega arith) s

  source_bits_are : HasBits z (h.first + (w - 14)) 4 (field (w - 14) 4 v)
  source_bits_are = field_bits_are z w h.first (w - 14) 4 10 v (omega arith) s

  reg_bits_are : HasBits z (a.first + 0) 4 (u % 16)
  reg_bits_are = word_reg_bits z w width a.first u r

  imm_bit : slice_index z (h.first + (w - 6)) ≡ (if field (w - 6) 1 v == 1 then 1 else 0)
  imm_bit = let b = HasBits-bit_at s (w - 6) (omega arith) in b ∙ by_parity (v / 2 ^ (w - 6) % 2) (omega arith)

pub fields_sound : FieldsAreSound
unfolding fields_of pure ◌>>=◌
fields_sound w width z next h a v u assigns s r meets =
    let op = onehot_of (part h (w - 5) 5) next in
    let dest = onehot_of (part h (w - 10) 4) op.next in
    let source = onehot_of (part h (w - 14) 4) dest.next in
    let reg = onehot_of (part a 0 4) source.next in
    let m1 = Meets-split z op.list _ meets in
    let m2 = Meets-split z dest.list _ m1.1 in
    let m3 = Meets-split z source.list _ m2.1 in
    let m4 = Meets-split z reg.list _ m3.1 in
    record {
      op = onehot_sound z next (part h (w - 5) 5) (field (w - 5) 5 v) (omega arith) assigns (op_bits_are w width z h a v u s r) m1.0;
      imm = imm_bit w width z h a v u s r;
      dest = onehot_sound z op.next (part h (w - 10) 4) (field (w - 10) 4 v) (omega arith) assigns (dest_bits_are w width z h a v u s r) m2.0;
      source = onehot_sound z dest.next (part h (w - 14) 4) (field (w - 14) 4 v) (omega arith) assigns (source_bits_are w width z h a v u s r) m3.0;
      reg = onehot_sound z source.next (part a 0 4) (u % 16) (omega arith) assigns (reg_bits_are w width z h a v u s r) m4.0;
    }

-- what an assignment has after a row
row_had : (z : List ℕ) (at x n : ℕ) (rest : List ℕ) (b : Bits) → b.n ≡ n → HasFrom z at (onehot_values x n ++ rest)
    → HasFrom z at (onehot_values x n) × HasFrom z (onehot_of b at).next rest
row_had z at x n rest b size has =
    let split = HasFrom-split z at (onehot_values x n) rest has in
    let place : at + length (onehot_values x n) ≡ (onehot_of b at).next = ap (λ k. at + k) (length-each_below (2 ^ n) (one_at x))
    ∙ ap (λ k. at + 2 ^ k) (sym size) ∙ sym (onehot_next b at) in
    (split.0, subst (λ k. HasFrom z k rest) place split.1)

pub fields_complete : FieldsAreComplete
unfolding fields_of pure ◌>>=◌
fields_complete w width z next h a v u assigns s r has =
    let op_bits = part h (w - 5) 5 in
    let dest_bits = part h (w - 10) 4 in
    let source_bits = part h (w - 14) 4 in
    let h1 = row_had z next (field (w - 5) 5 v) 5 _ op_bits refl has in
    let h2 = row_had z (onehot_of op_bits next).next (field (w - 10) 4 v) 4 _ dest_bits refl h1.1 in
    let h3 = row_had z (onehot_of dest_bits (onehot_of op_bits next).next).next (field (w - 14) 4 v) 4 _ source_bits refl h2.1 in
    let m1 = onehot_complete z next op_bits (field (w - 5) 5 v) assigns (op_bits_are w width z h a v u s r) h1.0 in
    let m2 = onehot_complete z _ dest_bits (field (w - 10) 4 v) assigns (dest_bits_are w width z h a v u s r) h2.0 in
    let m3 = onehot_complete z _ source_bits (field (w - 14) 4 v) assigns (source_bits_are w width z h a v u s r) h3.0 in
    let m4 = onehot_complete z _ (part a 0 4) (u % 16) assigns (reg_bits_are w width z h a v u s r) h3.1 in
    Meets-join z _ _ m1 (Meets-join z _ _ m2 (Meets-join z _ _ m3 (Meets-join z _ _ m4 tt)))

-- ---- where the circuit ends, and what it answers
module _ (w : ℕ) (h a : Bits) (next : ℕ) where
  abbrev after_op : ℕ
  after_op = (onehot_of (part h (w - 5) 5) next).next

  abbrev after_dest : ℕ
  after_dest = (onehot_of (part h (w - 10) 4) after_op).next

  abbrev after_source : ℕ
  after_source = (onehot_of (part h (w - 14) 4) after_dest).next

  op_end : after_op ≡ next + 32
  op_end = onehot_next (part h (w - 5) 5) next

  dest_end : after_dest ≡ next + 48
  dest_end = onehot_next (part h (w - 10) 4) after_op ∙ omega (arith, op_end)

  source_end : after_source ≡ next + 64
  source_end = onehot_next (part h (w - 14) 4) after_dest ∙ omega (arith, dest_end)

  pub fields_next : (fields_of w h a next).next ≡ next + 80
  unfolding fields_of pure ◌>>=◌
  fields_next = onehot_next (part a 0 4) after_source ∙ omega (arith, source_end)

  pub fields_answer : (fields_of w h a next).answer ≡ fields_wires w h next
  unfolding fields_of pure ◌>>=◌
  fields_answer = search (arith, onehot_sizes.answer, op_end, dest_end, source_end)

fields_length : (i : Instr) → length (fields_values i) ≡ 80
unfolding each_below
fields_length i = refl

pub fields_sizes : FieldsSizes
fields_sizes = record {
  answer = fields_answer;
  end = fields_next;
  fills = λ w h a i next. fields_next w h a next ∙ ap (λ n. next + n) (sym (fields_length i));
  in_field = λ i. InField-append _ _ (onehot_in_field i.op 5)
      (InField-append _ _ (onehot_in_field i.dest 4) (InField-append _ _ (onehot_in_field i.source 4) (onehot_in_field (i.a % 16) 4)));
}
