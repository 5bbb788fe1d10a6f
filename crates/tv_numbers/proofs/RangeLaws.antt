-- The numbers of a step stay in range.
use Rattle.tv_core.proofs.Common.{◌≡◌, ℕ, zero, suc, ◌+◌, ◌-◌, ◌*◌, ◌/◌, ◌%◌, ◌^◌, ◌<◌, ◌≤◌, ◌==◌, nat_lt, Bool, true, not, if◌then◌else◌, List, drop}
use Rattle.tv_core.proofs.Common.{length, refl, sym, ◌∙◌, arith, inl, inr, slice_index, cond_both, cases_lt, le-ltb, for_widths, IsWidth}
use Rattle.std.proofs.Common.{◌&&◌, ◌||◌}
use Rattle.std.proofs.Common.{true≢false}
use Rattle.std.specs.Prelude.{slice_set}
use Rattle.std.specs.Int.Bits.{and_lt}
use Rattle.std.proofs.Math.Nat.{div-le_self, mod-lt, mod-le}
use Rattle.std.proofs.lemmas.Nat.{or_lt, xor_lt}
use Rattle.std.proofs.lemmas.Bool.{and_parts}
use Rattle.std.proofs.lemmas.List.{length-set}
use Rattle.std.proofs.lemmas.List.Elements.{All-set}
use Rattle.tv_core.specs.declared.limits.TheConstants.{TAPE_CELLS, NULL_CELL}
use Rattle.tv_isa.specs.Instruction.{decode}
use Rattle.tv_isa.specs.declared.instr.Instr.{Instr}
use Rattle.tv_mem.specs.Bytes.{byte_of}
use Rattle.tv_word.proofs.ArithmeticLaws.{high_small}
use Rattle.tv_step.proofs.RangeLaws.{signed_small, word_at}
use Rattle.tv_step.specs.Cells.{IsLine}
use Rattle.tv_step.specs.Range.{AreWords}
use Rattle.tv_word.proofs.FlagLaws.{flag_small}
use Rattle.tv_numbers.proofs.Cases.{EachGives, chosen_in}
use Rattle.tv_numbers.specs.Laws.{AtNumbers, NumbersStayInRange}
use Rattle.tv_numbers.specs.Numbers.{operand_word, other_word, touches, asks, takes_primary, with_byte_in, found, writes, result_in, stepped, old_in, data_line}
use Rattle.tv_numbers.specs.Numbers.{step_words}
use Rattle.tv_numbers.specs.Tables.{results, flags, pcs, next_pc, target}
use Rattle.tv_numbers.specs.Views.{View, ViewInRange}

module _ (w : ℕ) (width : IsWidth w) where
  abbrev Word : ℕ → Type 0
  Word v = v < 2 ^ w

  pub some_words : Word 0
  some_words = for_widths (λ w. 0 < 2 ^ w) (omega arith) (omega arith) w width

  pub byte_small : (v j : ℕ) → Word (byte_of v j)
  byte_small v j =
      let byte : v / 256 ^ j % 256 < 256 = mod-lt (v / 256 ^ j) (omega arith) in
      for_widths (λ w. v / 256 ^ j % 256 < 2 ^ w) (omega arith) (omega arith) w width

  -- ---- the tables
  pub results_small : (x a o : ℕ) (finds : Bool) → Word x → Word a → Word o → EachGives Word (results w x a o finds)
  results_small x a o finds hx ha ho =
      let table = results w x a o finds in
      let quotient = cond_both (a == 0) 0 (x / a) Word (λ _. some_words) (λ _. let most = div-le_self x a in omega (arith, most, hx)) in
      let remainder = cond_both (a == 0) 0 (x % a) Word (λ _. some_words) (λ _. let most = mod-le x a in omega (arith, most, hx)) in
      let left = cond_both (nat_lt a w) (x * 2 ^ a % 2 ^ w) 0 Word (λ _. mod-lt (x * 2 ^ a) some_words) (λ _. some_words) in
      let right = cond_both (nat_lt a w) (x / 2 ^ a) 0 Word (λ _. let most = div-le_self x (2 ^ a) in omega (arith, most, hx)) (λ _. some_words) in
      let read = cond_both finds o 0 Word (λ _. ho) (λ _. some_words) in
      let shifts : EachGives Word (drop 11 table) = (left, (right, (ha, (byte_small o (a % (w / 8)), (ho, (read, tt)))))) in
      let products : EachGives Word (drop 6 table) =
      (mod-lt (x * a) some_words, (high_small w width x a hx ha, (signed_small w width x a, (quotient, (remainder, shifts))))) in
      let sums : EachGives Word (drop 3 table) = (omega (arith, ha), (mod-lt (x + a) some_words, (mod-lt (x + (2 ^ w - a)) some_words, products))) in
      (and_lt w x a hx ha, (or_lt w x a hx ha, (xor_lt w x a hx ha, sums)))

  pub flags_small : (x a : ℕ) (finds : Bool) (flag : ℕ) → flag < 2 → EachGives (λ f. f < 2) (flags w x a finds flag)
  flags_small x a finds flag h = search (flag_small, h)

  -- a place of an instruction
  abbrev Place : ℕ → Type 0
  Place pc = (pc < 2 ^ w) × (pc % (w / 4) ≡ 0)

  next_place : (pc : ℕ) → Place pc → Place (next_pc w pc)
  next_place pc h = (
    mod-lt (pc + w / 4) some_words,
    for_widths (λ w. pc % (w / 4) ≡ 0 → (pc + w / 4) % 2 ^ w % (w / 4) ≡ 0) (λ e. omega arith) (λ e. omega arith) w width h.1,
  )

  target_place : (a : ℕ) → Word a → Place (target w a)
  target_place a h = (omega (arith, h), for_widths (λ w. (a - a % (w / 4)) % (w / 4) ≡ 0) (omega arith) (omega arith) w width)

  pub pcs_small : (pc a flag : ℕ) → Place pc → Word a → EachGives Place (pcs w pc a flag)
  pcs_small pc a flag h ha =
      let jump = target_place a ha in
      let next = next_place pc h in (
        jump,
        (
          cond_both (flag == 1) (target w a) (next_pc w pc) Place (λ _. jump) (λ _. next),
          (cond_both (flag == 1) (next_pc w pc) (target w a) Place (λ _. next) (λ _. jump), (h, (next, tt))),
        ),
      )

  pub zero_place : Place 0
  zero_place = (some_words, for_widths (λ w. 0 % (w / 4) ≡ 0) refl refl w width)

  -- a word with a byte in place of another
  pub with_byte_small : (o r b : ℕ) → r < w / 8 → Word o → b < 256 → Word (with_byte_in o r b)
  with_byte_small o r b h ho hb = for_widths (λ w. r < w / 8 → o < 2 ^ w → with_byte_in o r b < 2 ^ w) (two r) (four r) w width h ho
    where
      two : (r : ℕ) → r < 16 / 8 → o < 2 ^ 16 → with_byte_in o r b < 2 ^ 16
      two zero h k = omega arith
      two (suc zero) h k = omega arith
      two (suc (suc r)) h k = absurd (omega arith)

      four : (r : ℕ) → r < 32 / 8 → o < 2 ^ 32 → with_byte_in o r b < 2 ^ 32
      four zero h k = omega arith
      four (suc zero) h k = omega arith
      four (suc (suc zero)) h k = omega arith
      four (suc (suc (suc zero))) h k = omega arith
      four (suc (suc (suc (suc r)))) h k = absurd (omega arith)

  -- ---- the step
  module _ (n : ℕ) (v : View) (head tail o : ℕ) (takes : Bool) (is : AtNumbers w n v (step_words head tail o takes)) where
    abbrev i : Instr
    i = decode w head tail

    pub operand_small : Word (operand_word v i)
    operand_small = cond_both i.imm i.a (slice_index v.regs (i.a % 16)) Word (λ _. is.tail_word) (λ _. word_at w width v.regs (i.a % 16) is.range.words)

    pub other_small : Word (other_word v i)
    other_small = cond_both _ (slice_index v.regs i.dest) (slice_index v.regs i.source) Word (λ _. word_at w width v.regs i.dest is.range.words)
        (λ _. word_at w width v.regs i.source is.range.words)

    pub result_small : Word (result_in w n v i o takes)
    result_small = chosen_in Word (results w (other_word v i) (operand_word v i) o (found w n v i o takes)) i.op some_words
        (results_small (other_word v i) (operand_word v i) o (found w n v i o takes) other_small operand_small is.data_word)

    pub pc_place : Place (stepped w n v i o takes).pc
    pc_place = chosen_in Place (pcs w v.pc (operand_word v i) v.flag) i.op zero_place
        (pcs_small v.pc (operand_word v i) v.flag (is.range.pc_fits, is.range.pc_aligned) operand_small)

    -- a primary word is taken only where one is left
    pub some_left : takes_primary v i n ≡ true → v.taken < n
    some_left e = elim (cases_lt v.taken n) [
      | inl h ↦ h
      | inr h ↦ absurd (true≢false (sym (and_parts ((i.op == 30) && (operand_word v i == 0)) (nat_lt v.taken n) e).1 ∙ le-ltb v.taken n h))
    ]

    pub stays_in_range : ViewInRange w n (stepped w n v i o takes)
    stays_in_range = record {
      pc_fits = pc_place.0;
      pc_aligned = pc_place.1;
      registers = cond_both (writes w n v i o takes) (slice_set v.regs i.dest (result_in w n v i o takes)) v.regs (λ (regs : List ℕ). length regs ≡ 16)
          (λ _. length-set v.regs i.dest (result_in w n v i o takes) ∙ is.range.registers) (λ _. is.range.registers);
      words = cond_both (writes w n v i o takes) (slice_set v.regs i.dest (result_in w n v i o takes)) v.regs (AreWords w)
          (λ _. All-set Word v.regs i.dest (result_in w n v i o takes) result_small is.range.words) (λ _. is.range.words);
      flag = chosen_in (λ f. f < 2) (flags w (other_word v i) (operand_word v i) (found w n v i o takes) v.flag) i.op (omega arith)
          (flags_small (other_word v i) (operand_word v i) (found w n v i o takes) v.flag is.range.flag);
      taken = cond_both (takes_primary v i n) (v.taken + 1) v.taken (λ t. t ≤ n) (λ e. let left = some_left e in omega arith) (λ _. is.range.taken);
      ended = cond_both (asks v i && not takes) 1 v.ended (λ e. e < 2) (λ _. omega arith) (λ _. is.range.ended);
    }

    pub old_small : Word (old_in n v i o)
    old_small = cond_both (touches v i || takes_primary v i n) o 0 Word (λ _. is.data_word) (λ _. some_words)

    -- the cells of the lines
    abbrev Cell : ℕ → Type 0
    Cell c = c < 2 ^ 31

    word_cell : (a : ℕ) → Word a → Cell (a / (w / 8) + 1)
    word_cell a h = for_widths (λ w. a < 2 ^ w → a / (w / 8) + 1 < 2 ^ 31) (λ h. omega (arith, h)) (λ h. omega (arith, h)) w width h

    pub fetched_is_line : (time : ℕ) → IsLine w (record { cell = v.pc / (w / 8); time = time; old = head; new = head })
        × IsLine w (record { cell = v.pc / (w / 8) + 1; time = time + 1; old = tail; new = tail })
    fetched_is_line time =
        let next = word_cell v.pc is.range.pc_fits in
        (record { cell = omega arith; old = is.head_word; new = is.head_word }, record { cell = next; old = is.tail_word; new = is.tail_word })

    pub data_is_line : (time : ℕ) → IsLine w (data_line w n v i o time)
    data_is_line time =
        let short = is.short in
        let within = is.range.taken in
        let next = word_cell (operand_word v i) operand_small in
        let r : ℕ = operand_word v i % (w / 8) in
        let byte : ℕ = other_word v i % 256 in
        let place : r < w / 8 = for_widths (λ w. operand_word v i % (w / 8) < w / 8) (omega arith) (omega arith) w width in
        record {
          cell = cond_both (takes_primary v i n) (TAPE_CELLS + v.taken) (if touches v i then operand_word v i / (w / 8) else NULL_CELL) Cell
              (λ _. omega (arith, short, within))
              (λ _. cond_both (touches v i) (operand_word v i / (w / 8)) NULL_CELL Cell (λ _. omega (arith, next)) (λ _. omega arith));
          old = old_small;
          new = cond_both (i.op == 28) (other_word v i) (if i.op == 26 then with_byte_in o r byte else old_in n v i o) Word (λ _. other_small)
              (λ _. cond_both (i.op == 26) (with_byte_in o r byte) (old_in n v i o) Word
              (λ _. with_byte_small o r byte place is.data_word (mod-lt (other_word v i) (omega arith))) (λ _. old_small));
        }

pub numbers_stay_in_range : NumbersStayInRange
numbers_stay_in_range w width n time v head tail o takes is = stays_in_range w width n v head tail o takes is
