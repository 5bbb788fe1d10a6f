-- What an assignment that meets the tapes' constraints has.
use Rattle.tv_core.proofs.Common.{◌≡◌, ℕ, ◌+◌, ◌-◌, ◌*◌, ◌/◌, ◌%◌, ◌<◌, ◌≤◌, ◌==◌, nat_lt, not, Bool, true, false, if◌then◌else◌, [], ◌∷◌, inl, inr, refl, sym}
use Rattle.tv_core.proofs.Common.{◌∙◌, ap, ap₂, subst, arith, zero-mul, List, bit_at, slice_index, cases_eq, cases_lt, eq-eqb, eqb-true, ne_eqb, lt-ltb, le-ltb}
use Rattle.tv_core.proofs.Common.{value-wire, fresh, put, pure, ◌>>=◌, wire, width_short, IsWidth, flag_of}
use Rattle.std.proofs.Common.{◌&&◌, true≢false}
use Rattle.std.proofs.lemmas.Bool.{and_parts}
use Rattle.tv_bits.proofs.BitNumbers.{HasBits-bit_at}
use Rattle.tv_bits.specs.Bit.{IsBit}
use Rattle.tv_core.specs.Inverse.{inverse_of}
use Rattle.tv_core.specs.declared.field.TheConstants.{P}
use Rattle.tv_inputs.proofs.Settled.{Settles, if_zero_then, times_then, settles_then}
use Rattle.tv_inputs.specs.declared.records.OperandWires.{OperandWires}
use Rattle.tv_inputs.specs.declared.records.StateWires.{StateWires}
use Rattle.tv_isa.specs.Opcodes.{among}
use Rattle.tv_isa.specs.declared.instr.Instr.{Instr}
use Rattle.tv_numbers.specs.Numbers.{operand_word, asks, takes_primary, stepped}
use Rattle.tv_numbers.specs.Views.{View}
use Rattle.tv_word.proofs.FlagLaws.{flag_small}
use Rattle.tv_inputs.proofs.OpcodeLaws.{opcode_sum_sound}
use Rattle.tv_inputs.proofs.TapeGates.{primary_sound, auxiliary_sound, primary_complete, auxiliary_complete}
use Rattle.tv_inputs.proofs.UpperLaws.{upper_once}
use Rattle.tv_inputs.specs.OpcodeSums.{opcode_sum}
use Rattle.tv_inputs.specs.Operand.{upper_of}
use Rattle.tv_inputs.specs.Tapes.{primary_of, auxiliary_of, tapes_of, TapesAreSound, HasTapes, tapes_values, AreTapes}
use Rattle.tv_bits.specs.Zero.{zero_cases_of}

-- ---- tests
pub among_one : (j k : ℕ) → among (j ∷ []) k ≡ (k == j)
among_one j k = elim (cases_eq j k) [
  | inl same ↦ ap (λ b. if b then true else false) (eq-eqb j k same) ∙ sym (eq-eqb k j (sym same))
  | inr apart ↦ ap (λ b. if b then true else false) (ne_eqb j k apart) ∙ sym (ne_eqb k j (λ e. apart (sym e)))
]

and_if : (b c : Bool) → (if b then c else false) ≡ (b && c)
and_if true c = refl
and_if false c = refl

-- ---- the numbers of a read, k saying whether the step is one
pub record Reading (k : Bool) (a reads aux : ℕ) : Type 0 where
  pub one : aux ≡ flag_of (k && (a == 1))
  pub none : (reads + (P - aux)) % P ≡ flag_of (k && (a == 0))

pub reading_by : (k : Bool) (a low reads aux : ℕ) → low ≡ a % 2 → reads ≡ (if a / 2 == 0 then flag_of k else 0) → aux ≡ reads * low % P → Reading k a reads aux
reading_by k a low reads aux is_low is_reads is_aux = elim (cases_eq a 0) [
  | inl zeroth ↦ at_zero k (is_reads ∙ ap (λ n. if n / 2 == 0 then flag_of k else 0) zeroth) (is_low ∙ ap (λ n. n % 2) zeroth) zeroth
  | inr some ↦ elim (cases_eq a 1) [
    | inl first ↦ at_one k (is_reads ∙ ap (λ n. if n / 2 == 0 then flag_of k else 0) first) (is_low ∙ ap (λ n. n % 2) first) first
    | inr others ↦ at_other k (is_reads ∙ ap (λ b. if b then flag_of k else 0) (ne_eqb (a / 2) 0 (λ e. absurd_by (omega arith)))) (ne_eqb a 0 some)
        (ne_eqb a 1 others)
  ]
]
  where
    absurd_by : ⊥ → ⊥
    absurd_by e = e

    at_zero : (k : Bool) → reads ≡ flag_of k → low ≡ 0 → a ≡ 0 → Reading k a reads aux
    at_zero true r l z = record {
      one = is_aux ∙ rw (r, l) refl ∙ sym (ap (λ n. flag_of (true && (n == 1))) z);
      none = rw (is_aux, r, l) refl ∙ sym (ap (λ n. flag_of (true && (n == 0))) z);
    }
    at_zero false r l z = record { one = is_aux ∙ rw (r, l) refl; none = rw (is_aux, r, l) refl }

    at_one : (k : Bool) → reads ≡ flag_of k → low ≡ 1 → a ≡ 1 → Reading k a reads aux
    at_one true r l z = record {
      one = is_aux ∙ rw (r, l) refl ∙ sym (ap (λ n. flag_of (true && (n == 1))) z);
      none = rw (is_aux, r, l) refl ∙ sym (ap (λ n. flag_of (true && (n == 0))) z);
    }
    at_one false r l z = record { one = is_aux ∙ rw (r, l) refl; none = rw (is_aux, r, l) refl }

    at_other : (k : Bool) → reads ≡ 0 → (a == 0) ≡ false → (a == 1) ≡ false → Reading k a reads aux
    at_other true r e f =
        let no : aux ≡ 0 = is_aux ∙ ap (λ n. n * low % P) r ∙ ap (λ n. n % P) (zero-mul low) in
        record { one = no ∙ sym (ap (λ b. flag_of (true && b)) f); none = rw (no, r) refl ∙ sym (ap (λ b. flag_of (true && b)) e) }
    at_other false r e f =
        let no : aux ≡ 0 = is_aux ∙ ap (λ n. n * low % P) r ∙ ap (λ n. n % P) (zero-mul low) in
        record { one = no; none = rw (no, r) refl }

-- one more where a word is left and read
pub more_by : (b : Bool) (n t : ℕ) → t ≤ n → t + (if n - t == 0 then 0 else flag_of b) ≡ (if b && nat_lt t n then t + 1 else t)
more_by b n t within = elim (cases_lt t n) [
  | inl below ↦ ap (λ c. t + (if c then 0 else flag_of b)) (ne_eqb (n - t) 0 (λ e. no_zero e below)) ∙ both b (lt-ltb t n below)
  | inr past ↦ ap (λ c. t + (if c then 0 else flag_of b)) (eq-eqb (n - t) 0 (let same : t ≡ n = omega arith in omega arith)) ∙ neither b (le-ltb t n past)
]
  where
    no_zero : n - t ≡ 0 → t < n → ⊥
    no_zero e below = absurd (omega arith)

    both : (b : Bool) → nat_lt t n ≡ true → t + flag_of b ≡ (if b && nat_lt t n then t + 1 else t)
    both true e = sym (ap (λ c. if c then t + 1 else t) e)
    both false e = omega arith

    neither : (b : Bool) → nat_lt t n ≡ false → t + 0 ≡ (if b && nat_lt t n then t + 1 else t)
    neither true e = (let same : t + 0 ≡ t = omega arith in same) ∙ sym (ap (λ c. if c then t + 1 else t) e)
    neither false e = omega arith

ends_by : (q t : Bool) (before ended : ℕ) → ended ≡ (if q then (if t then before else 1) else before) → ended ≡ (if q && not t then 1 else before)
ends_by true true before ended e = e
ends_by true false before ended e = e
ends_by false t before ended e = e

-- ---- what is taken of the tapes
-- nothing but at a read
pub no_primary : (v : View) (i : Instr) (n : ℕ) → (i.op == 30) ≡ false → takes_primary v i n ≡ false
no_primary v i n e = ap (λ b. (b && (operand_word v i == 0)) && nat_lt v.taken n) e

pub no_auxiliary : (v : View) (i : Instr) (t : Bool) → (t ≡ true → asks v i ≡ true) → (i.op == 30) ≡ false → t ≡ false
no_auxiliary v i true asked e = absurd (true≢false (sym (asked refl) ∙ ap (λ b. (b && (operand_word v i == 1)) && (v.ended == 0)) e))
no_auxiliary v i false asked e = refl

-- and of one tape alone
pub one_tape : (v : View) (i : Instr) (n : ℕ) (t : Bool) → (t ≡ true → asks v i ≡ true) → takes_primary v i n ≡ true → t ≡ false
one_tape v i n true asked p =
    let first = and_parts ((i.op == 30) && (operand_word v i == 0)) (nat_lt v.taken n) p in
    let zeroth = and_parts (i.op == 30) (operand_word v i == 0) first.0 in
    let other = and_parts ((i.op == 30) && (operand_word v i == 1)) (v.ended == 0) (asked refl) in
    let one = and_parts (i.op == 30) (operand_word v i == 1) other.0 in
    absurd (apart (operand_word v i) (eqb-true (operand_word v i) 0 zeroth.1) (eqb-true (operand_word v i) 1 one.1))
  where
    apart : (a : ℕ) → a ≡ 0 → a ≡ 1 → ⊥
    apart a e f = absurd (omega arith)
one_tape v i n false asked p = refl

primary_next : (n before reads aux next : ℕ) → (primary_of n before reads aux next).next ≡ next + 2
unfolding primary_of zero_cases_of fresh put pure ◌>>=◌
primary_next n before reads aux next = omega arith

-- ---- the tapes
-- `takes` is whether a word of the auxiliary tape is taken, where one is asked for
module _ (w : ℕ) (width : IsWidth w) (z : List ℕ) (n : ℕ) (state : StateWires) (op : ℕ) (a : OperandWires) (v : View) (i : Instr) (o : ℕ) (takes : Bool)
    (has : HasTapes w z (record { state = state; op = op; operand = a }) n v i) (may : takes ≡ true → asks v i ≡ true) where
  abbrev at : ℕ
  at = operand_word v i

  abbrev k : Bool
  k = i.op == 30

  abbrev zero_read : Bool
  zero_read = (i.op == 30) && (operand_word v i == 0)

  abbrev after : ℕ
  after = if takes_primary v i n then v.taken + 1 else v.taken

  low : slice_index z a.bits.first ≡ at % 2
  low =
      let most = width_short w width in
      ap (λ w. slice_index z w) (let e : a.bits.first ≡ a.bits.first + 0 = omega arith in e)
      ∙ HasBits-bit_at has.operand.bits 0 (omega arith) ∙ (let e : bit_at at 0 ≡ at % 2 = omega arith in e)

  primary_settled : (reads aux : ℕ) → (slice_index z reads + (P - slice_index z aux)) % P ≡ flag_of zero_read
      → Settles z (primary_of n state.taken_of_primary reads aux) (after ∷ inverse_of (n - v.taken) * flag_of zero_read % P ∷ []) (λ t. slice_index z t ≡ after)
  primary_settled reads aux none =
      let before = state.taken_of_primary in
      let within = subst (λ t. t ≤ n) (sym has.before) has.within in
      let rise = ap (λ t. t + (if n - t == 0 then 0 else flag_of zero_read)) has.before ∙ more_by zero_read n v.taken has.within in
      record {
        sound = λ next meets.
            primary_sound z n before reads aux (flag_of zero_read) has.assigns has.short within (flag_small zero_read) none next meets ∙ rise;
        complete = λ next values.
            primary_complete z n before reads aux (flag_of zero_read) has.assigns has.short within (flag_small zero_read) none next
            (values.0 ∙ sym rise) (values.1.0 ∙ sym (ap (λ t. inverse_of (n - t) * flag_of zero_read % P) has.before));
      }

  auxiliary_settled : (taken aux : ℕ) → slice_index z taken ≡ after → slice_index z aux ≡ flag_of (k && (at == 1))
      → Settles z (auxiliary_of taken aux state.aux_ended) (flag_of takes ∷ (stepped w n v i o takes).ended ∷ []) (λ t. AreTapes z t n v i)
  unfolding auxiliary_of fresh put pure ◌>>=◌
  auxiliary_settled taken aux is_taken is_aux =
      let bit = subst IsBit (sym has.ended) has.bit in
      let asking : (if k && (at == 1) then slice_index z state.aux_ended == 0 else false) ≡ asks v i =
      and_if (k && (at == 1)) (slice_index z state.aux_ended == 0) ∙ ap (λ e. (k && (at == 1)) && (e == 0)) has.ended in
      record {
        sound = λ next meets.
            let takings = auxiliary_sound z next taken aux state.aux_ended (k && (at == 1)) has.assigns is_aux bit meets in
            record {
              taken = is_taken;
              takes = takings.took;
              asked = λ t. sym asking ∙ takings.only t;
              ended = takings.ends ∙ ap₂ (λ q e. if q then (if slice_index z next == 1 then e else 1) else e) asking has.ended
                  ∙ ends_by (asks v i) (slice_index z next == 1) v.ended _ refl;
            };
        complete = λ next values.
            auxiliary_complete z next taken aux state.aux_ended (k && (at == 1)) takes has.assigns is_aux values.0 bit
            (λ t. ap (λ e. (k && (at == 1)) && (e == 0)) has.ended ∙ may t)
            (values.1.0 ∙ sym (ap (λ e. if ((k && (at == 1)) && (e == 0)) && not takes then 1 else e) has.ended));
      }

  pub tapes_settled : Settles z (tapes_of w n state op a) (tapes_values w n v i o takes) (λ t. AreTapes z t n v i)
  unfolding tapes_of
  tapes_settled =
      let assigns = has.assigns in
      let most = width_short w width in
      if_zero_then assigns _ (opcode_sum op (30 ∷ [])) (upper_of 1 a 1)
      (opcode_sum_sound z op i.op (30 ∷ []) has.opcode refl ∙ ap flag_of (among_one 30 i.op)) (upper_once w width z a at 1 assigns has.operand (omega arith))
      (λ reads is_reads.
      let reading = reading_by k at (slice_index z a.bits.first) (slice_index z reads) (slice_index z reads * slice_index z a.bits.first % P) low is_reads
      refl in
      times_then assigns _ (wire reads) (wire a.bits.first)
      (ap₂ (λ m n. m * n % P) (value-wire assigns reads) (value-wire assigns a.bits.first) ∙ reading.one) (λ aux is_aux.
      let none = ap (λ m. (slice_index z reads + (P - m)) % P) (is_aux ∙ sym reading.one) ∙ reading.none in
      settles_then (primary_of n state.taken_of_primary reads aux) _ (after ∷ inverse_of (n - v.taken) * flag_of zero_read % P ∷ []) _
      (primary_next n state.taken_of_primary reads aux) (primary_settled reads aux none) (λ taken is_taken. auxiliary_settled taken aux is_taken is_aux)))

pub tapes_sound : TapesAreSound
tapes_sound w width z next n state op a v i has = (tapes_settled w width z n state op a v i 0 false has (λ e. absurd (true≢false (sym e)))).sound next
