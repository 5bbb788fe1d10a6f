-- Where an assignment has the registers that a step writes, and what they cost.
use Rattle.tv_core.proofs.Common.{◌≡◌, ℕ, zero, suc, ◌+◌, ◌*◌, ◌%◌, ◌^◌, ◌<◌, ◌==◌, Bool, true}
use Rattle.tv_core.proofs.Common.{false, if◌then◌else◌, List, [], ◌∷◌, length, inl, inr, refl, sym}
use Rattle.tv_core.proofs.Common.{◌∙◌, ap, ap₂, subst, arith, slice_index, range_with_len, cases_eq, ne_eqb, value-wire, fresh, put, pure, ◌>>=◌, wire, value}
use Rattle.tv_core.proofs.Common.{HasFrom, InField, InField-cons, IsWidth, terms_in, flag_of}
use Rattle.std.proofs.Common.{true≢false}
use Rattle.std.specs.Prelude.{slice_set}
use Rattle.std.proofs.lemmas.List.{length-set}
use Rattle.std.proofs.lemmas.List.Elements.{All-from_get_or}
use Rattle.tv_bits.proofs.GateLaws.{terms-append}
use Rattle.tv_bits.specs.Bit.{IsBit}
use Rattle.tv_core.specs.declared.field.TheConstants.{P}
use Rattle.tv_inputs.proofs.Settled.{Settles, sum_then}
use Rattle.tv_inputs.specs.Inputs.{input_of}
use Rattle.tv_isa.specs.Opcodes.{among, writer_ops}
use Rattle.tv_isa.specs.declared.instr.Instr.{Instr}
use Rattle.tv_numbers.proofs.Cases.{chosen_in}
use Rattle.tv_numbers.proofs.RangeLaws.{some_words, results_small}
use Rattle.tv_numbers.specs.Numbers.{operand_word, other_word, found, writes, stepped, result_in}
use Rattle.tv_numbers.specs.Tables.{results}
use Rattle.tv_numbers.specs.Views.{View}
use Rattle.tv_regs.proofs.UpdateLaws.{update_complete, update_sizes, update_costs, update_sound}
use Rattle.tv_bits.specs.Wires.{words_at}
use Rattle.tv_regs.specs.Update.{update_of, IsWrite}
use Rattle.tv_regs.specs.Writes.{written_regs}
use Rattle.tv_regs.specs.declared.triple.Triple.{Triple}
use Rattle.tv_inputs.proofs.AccumulationLaws.{accumulated_next}
use Rattle.tv_inputs.proofs.FieldNumbers.{flag_in_field, small_word}
use Rattle.tv_inputs.proofs.OpcodeLaws.{opcode_sum_sound}
use Rattle.tv_inputs.proofs.TapeFills.{flag_test}
use Rattle.tv_inputs.proofs.TapeLaws.{among_one}
use Rattle.tv_inputs.specs.Accumulation.{accumulated_of, closed_of}
use Rattle.tv_parts.specs.Written.{written_of, HasWritten, written_values, WrittenIsSound, WrittenIsComplete, WrittenSizes, WrittenCosts}
use Rattle.tv_inputs.specs.OpcodeSums.{opcode_sum}
use Rattle.tv_inputs.specs.declared.records.StateWires.{StateWires}
use Rattle.tv_step.proofs.RangeLaws.{word_at}
use Rattle.tv_step.specs.Range.{AreWords}
use Rattle.tv_word.proofs.FlagLaws.{flag_small}

bit_test : (f : ℕ) → f < 2 → (0 + 1 * f) % P ≡ flag_of (f == 1)
bit_test zero small = refl
bit_test (suc zero) small = refl
bit_test (suc (suc k)) small = absurd (omega arith)

pub on_number : (a c : Bool) (f : ℕ) → f < 2 → (c ≡ true → a ≡ false) → (flag_of a + flag_of c * f) % P ≡ flag_of (if c then f == 1 else a)
on_number a true f small none = rw (none refl) (bit_test f small)
on_number true false f small none = omega arith
on_number false false f small none = omega arith

pub writes_among : (k f : ℕ) → (if k == 19 then f == 1 else among writer_ops k) ≡ true → among (19 ∷ writer_ops) k ≡ true
writes_among k f e = elim (cases_eq k 19) [
  | inl same ↦ ap (among (19 ∷ writer_ops)) same
  | inr apart ↦
      ap (λ b. if b then true else among writer_ops k) (ne_eqb 19 k (λ s. apart (sym s)))
      ∙ (sym (ap (λ b. if b then f == 1 else among writer_ops k) (ne_eqb k 19 apart)) ∙ e)
]

pub regs_where : (b : Bool) (x y d : ℕ) (words : List ℕ) → (b ≡ true → x ≡ y) → written_regs b x d words ≡ (if b then slice_set words d y else words)
regs_where true x y d words e = ap (slice_set words d) (e refl)
regs_where false x y d words e = refl

pub none_of : (k : ℕ) → (k == 19) ≡ true → among writer_ops k ≡ false
none_of k e = elim (cases_eq k 19) [ inl same ↦ ap (among writer_ops) same | inr apart ↦ absurd (true≢false (sym e ∙ ne_eqb k 19 apart)) ]

module _ (w : ℕ) (z : List ℕ) (n : ℕ) (state : StateWires) (op : ℕ) (regs : Triple) (result : ℕ) (v : View) (i : Instr) (o : ℕ) (takes : Bool)
    (has : HasWritten w z (record { state = state; op = op; regs = regs; result = result }) (input_of n v i o) takes) where
  abbrev does : Bool
  does = writes w n v i o takes

  on_is : (value (opcode_sum op writer_ops) z + value (opcode_sum op (19 ∷ [])) z * value (wire state.flag) z) % P ≡ flag_of does
  on_is =
      ap₂ (λ a b. (a + b) % P) (opcode_sum_sound z op i.op writer_ops has.opcode refl) (ap₂ (λ c f. c * f)
      (opcode_sum_sound z op i.op (19 ∷ []) has.opcode refl ∙ ap flag_of (among_one 19 i.op)) (value-wire has.assigns state.flag ∙ has.flag))
      ∙ on_number (among writer_ops i.op) (i.op == 19) v.flag has.bit (none_of i.op)

  after : (on : ℕ) → slice_index z on ≡ flag_of does
      → written_regs (slice_index z on == 1) (slice_index z result) i.dest (words_at z state.regs) ≡ (stepped w n v i o takes).regs
  after on is =
      ap₂ (λ b l. written_regs b (slice_index z result) i.dest l) (ap (λ k. k == 1) is ∙ flag_test does) has.words
      ∙ regs_where does (slice_index z result) (result_in w n v i o takes) i.dest v.regs (λ e. has.word (writes_among i.op v.flag e))

  pub written_settled : Settles z (written_of op state regs result) (written_values w n v i o takes) (λ l. words_at z l ≡ (stepped w n v i o takes).regs)
  unfolding written_of
  written_settled =
      sum_then has.assigns _ (opcode_sum op writer_ops) (opcode_sum op (19 ∷ [])) (wire state.flag) on_is (λ on is.
      let is_write : IsWrite z on regs.dest regs.dest_word state.regs i.dest = record {
        size = has.size;
        bit = subst IsBit (sym is) (flag_small does);
        number = has.dest;
        within = has.within;
        old = has.dest_word ∙ ap (λ l. slice_index l i.dest) (sym has.words);
      } in
      record {
        sound = λ next meets. update_sound z next on regs.dest regs.dest_word result state.regs i.dest has.assigns is_write meets ∙ after on is;
        complete = λ next values.
            update_complete z next on regs.dest regs.dest_word result state.regs i.dest has.assigns is_write
            (subst (λ l. HasFrom z next l) (sym (after on is)) values);
      })

pub written_sound : WrittenIsSound
written_sound w z next n state op regs result v i o takes has = (written_settled w z n state op regs result v i o takes has).sound next

pub written_complete : WrittenIsComplete
written_complete w z next n state op regs result v i o takes has = (written_settled w z n state op regs result v i o takes has).complete next

written_answer : (op : ℕ) (state : StateWires) (regs : Triple) (result next : ℕ) → (written_of op state regs result next).answer ≡ range_with_len (next + 1) 16
unfolding written_of ◌>>=◌
written_answer op state regs result next =
    let on = accumulated_of (opcode_sum op writer_ops) (opcode_sum op (19 ∷ [])) (wire state.flag) next in
    update_sizes.answer on.answer regs.dest regs.dest_word result state.regs on.next
    ∙ ap (λ k. range_with_len k 16) (accumulated_next (opcode_sum op writer_ops) (opcode_sum op (19 ∷ [])) (wire state.flag) next)

written_next : (op : ℕ) (state : StateWires) (regs : Triple) (result next : ℕ) → (written_of op state regs result next).next ≡ next + 17
unfolding written_of ◌>>=◌
written_next op state regs result next =
    let on = accumulated_of (opcode_sum op writer_ops) (opcode_sum op (19 ∷ [])) (wire state.flag) next in
    let first : on.next ≡ next + 1 = accumulated_next (opcode_sum op writer_ops) (opcode_sum op (19 ∷ [])) (wire state.flag) next in
    let second = update_sizes.end on.answer regs.dest regs.dest_word result state.regs on.next in
    omega (arith, first, second)

regs_size : (b : Bool) (words : List ℕ) (d x : ℕ) → length (if b then slice_set words d x else words) ≡ length words
regs_size true words d x = length-set words d x
regs_size false words d x = refl

written_in_field : (w : ℕ) → IsWidth w → (n : ℕ) (v : View) (i : Instr) (o : ℕ) (takes : Bool) → AreWords w v.regs → operand_word v i < 2 ^ w
    → other_word v i < 2 ^ w → o < 2 ^ w → InField (written_values w n v i o takes)
written_in_field w width n v i o takes words a_word x_word o_word =
    let does = writes w n v i o takes in
    let result = result_in w n v i o takes in
    let finds = found w n v i o takes in
    let small : result < 2 ^ w =
    chosen_in (λ k. k < 2 ^ w) (results w (other_word v i) (operand_word v i) o finds) i.op (some_words w width)
    (results_small w width (other_word v i) (operand_word v i) o finds x_word a_word o_word) in
    let regs : InField v.regs = All-from_get_or (λ k. k < P) v.regs 0 (λ j _. small_word w width (slice_index v.regs j) (word_at w width v.regs j words)) in
    InField-cons (flag_of does) (stepped w n v i o takes).regs (flag_in_field does)
    (update_sizes.in_field does result i.dest v.regs (small_word w width result small) regs)

pub written_sizes : WrittenSizes
written_sizes = record {
  answer = written_answer;
  end = written_next;
  fills = λ op state regs result w n v i o takes size next.
      written_next op state regs result next ∙ ap (λ m. next + suc m)
      (sym (regs_size (writes w n v i o takes) v.regs i.dest (result_in w n v i o takes) ∙ size));
  in_field = written_in_field;
}

written_count : (op : ℕ) (state : StateWires) (regs : Triple) (result next : ℕ) → length (written_of op state regs result next).list ≡ 18
unfolding written_of closed_of fresh put pure ◌>>=◌
written_count op state regs result next = ap suc (update_costs.constraints next regs.dest regs.dest_word result state.regs (next + 1))

written_terms : (op : ℕ) (state : StateWires) (regs : Triple) (result next : ℕ) → terms_in (written_of op state regs result next).list ≡ 118
unfolding written_of closed_of fresh put pure ◌>>=◌
written_terms op state regs result next =
    let on = accumulated_of (opcode_sum op writer_ops) (opcode_sum op (19 ∷ [])) (wire state.flag) next in
    let update = update_of next regs.dest regs.dest_word result state.regs (next + 1) in
    terms-append on.list update.list ∙ ap (λ m. 20 + m) (update_costs.terms next regs.dest regs.dest_word result state.regs (next + 1))

pub written_costs : WrittenCosts
written_costs = record { constraints = written_count; terms = written_terms }
