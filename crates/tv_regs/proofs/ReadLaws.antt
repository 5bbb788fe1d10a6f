-- The laws of reading a register.
use Rattle.tv_core.proofs.Common.{ℕ, ◌+◌, List, [], inl, inr, refl, sym, ◌∙◌, ap, arith, mod-lt, slice_index, cases_eq, wire-below, InField-none, InField-cons}
use Rattle.tv_core.proofs.Common.{Meets-split, Meets-join, fresh, put, pure, turns, ◌>>=◌, InField, sequence}
use Rattle.tv_core.proofs.DifferenceLaws.{same_of_minus}
use Rattle.tv_core.proofs.LoopLaws.{turn_met, turns_met}
use Rattle.tv_regs.proofs.Gates.{times_itself, word_of, product_value, word_below}
use Rattle.tv_regs.specs.Reads.{read_of, read_turn, read_reg_of, read_reg_values, ReadRegIsSound, ReadRegIsComplete, ReadRegSizes}
use Rattle.tv_bits.proofs.SelectLaws.{times_one, times_zero}

pub read_reg_sound : ReadRegIsSound
unfolding read_reg_of read_of fresh put pure ◌>>=◌
read_reg_sound z next sel regs i size assigns row meets =
    let both = Meets-split z (sequence 16 (read_turn next sel regs) (next + 1)).list [] meets in
    let turn = turn_met z (λ k _. read_turn next sel regs k) tt (next + 1) 16 i row.within both.0 in
    let r = slice_index regs i in
    let product = sym (product_value z assigns (sel + i) next r) ∙ turn.0 in
    same_of_minus (slice_index z next) (slice_index z r) (wire-below assigns next) (wire-below assigns r)
    (sym (times_one (slice_index z (sel + i)) _ row.hot (mod-lt _ (omega arith))) ∙ product)
    ∙ sym (word_of z regs i (let h = row.within in omega arith))

pub read_reg_complete : ReadRegIsComplete
unfolding read_reg_of read_of fresh put pure ◌>>=◌
read_reg_complete z next sel regs i size assigns row has =
    let turns = turns_met z (λ k _. read_turn next sel regs k) tt (next + 1) 16 (λ k h. elim (cases_eq k i) [
      | inl same ↦ (
        product_value z assigns (sel + k) next (slice_index regs k)
            ∙ times_itself (slice_index z (sel + k)) (slice_index z next) (slice_index z (slice_index regs k))
            (has.0 ∙ word_of z regs i (let within = row.within in omega arith) ∙ ap (λ n. slice_index z (slice_index regs n)) (sym same))
            (wire-below assigns (slice_index regs k)),
        tt,
      )
      | inr apart ↦ (product_value z assigns (sel + k) next (slice_index regs k) ∙ times_zero (slice_index z (sel + k)) _ (row.cold k h apart), tt)
    ]) in
    Meets-join z (sequence 16 (read_turn next sel regs) (next + 1)).list [] turns tt

-- ---- where the circuit ends, and what it answers
pub read_reg_in_field : (i : ℕ) (words : List ℕ) → InField words → InField (read_reg_values i words)
read_reg_in_field i words small = InField-cons (slice_index words i) [] (word_below words i small) InField-none

pub read_reg_sizes : ReadRegSizes
unfolding read_reg_of read_of turns fresh put pure ◌>>=◌
read_reg_sizes = record { answer = λ sel regs next. refl; end = λ sel regs next. refl; fills = λ sel regs i words next. refl; in_field = read_reg_in_field }
