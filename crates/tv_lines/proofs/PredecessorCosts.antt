-- How many constraints a line that follows costs, and how many terms they have.
use Rattle.tv_core.proofs.Common.{◌≡◌, ℕ, ◌+◌, ◌*◌, ◌%◌, ◌^◌, length, ◌∙◌, ap, arith, length-append, length-each_below, each_below, fresh, put, pure, ◌>>=◌}
use Rattle.tv_core.proofs.Common.{scaled, wire, Combination, terms_in}
use Rattle.tv_bits.proofs.BitsLaws.{new_bits_answer}
use Rattle.tv_bits.proofs.DoubleRowLaws.{new_bits_constraints, new_bits_terms}
use Rattle.tv_bits.proofs.GateLaws.{length-scaled, terms-append}
use Rattle.tv_bits.specs.Bits.{bits_combination, new_bits_of}
use Rattle.tv_bits.specs.Times.{times_of}
use Rattle.tv_bits.specs.declared.bit_wires.Bits.{Bits}
use Rattle.tv_core.specs.Below.{weighted}
use Rattle.tv_core.specs.declared.field.TheConstants.{P}
use Rattle.tv_core.specs.declared.lines.LineLc.{LineLc}
use Rattle.tv_core.specs.declared.lines.Pair.{Pair}
use Rattle.tv_lines.proofs.NormalLaws.{length-cell_excess, length-less_above}
use Rattle.tv_lines.specs.Predecessor.{less_above, cell_excess, cell_difference, either_of, follows_of, FollowsCosts}

bits_long : (first n : ℕ) → length (bits_combination first n) ≡ n
unfolding weighted each_below
bits_long first n = length-each_below n (λ i. (2 ^ i % P, first + i))

follows_lengths : (m : ℕ) (line : LineLc) (item : Pair) (next : ℕ) → terms_in (follows_of m line item next).list
    ≡ 4 * m + 5 + length (cell_excess line item.first) + length (cell_difference line item) + length (less_above item.second line.time)
unfolding follows_of either_of times_of fresh put pure ◌>>=◌
follows_lengths m line item next =
    let reach = new_bits_of m next in
    let bits : Combination = bits_combination reach.answer.first reach.answer.n in
    terms-append reach.list _
    ∙ omega (
      arith,
      new_bits_terms m next,
      ap (λ (b : Bits). b.n) (new_bits_answer m next),
      length-append (cell_excess line item.first) (scaled (2 ^ 32) bits),
      length-scaled (2 ^ 32) bits,
      bits_long reach.answer.first reach.answer.n,
      length-append (less_above item.second line.time) (wire reach.next),
    )

pub follows_cost : FollowsCosts
unfolding follows_of either_of times_of fresh put pure ◌>>=◌
follows_cost = record {
  constraints = λ m line item next. length-append (new_bits_of m next).list _ ∙ omega (arith, new_bits_constraints m next);
  terms = λ m line u v next some cell old time.
      follows_lengths m line (record { first = wire u; second = wire v }) next
      ∙ omega (arith, length-cell_excess line u some cell old, length-less_above line.cell u cell, length-less_above line.time v time);
}
