-- How many wires, and as many values, below P.
use Rattle.tv_core.proofs.Common.{◌≡◌, ℕ, ◌+◌, ◌-◌, ◌*◌, ◌%◌, ◌<◌, ◌==◌, [], ◌∷◌, length, ◌∙◌, ap, arith, mod-lt, cond_both, length-append, bit_at}
use Rattle.tv_core.proofs.Common.{length-each_below, InField-none, InField-cons, put, ◌>>=◌}
use Rattle.tv_bits.specs.Bits.{bits_values, new_bits_of}
use Rattle.tv_bits.proofs.SizeLaws.{bits_in_field}
use Rattle.tv_bits.proofs.BitsLaws.{new_bits_next}
use Rattle.tv_bits.proofs.TimesLaws.{kept_next}
use Rattle.tv_core.proofs.FieldLaws.{InField-append}
use Rattle.tv_core.specs.declared.field.TheConstants.{P}
use Rattle.tv_core.specs.declared.lines.Pair.{Pair}
use Rattle.tv_double_checks.specs.Differences.{excess}
use Rattle.tv_double_checks.specs.Within.{either_of, within_of, within_values, WithinSizes}
use Rattle.tv_double_checks.specs.declared.items.CellWords.{CellWords}
use Rattle.tv_doubles.specs.Doubles.{DoubleLine}
use Rattle.tv_doubles.specs.Within.{sum_of, reach_between, excess_between}

within_next : (b m : ℕ) (own : CellWords) (item : Pair) (next : ℕ) → (within_of b m own item next).next ≡ next + m + 1
unfolding within_of either_of put ◌>>=◌
within_next b m own item next =
    let reach = new_bits_of m next in
    omega (arith, new_bits_next m next, kept_next (excess b reach.answer own item) reach.next)

within_many : (b m : ℕ) (l : DoubleLine) (i : ℕ) (k : DoubleLine) (j : ℕ) → length (within_values b m l i k j) ≡ m + 1
within_many b m l i k j = length-append (bits_values (reach_between l i k j) m) (excess_between b l i k j ∷ [])
    ∙ ap (λ n. n + 1) (length-each_below m (bit_at (reach_between l i k j)))

excess_below : (b : ℕ) (l : DoubleLine) (i : ℕ) (k : DoubleLine) (j : ℕ) → excess_between b l i k j < P
excess_below b l i k j = cond_both (l.cell == k.cell) ((sum_of l.new + (P - 2 * b * (j - i))) % P) 0 (λ e. e < P)
    (λ same. mod-lt _ (omega arith)) (λ apart. omega arith)

pub within_sizes : WithinSizes
within_sizes = record {
  end = within_next;
  fills = λ b m own item l i k j next. omega (arith, within_next b m own item next, within_many b m l i k j);
  in_field = λ b m l i k j. InField-append (bits_values (reach_between l i k j) m) (excess_between b l i k j ∷ []) (bits_in_field (reach_between l i k j) m)
      (InField-cons (excess_between b l i k j) [] (excess_below b l i k j) InField-none);
}
