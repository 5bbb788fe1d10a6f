-- The laws of a tape word.
use Rattle.tv_core.proofs.Common.{◌≡◌, ℕ, ◌+◌, ◌-◌, ◌*◌, ◌%◌, List, [], refl, sym, ◌∙◌, ap, ap₂, arith, put, constant, value, Assigns}
use Rattle.tv_core.proofs.NormalCircuits.{normal_put}
use Rattle.tv_core.proofs.NormalLaws.{IsNormalFrom-normal}
use Rattle.tv_core.specs.Lines.{pair_value}
use Rattle.tv_core.specs.declared.field.TheConstants.{P}
use Rattle.tv_core.specs.declared.lines.Pair.{Pair}
use Rattle.tv_double_checks.proofs.DifferenceLaws.{value-after, value-cells, length-cells_after, length-cell_difference}
use Rattle.tv_double_checks.specs.Differences.{minus, first_less, cells_after, cell_difference}
use Rattle.tv_double_checks.specs.Items.{HasWords, packed}
use Rattle.tv_double_checks.specs.Tape.{tape_word_of, TapeWordIsSound, TapeWordIsComplete, TapeWordSizes}
use Rattle.tv_double_checks.specs.declared.items.CellWords.{CellWords}
use Rattle.tv_doubles.proofs.WithinLaws.{checks_sound, checks_complete}
use Rattle.tv_doubles.specs.Doubles.{DoubleLine}
use Rattle.tv_doubles.specs.Within.{IsBase, DoubleInRange, sum_of, item_first}

module _ (z : List ℕ) (b : ℕ) (own : CellWords) (item : Pair) (l k : DoubleLine) (j : ℕ) (base : IsBase b) (assigns : Assigns z)
    (has : HasWords z own l.cell l.new) (is_item : pair_value z item ≡ packed b k j) (in_l : DoubleInRange b l) (second : l.new.second ≡ 0) where
  product : value (cells_after b own item.first) z * value (cell_difference b own item.first) z % P
      ≡ (item_first b k + (P - 2 * b * (l.cell + 1))) % P * ((item_first b k + (P - (2 * b * l.cell + l.new.first))) % P) % P
  product =
      let sum : sum_of l.new ≡ l.new.first = omega arith in
      ap₂ (λ x y. x * y % P) (value-after z b own item l k j base assigns has is_item in_l)
      (value-cells z b own item l k j base assigns has is_item in_l ∙ ap (λ s. (item_first b k + (P - (2 * b * l.cell + s))) % P) sum)

pub tape_word_sound : TapeWordIsSound
unfolding tape_word_of put
tape_word_sound z next b own item l k j base assigns has is_item in_l in_k second other meets =
    checks_sound.tape b l k base in_l in_k second other (sym (product z b own item l k j base assigns has is_item in_l second) ∙ meets.0)

pub tape_word_complete : TapeWordIsComplete
unfolding tape_word_of put
tape_word_complete z next b own item l k i j base assigns has is_item in_l in_k succeeds second near =
    (product z b own item l k j base assigns has is_item in_l second ∙ checks_complete.tape b l k i j base in_l in_k succeeds second near, tt)

pub tape_word_sizes : TapeWordSizes
unfolding tape_word_of put
tape_word_sizes = record {
  end = λ b own item next. refl;
  fills = λ b own item next. omega arith;
  constraints = λ b own item next. refl;
  terms = λ b own u v next some cell sum. omega (arith, length-cells_after b own u some cell, length-cell_difference b own u cell sum);
  is_normal = λ b own item next.
      normal_put (cells_after b own item.first) (cell_difference b own item.first) [] next
      (IsNormalFrom-normal (minus (2 * b) (first_less b own item.first) (constant 1)))
      (IsNormalFrom-normal (minus 1 (first_less b own item.first) own.sum)) tt;
}
