-- The value of the difference of places.
use Rattle.tv_core.proofs.Common.{◌≡◌, ℕ, ◌+◌, ◌-◌, ◌*◌, ◌%◌, ◌^◌, ◌<◌, List, ◌++◌, ◌∙◌, ap, ap₂, arith, slice_index, value-append, value-wire, wire}
use Rattle.tv_core.proofs.Common.{constant, scaled, Combination, value, Assigns}
use Rattle.tv_core.proofs.CombinationLaws.{value-scaled, value-constant}
use Rattle.tv_core.proofs.NormalLaws.{value-normal}
use Rattle.tv_core.specs.Lines.{pair_value}
use Rattle.tv_core.specs.declared.field.TheConstants.{P}
use Rattle.tv_core.specs.declared.lines.Pair.{Pair}
use Rattle.tv_double_checks.proofs.ItemLaws.{second_is, small_sum}
use Rattle.tv_double_checks.proofs.Numbers.{places_number}
use Rattle.tv_double_checks.proofs.Sums.{value-minus}
use Rattle.tv_double_checks.specs.Differences.{minus}
use Rattle.tv_double_checks.specs.Items.{HasWords, packed}
use Rattle.tv_double_checks.specs.Within.{place_difference}
use Rattle.tv_double_checks.specs.declared.items.CellWords.{CellWords}
use Rattle.tv_doubles.specs.Doubles.{DoubleLine}
use Rattle.tv_doubles.specs.Within.{IsBase, DoubleInRange, sum_of, item_second}

module _ (z : List ℕ) (b : ℕ) (own : CellWords) (item : Pair) (l k : DoubleLine) (j : ℕ) (base : IsBase b) (assigns : Assigns z)
    (has : HasWords z own l.cell l.new) (is_item : pair_value z item ≡ packed b k j) (in_l : DoubleInRange b l) (placed : own.place < 2 ^ 20) where
  pub value-places : (w g : ℕ) → slice_index z w ≡ g
      → value (place_difference b own item.second ++ wire w) z ≡ (2 * item_second b k j + g + (P - (2 * b * own.place + sum_of l.new + 2 * l.new.second))) % P
  value-places w g is_g =
      let x : Combination = minus (2 * b) (scaled 2 item.second) (constant own.place) in
      let y : Combination = minus 1 x own.sum in
      let is_place : value (constant own.place) z ≡ own.place = value-constant assigns own.place ∙ omega arith in
      let twice : value (scaled 2 item.second) z ≡ 2 * item_second b k j % P = value-scaled 2 item.second z
      ∙ ap (λ n. 2 * n % P) (second_is z b item k j is_item) in
      value-append (place_difference b own item.second) (wire w) z
      ∙ ap₂ (λ m n. (m + n) % P)
      (value-normal z (minus 2 y own.second)
      ∙ value-minus 2 y own.second z _ l.new.second
      (value-minus 1 x own.sum z _ (sum_of l.new) (value-minus (2 * b) (scaled 2 item.second) (constant own.place) z _ own.place twice is_place) has.sum)
      has.second)
      (value-wire assigns w ∙ is_g)
      ∙ places_number b base (item_second b k j) own.place (sum_of l.new) l.new.second g placed (small_sum b l.new in_l.new) in_l.new.second
