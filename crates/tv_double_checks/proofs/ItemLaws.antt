-- The laws of items.
use Rattle.tv_core.proofs.Common.{◌≡◌, ℕ, ◌+◌, ◌*◌, ◌%◌, ◌^◌, ◌<◌, ◌≤◌, List, ◌++◌, refl, ◌∙◌, ap, ap₂, arith, value-append, value-wire, scaled, constant}
use Rattle.tv_core.proofs.Common.{value, Assigns}
use Rattle.tv_core.proofs.CombinationLaws.{value-scaled, value-constant}
use Rattle.tv_core.proofs.LineLaws.{pair_same}
use Rattle.tv_core.proofs.NormalLaws.{value-normal}
use Rattle.tv_core.specs.Lines.{pair_value}
use Rattle.tv_core.specs.declared.field.TheConstants.{P}
use Rattle.tv_core.specs.declared.lines.Pair.{Pair}
use Rattle.tv_core.specs.declared.lines.PairNum.{PairNum}
use Rattle.tv_double_checks.specs.Items.{HasWords, packed, ItemsAreRight}
use Rattle.tv_double_checks.specs.declared.items.CellWords.{CellWords}
use Rattle.tv_doubles.proofs.WithinNumbers.{by_base}
use Rattle.tv_doubles.specs.Doubles.{DoubleLine, Words}
use Rattle.tv_doubles.specs.Within.{IsBase, WordsInRange, DoubleInRange, sum_of, item_first, item_second}

-- ---- the numbers of an item, and a sum of two words
pub first_is : (z : List ℕ) (b : ℕ) (item : Pair) (k : DoubleLine) (j : ℕ) → pair_value z item ≡ packed b k j → value item.first z ≡ item_first b k
first_is z b item k j is_item = ap (λ (x : PairNum). x.first) is_item

pub second_is : (z : List ℕ) (b : ℕ) (item : Pair) (k : DoubleLine) (j : ℕ) → pair_value z item ≡ packed b k j → value item.second z ≡ item_second b k j
second_is z b item k j is_item = ap (λ (x : PairNum). x.second) is_item

pub small_sum : (b : ℕ) (words : Words) → WordsInRange b words → sum_of words < 2 * b
small_sum b words range = omega (arith, range.first, range.second)

-- ---- below P, at 2 ^ 16 and at 2 ^ 32
abbrev First : ℕ → Type 0
First b = (d s : ℕ) → d ≤ 2 ^ 29 + 2 ^ 17 → s < 2 ^ 33 → (2 * b * d % P + s) % P ≡ 2 * b * d + s

first_number : (b : ℕ) → IsBase b → First b
first_number = by_base First (λ d s h i. omega arith) (λ d s h i. omega arith)

abbrev Second : ℕ → Type 0
Second b = (i n : ℕ) → i < 2 ^ 20 → n < 2 ^ 32 → (b * i % P + n) % P ≡ b * i + n

second_number : (b : ℕ) → IsBase b → Second b
second_number = by_base Second (λ i n h k. omega arith) (λ i n h k. omega arith)

base_small : (b : ℕ) → IsBase b → b ≤ 2 ^ 32
base_small = by_base (λ b. b ≤ 2 ^ 32) (omega arith) (omega arith)

-- ---- the laws
item_right : (z : List ℕ) (b : ℕ) (words : CellWords) (l : DoubleLine) → IsBase b → Assigns z → HasWords z words l.cell l.old → DoubleInRange b l
    → words.place < 2 ^ 20 → (value (scaled (2 * b) words.cell ++ words.sum) z ≡ item_first b l)
    × (value (scaled b (constant words.place) ++ words.second) z ≡ item_second b l words.place)
item_right z b words l base assigns has in_l placed =
    let small = base_small b base in
    let is_place : value (constant words.place) z ≡ words.place = value-constant assigns words.place ∙ omega arith in (
      value-append (scaled (2 * b) words.cell) words.sum z
          ∙ ap₂ (λ m n. (m + n) % P) (value-scaled (2 * b) words.cell z ∙ ap (λ n. 2 * b * n % P) has.cell) has.sum
          ∙ first_number b base l.cell (sum_of l.old) in_l.cell (omega (arith, small_sum b l.old in_l.old)),
      value-append (scaled b (constant words.place)) words.second z
          ∙ ap₂ (λ m n. (m + n) % P) (value-scaled b (constant words.place) z ∙ ap (λ n. b * n % P) is_place) has.second
          ∙ second_number b base words.place l.old.second placed (omega (arith, in_l.old.second)),
    )

pub items_right : ItemsAreRight
items_right = record {
  item = λ z b words l base assigns has in_l placed.
      let right = item_right z b words l base assigns has in_l placed in
      pair_same _ _ _ _ (value-normal z (scaled (2 * b) words.cell ++ words.sum) ∙ right.0)
      (value-normal z (scaled b (constant words.place) ++ words.second) ∙ right.1);
  known = λ z d words i assigns h j k. record {
    cell = value-constant assigns d ∙ omega arith;
    sum = value-constant assigns (words.first + words.second) ∙ omega arith;
    second = value-constant assigns words.second ∙ omega arith;
  };
  tape = λ z d w i assigns h. record { cell = value-constant assigns d ∙ omega arith; sum = value-wire assigns w ∙ omega arith; second = refl };
}
