-- The double cell and the place of a line are read off its item, and the values of a check depend on these of the item's line alone.
use Rattle.tv_core.proofs.Common.{◌≡◌, ℕ, zero, suc, ◌-◌, ◌^◌, ◌<◌, ◌≤◌, List, ◌++◌, length, refl, sym, ap, ap₂, ◌∙◌, arith, subst, inl, inr, joined_below}
use Rattle.tv_core.proofs.JoinedLaws.{joined_below-zero, joined_below-suc}
use Rattle.tv_double_argument.proofs.Order.{brought, item_at}
use Rattle.tv_double_argument.specs.Checks.{Numbers, check_values}
use Rattle.tv_double_argument.specs.Order.{IsItem, checked_values, items_in, line_read, place_read, routed_check, successor_bits}
use Rattle.tv_double_argument.specs.declared.kinds.Kind.{Kind}
use Rattle.tv_double_argument.specs.declared.kinds.Kind.TheVariants.{Within, Image, Tape, Guard}
use Rattle.tv_double_checks.specs.Items.{packed}
use Rattle.tv_core.specs.declared.lines.PairNum.{PairNum}
use Rattle.tv_doubles.proofs.Counts.{permuted_below}
use Rattle.tv_doubles.proofs.SuccessorLaws.{successors_right}
use Rattle.tv_doubles.specs.Doubles.{DoubleLine}
use Rattle.tv_doubles.specs.Successors.{successor}
use Rattle.tv_doubles.specs.Within.{DoubleInRange, IsBase}
use Rattle.tv_network.specs.Filling.{pair_at}
use Rattle.tv_stages.proofs.Reorders.{places-at, places-length}
use Rattle.tv_stages.specs.Stages.{places, through_stages}
use Rattle.tv_stages.specs.declared.nets.Net.{Net}

pub cell_read : (b : ℕ) → IsBase b → (l : DoubleLine) (i : ℕ) → DoubleInRange b l → (line_read b (packed b l i)).cell ≡ l.cell
cell_read b (inl e) l i r = rw e (let o = r.old.first in let p = r.old.second in omega (arith, e, o, p))
cell_read b (inr e) l i r = rw e (let o = r.old.first in let p = r.old.second in omega (arith, e, o, p))

pub place_read_is : (b : ℕ) → IsBase b → (l : DoubleLine) (i : ℕ) → DoubleInRange b l → place_read b (packed b l i) ≡ i
place_read_is b (inl e) l i r = rw e (let p = r.old.second in omega (arith, e, p))
place_read_is b (inr e) l i r = rw e (let p = r.old.second in omega (arith, e, p))

-- so it is an item that can be read
pub is_item : (b : ℕ) → IsBase b → (l : DoubleLine) (i : ℕ) → DoubleInRange b l → i < 2 ^ 20 → IsItem b (packed b l i)
is_item b base l i r h = record {
  cell = let c = r.cell in omega (arith, cell_read b base l i r, c);
  place = omega (arith, place_read_is b base l i r);
}

-- lists of the same values
joined_below-same : {A : Type 0} (n : ℕ) (f g : ℕ → List A) → ((i : ℕ) → i < n → f i ≡ g i) → joined_below n f ≡ joined_below n g
joined_below-same zero f g same = joined_below-zero f ∙ sym (joined_below-zero g)
joined_below-same (suc n) f g same =
    joined_below-suc n f ∙ ap₂ (λ a b. a ++ b) (joined_below-same n f g (λ i h. same i (omega arith))) (same n (omega arith)) ∙ sym (joined_below-suc n g)

-- the values of a check, by the cell and the place of the successor
values_by : (b : ℕ) (k : Kind) (l : DoubleLine) (i : ℕ) (m n : DoubleLine) (j : ℕ) → m.cell ≡ n.cell → check_values b k l i m j ≡ check_values b k l i n j
values_by b k l i m n j e = ap (λ c. check_values b k l i (record { cell = c; old = m.old; new = m.new }) j) e ∙ same k
  where
    same : (k : Kind) → check_values b k l i (record { cell = n.cell; old = m.old; new = m.new }) j ≡ check_values b k l i n j
    same (Within x) = refl
    same (Image x) = refl
    same Tape = refl
    same (Guard x) = refl

module _ (net : Net) (b : ℕ) (base : IsBase b) (lines : Numbers) (few : lines.count ≤ 2 ^ 20)
    (range : (i : ℕ) → i < lines.count → DoubleInRange b (lines.line i)) where
  abbrev out : ℕ → PairNum
  out = through_stages net lines.count (successor_bits net lines.count lines.line) (pair_at (items_in b lines))

  abbrev s : ℕ → ℕ
  s i = successor lines.count lines.line i

  s_below : (i : ℕ) → i < lines.count → s i < lines.count
  s_below = permuted_below lines.count (successor lines.count lines.line) (successors_right.moved lines.count lines.line few)

  out_is : (i : ℕ) → i < lines.count → out i ≡ packed b (lines.line (s i)) (s i)
  out_is i h = brought lines.count lines.line few net (pair_at (items_in b lines)) i h ∙ item_at b lines (s i) (s_below i h)

  pub out_read : (i : ℕ) → i < lines.count → IsItem b (out i)
  out_read i h =
      subst (IsItem b) (sym (out_is i h)) (is_item b base (lines.line (s i)) (s i) (range (s i) (s_below i h)) (let x = s_below i h in omega arith))

  -- what the network brings has the values of the check against the successor
  pub routed_is : (i : ℕ) → i < lines.count → routed_check b lines out i ≡ checked_values b lines i
  routed_is i h =
      let k = lines.kind i in
      let l = lines.line i in
      let m = lines.line (s i) in
      let r = range (s i) (s_below i h) in
      ap (λ p. check_values b k l i (line_read b p) (place_read b p)) (out_is i h)
      ∙ ap (λ j. check_values b k l i (line_read b (packed b m (s i))) j) (place_read_is b base m (s i) r)
      ∙ values_by b k l i (line_read b (packed b m (s i))) m (s i) (cell_read b base m (s i) r)

  -- the items that the network has moved
  module _ (moved : List PairNum) (is : moved ≡ places lines.count out) where
    at : (i : ℕ) → i < lines.count → pair_at moved i ≡ out i
    at i h = ap (λ ps. pair_at ps i) is ∙ places-at lines.count i out (record { first = 0; second = 0 }) h

    pub moved_many : length moved ≡ lines.count
    moved_many = ap length is ∙ places-length lines.count out

    pub moved_read : (i : ℕ) → i < length moved → IsItem b (pair_at moved i)
    moved_read i h = let low : i < lines.count = omega (arith, moved_many) in subst (IsItem b) (sym (at i low)) (out_read i low)

    pub moved_values : joined_below (length moved - 1) (routed_check b lines (pair_at moved)) ≡ joined_below (lines.count - 1) (checked_values b lines)
    moved_values =
        ap (λ m. joined_below (m - 1) (routed_check b lines (pair_at moved))) moved_many
        ∙ joined_below-same (lines.count - 1) (routed_check b lines (pair_at moved)) (checked_values b lines)
        (λ i h.
        let low : i < lines.count = omega arith in
        ap (λ p. check_values b (lines.kind i) (lines.line i) i (line_read b p) (place_read b p)) (at i low) ∙ routed_is i low)
