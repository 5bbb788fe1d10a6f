-- The settings for the successors bring their items.
use Rattle.tv_core.proofs.Common.{◌≡◌, ℕ, ◌<◌, ◌≤◌, ◌^◌, List, length, slice_index, sym, ap, ◌∙◌, arith, subst}
use Rattle.tv_core.specs.declared.lines.PairNum.{PairNum}
use Rattle.tv_double_argument.specs.Checks.{Numbers}
use Rattle.tv_double_argument.specs.Order.{items_in, successor_bits, successors}
use Rattle.tv_double_checks.specs.Items.{packed}
use Rattle.tv_doubles.proofs.SuccessorLaws.{successors_right}
use Rattle.tv_doubles.specs.Doubles.{DoubleLine}
use Rattle.tv_doubles.specs.Successors.{successor}
use Rattle.tv_network.specs.Filling.{pair_at}
use Rattle.tv_stages.proofs.Reorders.{places-at, places-length}
use Rattle.tv_stages.proofs.SettingsLaws.{settings_right}
use Rattle.tv_stages.specs.Settings.{settings_of}
use Rattle.tv_stages.specs.Stages.{IsReordering, bit_in, through_stages}
use Rattle.tv_stages.specs.declared.nets.Net.{Net}

-- what agrees with a reordering is one
reordered : (n : ℕ) (p q : ℕ → ℕ) → ((i : ℕ) → i < n → p i ≡ q i) → IsReordering n p → IsReordering n q
reordered n p q same r = record {
  below = λ i h. subst (λ v. v < n) (same i h) (r.below i h);
  back = r.back;
  back_below = r.back_below;
  there = λ x h. sym (same (r.back x) (r.back_below x h)) ∙ r.there x h;
  once = λ i j h k e. r.once i j h k (same i h ∙ e ∙ sym (same j k));
}

module _ (n : ℕ) (line : ℕ → DoubleLine) (few : n ≤ 2 ^ 20) where
  pub successors_long : length (successors n line) ≡ n
  successors_long = places-length n (successor n line)

  pub successors_reordered : IsReordering (length (successors n line)) (λ i. slice_index (successors n line) i)
  successors_reordered =
      subst (λ m. IsReordering m (λ i. slice_index (successors n line) i)) (sym successors_long)
      (reordered n (successor n line) (λ i. slice_index (successors n line) i) (λ i h. sym (places-at n i (successor n line) 0 h))
      (successors_right.permutes n line few))

  pub brought : (net : Net) (item : ℕ → PairNum) (i : ℕ) → i < n
      → through_stages net n (successor_bits net n line) item i ≡ item (successor n line i)
  brought net item i h =
      let p : List ℕ = successors n line in
      let right = settings_right.sends net p successors_reordered in
      subst (λ m. through_stages net m (bit_in net m (settings_of net p)) item i ≡ item (slice_index p i)) successors_long
      (right.pairs item i (omega (arith, successors_long)))
      ∙ ap item (places-at n i (successor n line) 0 h)

-- the item at a place
pub item_at : (b : ℕ) (lines : Numbers) (i : ℕ) → i < lines.count → pair_at (items_in b lines) i ≡ packed b (lines.line i) i
item_at b lines i h = places-at lines.count i (λ i. packed b (lines.line i) i) (record { first = 0; second = 0 }) h
