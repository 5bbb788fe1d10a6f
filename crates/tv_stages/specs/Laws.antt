-- What is proved of the networks of any size.
use Rattle.std.specs.Prelude.{◌≡◌, ℕ, suc, ◌+◌, ◌*◌, ◌^◌, ◌<◌, ◌≤◌, Bool, true, false, IsPermutation}
use Rattle.tv_core.specs.declared.lines.PairNum.{PairNum}
use Rattle.tv_stages.specs.Stages.{remove_bit, is_low, flip, low, height, stage_count, depth}
use Rattle.tv_stages.specs.Stages.{number_count, switch_count, switches, position, number, switch_slot}
use Rattle.tv_stages.specs.Stages.{is_left_out, is_switched, through_stages, source, places, IsReordering}
use Rattle.tv_stages.specs.declared.nets.Net.{Net}
use Rattle.tv_stages.specs.declared.nets.Net.TheVariants.{Benes, Waksman}

-- the height is the number of bits of L - 1
pub record HeightIsRight : Type 0 where
  pub enough : (L : ℕ) → L ≤ 2 ^ height L
  pub least : (L k : ℕ) → L ≤ 2 ^ k → height L ≤ k

-- whatever the bits, the sources are a permutation of the slots, output x is the item at its source, and the outputs are
-- the items in another order: numbers, and pairs of numbers
pub record StagesPermute : Type 0 where
  pub sources : (net : Net) (L : ℕ) (bit : ℕ → ℕ → Bool) → IsReordering L (source net L bit)
  pub numbers : (net : Net) (L : ℕ) (bit : ℕ → ℕ → Bool) (item : ℕ → ℕ) (x : ℕ) → through_stages net L bit item x ≡ item (source net L bit x)
  pub pairs : (net : Net) (L : ℕ) (bit : ℕ → ℕ → Bool) (item : ℕ → PairNum) (x : ℕ) → through_stages net L bit item x ≡ item (source net L bit x)
  pub number_lists : (net : Net) (L : ℕ) (bit : ℕ → ℕ → Bool) (item : ℕ → ℕ) → IsPermutation (places L item) (places L (through_stages net L bit item))
  pub pair_lists : (net : Net) (L : ℕ) (bit : ℕ → ℕ → Bool) (item : ℕ → PairNum)
      → IsPermutation (places L item) (places L (through_stages net L bit item))

-- bits through which output i is the item at slot p i
pub record AreSettings (net : Net) (L : ℕ) (p : ℕ → ℕ) (bit : ℕ → ℕ → Bool) : Type 0 where
  pub sources : (i : ℕ) → i < L → source net L bit i ≡ p i
  pub numbers : (item : ℕ → ℕ) (i : ℕ) → i < L → through_stages net L bit item i ≡ item (p i)
  pub pairs : (item : ℕ → PairNum) (i : ℕ) → i < L → through_stages net L bit item i ≡ item (p i)

-- no other bits and items matter than those of switches and slots
pub record OnlySwitchesMatter : Type 0 where
  pub numbers : (net : Net) (L : ℕ) (bit bit' : ℕ → ℕ → Bool) (item item' : ℕ → ℕ)
      → ((l i : ℕ) → l < stage_count L → i < number_count L l → is_left_out net L l i ≡ false → bit l i ≡ bit' l i)
      → ((x : ℕ) → x < L → item x ≡ item' x) → (x : ℕ) → x < L → through_stages net L bit item x ≡ through_stages net L bit' item' x
  pub pairs : (net : Net) (L : ℕ) (bit bit' : ℕ → ℕ → Bool) (item item' : ℕ → PairNum)
      → ((l i : ℕ) → l < stage_count L → i < number_count L l → is_left_out net L l i ≡ false → bit l i ≡ bit' l i)
      → ((x : ℕ) → x < L → item x ≡ item' x) → (x : ℕ) → x < L → through_stages net L bit item x ≡ through_stages net L bit' item' x

-- the switch at a position: it is at two slots that the network has and that differ in the stage's bit, and its number is
-- one that there is
pub record IsSwitch (net : Net) (L l at : ℕ) : Type 0 where
  pub low_bit : is_low (depth L l) (switch_slot net L l at) ≡ true
  pub upper : switch_slot net L l at + 2 ^ depth L l < L
  pub below : number net L l at < number_count L l
  pub present : is_left_out net L l (number net L l at) ≡ false
  pub numbered : remove_bit (depth L l) (switch_slot net L l at) ≡ number net L l at
  pub placed : position net L l (number net L l at) ≡ at

-- a slot at a switch: the switch has a position, and the slot is one of its two
pub record IsAtSwitch (net : Net) (L l x : ℕ) : Type 0 where
  pub early : position net L l (remove_bit (depth L l) x) < switch_count net L l
  pub numbered : number net L l (position net L l (remove_bit (depth L l) x)) ≡ remove_bit (depth L l) x
  pub slot : switch_slot net L l (position net L l (remove_bit (depth L l) x)) ≡ low (depth L l) x

-- the positions of a stage are those of its switches, one each; in Benes' network each two slots that differ in a stage's
-- bit have a switch, but in stage k
pub record SwitchesAreNumbered : Type 0 where
  pub switch : (net : Net) (L l at : ℕ) → l < stage_count L → at < switch_count net L l → IsSwitch net L l at
  pub slot : (net : Net) (L l x : ℕ) → l < stage_count L → is_switched net L l x ≡ true → IsAtSwitch net L l x
  pub both : (net : Net) (L l x : ℕ) → is_switched net L l (flip (depth L l) x) ≡ is_switched net L l x
  pub all : (L l x : ℕ) → (l ≡ height L → ⊥) → low (depth L l) x + 2 ^ depth L l < L → is_switched Benes L l x ≡ true

-- of 2 ^ k slots, k being suc h: (2 k - 1) 2 ^ (k - 1) switches, and 2 ^ k (k - 1) + 1
pub record SwitchesOfPowers : Type 0 where
  pub benes : (h : ℕ) → switches Benes (2 ^ suc h) ≡ (2 * h + 1) * 2 ^ h
  pub waksman : (h : ℕ) → switches Waksman (2 ^ suc h) ≡ h * 2 ^ suc h + 1
