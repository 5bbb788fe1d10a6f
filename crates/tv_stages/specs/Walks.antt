-- What the settings' code may rely on at its calls, and what it does with the list of bits.
use Rattle.std.specs.Prelude.{◌≡◌, ℕ, ◌+◌, ◌%◌, ◌^◌, ◌<◌, ◌≤◌, nat_lt, Bool, true, false, not}
use Rattle.std.specs.Prelude.{if◌then◌else◌, List, length, slice_index, get_or, Some, None, ◌⊎◌}
use Rattle.tv_stages.specs.Settings.{Mark, mark, is_up, bit_for}
use Rattle.tv_stages.specs.Stages.{is_low, flip, stage_count, depth, switch_count, switch_slot, first_switch}
use Rattle.tv_stages.specs.declared.nets.Net.{Net}

-- what the stages of depth d and more have to bring: a permutation of all slots, with its inverse, that keeps each in its
-- class modulo 2 ^ d, and leaves those from L on
pub record IsShuffle (L d : ℕ) (q r : ℕ → ℕ) : Type 0 where
  pub there : (x : ℕ) → q (r x) ≡ x
  pub back : (x : ℕ) → r (q x) ≡ x
  pub rest : (x : ℕ) → L ≤ x → q x ≡ x
  pub class : (x : ℕ) → q x % 2 ^ d ≡ x % 2 ^ d

-- z is the last slot of its class of an odd number of slots
pub record IsAlone (L d z : ℕ) : Type 0 where
  pub lower : is_low d z ≡ true
  pub below : z < L
  pub last : L ≤ z + 2 ^ d

-- the class of x has no such slot: an even number of slots
abbrev pub IsEven : ℕ → ℕ → ℕ → Type 0
IsEven L d x = (z : ℕ) → z % 2 ^ d ≡ x % 2 ^ d → IsAlone L d z → ⊥

-- a list of L slots as a function on all numbers
unfoldable pub spread : ℕ → List ℕ → ℕ → ℕ
spread L l x = if nat_lt x L then slice_index l x else x

-- two lists of L numbers, each the other's inverse, that keep the classes modulo 2 ^ d
pub record AreInverse (L d : ℕ) (q r : List ℕ) : Type 0 where
  pub long : length q ≡ L
  pub back_long : length r ≡ L
  pub is : IsShuffle L d (spread L q) (spread L r)

-- the other output of the pair of inputs at which z's item is
abbrev pub beside : ℕ → ℕ → List ℕ → List ℕ → ℕ → ℕ
beside L d q r z = spread L r (flip d (spread L q z))

-- where z is marked so is the output beside it, and apart; the item of a lone input comes through the lower slots
pub record IsBeside (L d : ℕ) (q r : List ℕ) (marks : List Mark) (z : ℕ) : Type 0 where
  pub apart : (c : Bool) → mark marks z ≡ Some c → flip d (spread L q z) < L → mark marks (beside L d q r z) ≡ Some (not c)
  pub lone : (c : Bool) → mark marks z ≡ Some c → L ≤ flip d (spread L q z) → c ≡ true

-- where z is marked so is the output across, and apart
abbrev pub IsAcross : ℕ → ℕ → List Mark → ℕ → Type 0
IsAcross L d marks z = (c : Bool) → mark marks z ≡ Some c → flip d z < L → mark marks (flip d z) ≡ Some (not c)

-- the marks between two walks: no pair is marked by half, and a lone input's output is marked if a lone output is
pub record AreSettled (L d : ℕ) (q r : List ℕ) (marks : List Mark) : Type 0 where
  pub long : length marks ≡ L
  pub besides : (z : ℕ) → z < L → IsBeside L d q r marks z
  pub acrosses : (z : ℕ) → z < L → IsAcross L d marks z
  pub ends : (z : ℕ) → IsAlone L d z → (mark marks z ≡ None → ⊥) → mark marks (spread L r z) ≡ None → ⊥

-- a walk may begin at start
pub record IsStart (L d start : ℕ) (marks : List Mark) : Type 0 where
  pub below : start < L
  pub free : mark marks start ≡ None
  pub alone : (z : ℕ) → IsAlone L d z → z % 2 ^ d ≡ start % 2 ^ d → (z ≡ start) ⊎ (mark marks z ≡ None → ⊥)

-- the marks after all walks: all lower slots are marked, and the first of each class as going through the lower slots
pub record AreMarked (L d : ℕ) (marks : List Mark) : Type 0 where
  pub all : (z : ℕ) → z < L → is_low d z ≡ true → mark marks z ≡ None → ⊥
  pub lone : (z : ℕ) → IsAlone L d z → mark marks z ≡ Some true
  pub first : (z : ℕ) → z < L → z < 2 ^ d → IsEven L d z → mark marks z ≡ Some true

-- ---- the bits
-- the bit of a switch whose lower slot is x, r being where each slot stands: in a stage before the middle, or in another
abbrev pub bit_by : Bool → List ℕ → List Mark → ℕ → Bool
bit_by before r marks x = not (is_up marks (if before then slice_index r x else x))

-- the bits of the first n positions of stage l are set, each by its lower slot, and no others changed
pub record AreSetTo (net : Net) (L l n : ℕ) (value : ℕ → Bool) (old new : List Bool) : Type 0 where
  pub long : length new ≡ length old
  pub set : (at : ℕ) → at < n → get_or new (first_switch net L l + at) false ≡ value (switch_slot net L l at)
  pub kept : (j : ℕ) → (j < first_switch net L l) ⊎ (first_switch net L l + n ≤ j) → get_or new j false ≡ get_or old j false

-- the bits of the stages of depth d are set, where these have to bring q, and no others changed
pub record IsDepthSet (net : Net) (L d : ℕ) (q : List ℕ) (old new : List Bool) : Type 0 where
  pub long : length new ≡ length old
  pub set : (l at : ℕ) → l < stage_count L → depth L l ≡ d → at < switch_count net L l
      → get_or new (first_switch net L l + at) false ≡ bit_for l q (switch_slot net L l at)
  pub kept : (l at : ℕ) → l < stage_count L → (depth L l ≡ d → ⊥) → at < switch_count net L l
      → get_or new (first_switch net L l + at) false ≡ get_or old (first_switch net L l + at) false
