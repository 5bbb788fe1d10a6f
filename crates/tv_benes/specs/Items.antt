-- What a network's generator reads: the bits and the pairs that are passed, and the items of networks within it.
use Rattle.std.specs.Prelude.{ℕ, suc, Bool, true, false, List, get_or}
use Rattle.tv_benes.specs.Through.{to_upper, to_lower}
use Rattle.tv_benes.specs.declared.items.Items.{Items, Given, Half'}
use Rattle.tv_core.specs.declared.lines.PairNum.{PairNum}

-- the bit at a place, 0 past the end
abbrev pub bit_at : List Bool → ℕ → Bool
bit_at bits j = get_or bits j false

-- the pair at a place, zeros past the end
abbrev pub pair_at : List PairNum → ℕ → PairNum
pair_at pairs j = get_or pairs j (record { first = 0; second = 0 })

-- item j of one of the two networks within a network: of the lower one, or the upper one
abbrev pub half_item : {X : Type 0} → Bool → (ℕ → Bool) → (ℕ → X) → ℕ → X
half_item true bit item = to_lower bit item
half_item false bit item = to_upper bit item

-- item j of the inputs, or of a network within others
abbrev pub item_of : Items → ℕ → PairNum
item_of (Given pairs) j = pair_at pairs.now j
item_of (Half' p outer bits lower) j = half_item lower (bit_at bits.now) (item_of outer) j

-- how many networks a network lies within
abbrev pub depth_of : Items → ℕ
depth_of (Given pairs) = 0
depth_of (Half' p outer bits lower) = suc (depth_of outer)
