-- A wire that holds 0 or 1.
use Rattle.std.specs.Prelude.{◌≡◌, ℕ, ◌<◌, List, [], slice_index}
use Rattle.tv_core.specs.Combinations.{wire}
use Rattle.tv_core.specs.Circuits.{Circuit, put}
use Rattle.tv_core.specs.Laws.{Assigns, Meets, Fills, InField}

-- 0 or 1
abbrev pub IsBit : ℕ → Type 0
IsBit b = b < 2

-- what holds a wire to 0 or 1: it is its own square
unfoldable pub bit_of : ℕ → Circuit (Unit {0})
bit_of w = put (wire w) (wire w) (wire w)

-- an assignment that satisfies the constraints has 0 or 1 at the wire
abbrev pub BitIsSound : Type 0
BitIsSound = (z : List ℕ) (next w : ℕ) → Assigns z → Meets z (bit_of w next).list
    → IsBit (slice_index z w)

-- an assignment that has 0 or 1 at the wire satisfies the constraints
abbrev pub BitIsComplete : Type 0
BitIsComplete = (z : List ℕ) (next w : ℕ) → Assigns z → IsBit (slice_index z w)
    → Meets z (bit_of w next).list

-- it makes no wire, and so has no value
pub record BitSizes : Type 0 where
  pub end : (w next : ℕ) → (bit_of w next).next ≡ next
  pub fills : (w : ℕ) → Fills (bit_of w) []
  pub in_field : InField []
