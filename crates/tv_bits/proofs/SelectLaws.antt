-- The laws of a choice.
use Rattle.tv_core.proofs.Common.{◌≡◌, mod-lt, ℕ, ◌+◌, ◌-◌, ◌*◌, ◌%◌, ◌<◌, List, refl, ◌∙◌, ap, arith, slice_index, value-append, value-less, value-below}
use Rattle.tv_core.proofs.Common.{value-wire, wire-below, fresh, put, pure, ◌>>=◌, less, Combination, value, Assigns, normal}
use Rattle.tv_core.proofs.CombinationLaws.{value-scaled}
use Rattle.tv_core.proofs.DifferenceLaws.{same_of_minus, cancel_minus}
use Rattle.tv_core.proofs.NormalLaws.{value-normal}
use Rattle.tv_core.specs.declared.field.TheConstants.{P}
use Rattle.tv_bits.proofs.BitLaws.{bit_cases}
use Rattle.tv_bits.specs.Bit.{IsBit}
use Rattle.tv_bits.specs.Select.{selected, wire_less, pick_of, select_of, PickIsSound, PickIsComplete, SelectIsSound, SelectIsComplete}

-- the constraint, as numbers
pub selected-zero : (b x y : ℕ) → b ≡ 0 → selected b x y ≡ y
selected-zero b x y none = rw none refl

pub selected-one : (b x y : ℕ) → b ≡ 1 → selected b x y ≡ x
selected-one b x y one = rw one refl

pub times_zero : (b d : ℕ) → b ≡ 0 → b * d % P ≡ 0
times_zero b d none = rw none (omega arith)

pub times_one : (b d : ℕ) → b ≡ 1 → d < P → b * d % P ≡ d
times_one b d one small = rw one (omega arith)

pub sound_by : (b x y w : ℕ) → x < P → y < P → w < P → IsBit b → b * ((x + (P - y)) % P) % P ≡ (w + (P - y)) % P → w ≡ selected b x y
sound_by b x y w xs ys ws bit e = search (arith, bit_cases, same_of_minus, times_zero, selected-zero, cancel_minus, times_one, mod-lt, selected-one)

pub complete_by : (b x y w : ℕ) → y < P → IsBit b → w ≡ selected b x y → b * ((x + (P - y)) % P) % P ≡ (w + (P - y)) % P
complete_by b x y w ys bit e = search (arith, bit_cases, times_zero, selected-zero, times_one, mod-lt, selected-one)

-- the two sides of the constraint
module _ (z : List ℕ) (assigns : Assigns z) (b : Combination) (w : ℕ) (x y : Combination) where
  value-factor : value (normal (less x y)) z ≡ (value x z + (P - value y z)) % P
  value-factor = value-normal z (less x y) ∙ value-less x y z

  left : value b z * value (normal (less x y)) z % P ≡ value b z * ((value x z + (P - value y z)) % P) % P
  left = ap (λ n. value b z * n % P) value-factor

  right : value (wire_less w y) z ≡ (slice_index z w + (P - value y z)) % P
  right = let small = value-below y z in rw (value-append, value-scaled, value-wire assigns) (omega arith)

pub pick_sound : PickIsSound
unfolding pick_of fresh put pure ◌>>=◌
pick_sound z next b x y assigns bit meets = search (arith, sound_by, value-below, wire-below, left, right)

pub pick_complete : PickIsComplete
unfolding pick_of fresh put pure ◌>>=◌
pick_complete z next b x y assigns bit has = search (arith, left, complete_by, value-below, right)

-- ---- the same where the bit is a wire
pub select_answer : (b : ℕ) (x y : Combination) (next : ℕ) → (select_of b x y next).answer ≡ next
unfolding pick_of fresh put pure ◌>>=◌
select_answer b x y next = refl

pub select_next : (b : ℕ) (x y : Combination) (next : ℕ) → (select_of b x y next).next ≡ next + 1
unfolding pick_of fresh put pure ◌>>=◌
select_next b x y next = refl

pub select_sound : SelectIsSound
select_sound z next b x y assigns bit meets = search (arith, value-wire, pick_sound)

pub select_complete : SelectIsComplete
select_complete z next b x y assigns bit has = search (arith, value-wire, pick_complete)
