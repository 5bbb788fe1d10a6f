-- Parts added to a combination that is made normal: its value, and its terms.
use Rattle.tv_core.proofs.Common.{◌≡◌, ℕ, ◌+◌, ◌-◌, ◌*◌, ◌%◌, ◌<◌, ◌≤◌, List, [], ◌∷◌, ◌++◌, length, sym, ◌∙◌, ap, ap₂, arith, slice_index, length-append}
use Rattle.tv_core.proofs.Common.{◌^◌, refl, for_widths, IsWidth, value-append, value-cons, scaled, top, Combination, value, normal, IsNormal}
use Rattle.tv_core.proofs.CombinationLaws.{value-scaled, top-append, top-scaled}
use Rattle.tv_core.proofs.NormalCircuits.{normal_append}
use Rattle.tv_core.proofs.NormalLaws.{value-normal, IsNormalFrom-normal, top-normal}
use Rattle.tv_core.proofs.Unique.{normal-front, same_values}
use Rattle.tv_core.specs.declared.field.TheConstants.{P}
use Rattle.tv_double_checks.specs.Differences.{minus}
use Rattle.tv_double_checks.specs.Items.{unit}

-- one part after another
pub then_added : (x y out after : Combination) → out ≡ normal x → after ≡ normal (out ++ y) → after ≡ normal (x ++ y)
then_added x y out after before adds = adds ∙ ap (λ o. normal (o ++ y)) before ∙ normal-front x y

pub value-minus : (k : ℕ) (x y : Combination) (z : List ℕ) (a c : ℕ) → value x z ≡ a → value y z ≡ c → value (minus k x y) z ≡ (a + (P - k) * c % P) % P
value-minus k x y z a c is_a is_c = value-append x (scaled (P - k) y) z
    ∙ ap₂ (λ m n. (m + n) % P) is_a (value-scaled (P - k) y z ∙ ap (λ n. (P - k) * n % P) is_c)

pub minus_top : (k : ℕ) (x y : Combination) (most : ℕ) → top x ≤ most → top y ≤ most → top (minus k x y) ≤ most
minus_top k x y most h i = omega (arith, top-append x (scaled (P - k) y), top-scaled (P - k) y)

-- ---- a term of a new wire
-- after a normal combination
pub normal_with : (x : Combination) (k w : ℕ) → IsNormal x → top x ≤ w → 0 < k → k < P → IsNormal (x ++ (k, w) ∷ [])
normal_with x k w n h some small = normal_append 0 w x ((k, w) ∷ []) n h (omega arith) (omega arith, some, small, tt)

-- in the midst of a combination that is made normal
pub length-new : (x y : Combination) (k w : ℕ) → 0 < k → k < P → top x ≤ w → ((z : List ℕ) → value y z ≡ (value x z + k * slice_index z w) % P)
    → length (normal y) ≡ length (normal x) + 1
length-new x y k w some small h same =
    let one : (z : List ℕ) → value ((k, w) ∷ []) z ≡ k * slice_index z w % P = λ z. value-cons k w [] z ∙ omega arith in
    ap length (same_values 0 0 (normal y) (normal x ++ (k, w) ∷ []) (IsNormalFrom-normal y)
    (normal_with (normal x) k w (IsNormalFrom-normal x) (omega (arith, top-normal x)) some small)
    (λ z.
    value-normal z y ∙ same z ∙ omega arith ∙ ap₂ (λ m n. (m + n) % P) (sym (value-normal z x)) (sym (one z))
    ∙ sym (value-append (normal x) ((k, w) ∷ []) z)))
    ∙ length-append (normal x) ((k, w) ∷ [])

-- which may stand before other parts
pub value-once_more : (k w : ℕ) (z : List ℕ) → value ((k, w) ∷ []) z ≡ (value [] z + k * slice_index z w) % P
value-once_more k w z = value-cons k w [] z ∙ omega arith

pub value-moved : (x y p : Combination) (k w : ℕ) (z : List ℕ) → value x z ≡ (value y z + k * slice_index z w) % P
    → value (x ++ p) z ≡ (value (y ++ p) z + k * slice_index z w) % P
value-moved x y p k w z same =
    let whole : (x y p t : ℕ) → x ≡ (y + t) % P → (x + p) % P ≡ ((y + p) % P + t) % P = λ x y p t e. omega arith in
    value-append x p z ∙ whole (value x z) (value y z) (value p z) (k * slice_index z w) same
    ∙ ap (λ n. (n + k * slice_index z w) % P) (sym (value-append y p z))

-- ---- at a width
pub unit_once : (w : ℕ) → IsWidth w → P - unit (2 ^ w) ≡ (P - unit (2 ^ w)) * 1 % P
unit_once = for_widths (λ w. P - unit (2 ^ w) ≡ (P - unit (2 ^ w)) * 1 % P) refl refl
