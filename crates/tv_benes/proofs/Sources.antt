-- Which item comes out at a place, found from the last column back to the first.
use Rattle.tv_core.proofs.Common.{◌≡◌, ℕ, zero, suc, ◌<◌, ◌+◌, ◌*◌, ◌/◌, ◌%◌, ◌^◌, ◌==◌, inl, inr, Bool, true, false, not, if◌then◌else◌, refl, sym, ◌∙◌, ap}
use Rattle.tv_core.proofs.Common.{arith, List, length, take, drop, get_or, ◌-◌, cases_lt}
use Rattle.std.proofs.Common.{min}
use Rattle.std.proofs.Common.{get_or-drop, length-drop}
use Rattle.std.proofs.Math.Bool.{beq}
use Rattle.std.proofs.lemmas.List.{get_or_past, take_all}
use Rattle.tv_benes.proofs.Permutations.{alternating-even, alternating-odd}
use Rattle.tv_benes.proofs.ThroughLaws.{through_places}
use Rattle.tv_benes.specs.Through.{switches, from, passed, to_upper, to_lower, alternating, joined, last_bit, through}
use Rattle.tv_benes.specs.Items.{bit_at, half_item}
use Rattle.tv_benes.specs.declared.shape.Net.{Net}

-- the half from which an output comes
joined_is : {X : Type 0} (bit : ℕ → Bool) (u l : ℕ → X) (i : ℕ) → joined bit u l i ≡ (if not (beq (bit (i / 2)) (i % 2 == 1)) then l (i / 2) else u (i / 2))
joined_is {X} bit u l i = by (i % 2) (bit (i / 2)) (u (i / 2)) (l (i / 2)) (omega arith)
  where
    by : (r : ℕ) (b : Bool) (x y : X) → r < 2 → (if r == 0 then passed b x y else passed b y x) ≡ (if not (beq b (r == 1)) then y else x)
    by zero true x y h = refl
    by zero false x y h = refl
    by (suc zero) true x y h = refl
    by (suc zero) false x y h = refl
    by (suc (suc r)) b x y h = absurd (omega arith)

-- which item of the whole is item t of a half
pub half_place : (lower b : Bool) → (bit : ℕ → Bool) (t : ℕ) → bit t ≡ b → half_item lower bit (λ j. j) t ≡ 2 * t + (if not (beq b lower) then 1 else 0)
half_place true true bit t e = ap (λ c. passed c (2 * t + 1) (2 * t)) e ∙ omega arith
half_place true false bit t e = ap (λ c. passed c (2 * t + 1) (2 * t)) e
half_place false true bit t e = ap (λ c. passed c (2 * t) (2 * t + 1)) e
half_place false false bit t e = ap (λ c. passed c (2 * t) (2 * t + 1)) e ∙ omega arith

-- the bits that are left, where there are none past the end
left_bit : (bits : List Bool) (n m j : ℕ) → m ≡ min n (length bits) → get_or (take (length bits - m) (drop m bits)) j false ≡ get_or bits (n + j) false
left_bit bits n m j is =
    ap (λ l. get_or l j false) (take_all (length bits - m) (drop m bits) (omega (arith, length-drop m bits))) ∙ get_or-drop m bits j false
    ∙ elim (cases_lt n (length bits)) [
      | inl h ↦ let same : m ≡ n = omega arith in ap (λ k. get_or bits (k + j) false) same
      | inr h ↦ get_or_past bits (m + j) false (omega arith) ∙ sym (get_or_past bits (n + j) false (omega arith))
    ]

pub bits_after : (bits : List Bool) (n : ℕ) → let m = min n (length bits) in
    ◌≡◌ {A = ℕ → Bool} (bit_at (take (length bits - m) (drop m bits))) (from n (bit_at bits))
bits_after bits n = λ t j. left_bit bits n _ j refl t

-- the source at the lowest level
pub source_zero : (net : Net) (bit : ℕ → Bool) (i : ℕ) → through net 0 bit (λ j. j) i ≡ 2 * (i / 2) + (if not (beq (bit (i / 2)) (i % 2 == 1)) then 1 else 0)
unfolding through
source_zero net bit i = joined_is bit (λ j. 2 * j) (λ j. 2 * j + 1) i ∙ by (not (beq (bit (i / 2)) (i % 2 == 1)))
  where
    by : (c : Bool) → (if c then 2 * (i / 2) + 1 else 2 * (i / 2)) ≡ 2 * (i / 2) + (if c then 1 else 0)
    by true = refl
    by false = omega arith

-- and above it
pub source_suc : (net : Net) (h : ℕ) (bit : ℕ → Bool) (i t : ℕ) (lower : Bool)
    → lower ≡ not (beq (last_bit net (from (2 ^ suc h + 2 * switches net h) bit) (i / 2)) (i % 2 == 1))
    → t ≡ through net h (from (2 ^ suc h + (if lower then switches net h else 0)) bit) (λ j. j) (i / 2)
    → through net (suc h) bit (λ j. j) i ≡ half_item lower bit (λ j. j) t
unfolding through
source_suc net h bit i t true which is =
    let n = 2 ^ suc h in
    let s = switches net h in
    joined_is (last_bit net (from (n + 2 * s) bit)) (through net h (from n bit) (to_upper bit (λ j. j)))
    (through net h (from (n + s) bit) (to_lower bit (λ j. j))) i
    ∙ ap (λ (c : Bool). if c then through net h (from (n + s) bit) (to_lower bit (λ j. j)) (i / 2) else through net h (from n bit) (to_upper bit (λ j. j))
    (i / 2)) (sym which)
    ∙ through_places net h (from (n + s) bit) (to_lower bit (λ j. j)) (i / 2) ∙ ap (to_lower bit (λ j. j)) (sym is)
source_suc net h bit i t false which is =
    let n = 2 ^ suc h in
    let s = switches net h in
    let plain : n + 0 ≡ n = omega arith in
    joined_is (last_bit net (from (n + 2 * s) bit)) (through net h (from n bit) (to_upper bit (λ j. j)))
    (through net h (from (n + s) bit) (to_lower bit (λ j. j))) i
    ∙ ap (λ (c : Bool). if c then through net h (from (n + s) bit) (to_lower bit (λ j. j)) (i / 2) else through net h (from n bit) (to_upper bit (λ j. j))
    (i / 2)) (sym which)
    ∙ through_places net h (from n bit) (to_upper bit (λ j. j)) (i / 2)
    ∙ ap (to_upper bit (λ j. j)) (sym (is ∙ ap (λ k. through net h (from k bit) (λ j. j) (i / 2)) plain))

-- the item that comes out of a network within a network, read at its place s
pub inner_item : {X : Type 0} (net : Net) (h j s : ℕ) (bit bit' : ℕ → Bool) (item : ℕ → X) → ◌≡◌ {A = ℕ → Bool} bit bit'
    → s ≡ through net h bit (λ j. j) j → item s ≡ through net h bit' item j
inner_item net h j s bit bit' item e is =
    ap item (is ∙ ap (λ (f : ℕ → Bool). through net h f (λ j. j) j) e) ∙ sym (through_places net h bit' item j)

-- the items of a last column, by the networks before it
pub last_even : {X : Type 0} (u l : ℕ → X) (j m : ℕ) → alternating u l (2 * j + 2 * m) ≡ u (j + m)
last_even u l j m = let even : 2 * j + 2 * m ≡ 2 * (j + m) = omega arith in ap (alternating u l) even ∙ alternating-even u l (j + m)

pub last_odd : {X : Type 0} (u l : ℕ → X) (j m : ℕ) → alternating u l (2 * j + 1 + 2 * m) ≡ l (j + m)
last_odd u l j m = let odd : 2 * j + 1 + 2 * m ≡ 2 * (j + m) + 1 = omega arith in ap (alternating u l) odd ∙ alternating-odd u l (j + m)
