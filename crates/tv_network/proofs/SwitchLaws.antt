-- A switch is sound and complete.
use Rattle.tv_core.proofs.Common.{◌≡◌, ℕ, ◌+◌, ◌-◌, ◌*◌, ◌%◌, ◌<◌, ◌==◌, Bool, true, false, List, ◌++◌, refl, sym, ◌∙◌, ap, ap₂, subst, arith, inl, inr}
use Rattle.tv_core.proofs.Common.{slice_index, value-append, value-below, value-less, value-wire, wire-below, fresh, put, pure, ◌>>=◌, wire, constant, less}
use Rattle.tv_core.proofs.Common.{Combination, value, Assigns, Meets, normal, flag_of}
use Rattle.tv_core.proofs.CombinationLaws.{value-once}
use Rattle.tv_core.proofs.LineLaws.{pair_same}
use Rattle.tv_core.proofs.NormalLaws.{value-normal}
use Rattle.tv_core.specs.Lines.{pair_value}
use Rattle.tv_core.specs.declared.field.TheConstants.{P}
use Rattle.tv_core.specs.declared.lines.PairNum.{PairNum}
use Rattle.tv_bits.proofs.BitLaws.{bit_sound, bit_complete, bit_cases}
use Rattle.tv_bits.proofs.SelectLaws.{select_sound, select_complete, selected-zero, selected-one}
use Rattle.tv_bits.specs.Bit.{IsBit, bit_of}
use Rattle.tv_bits.specs.Select.{selected, pick_of}
use Rattle.tv_network.specs.Switches.{remainder_of, product_of, switch_of, passed, product, bit_at}
use Rattle.tv_network.specs.Switches.{SwitchIsSound, SwitchIsComplete}
use Rattle.tv_network.specs.declared.switches.Form.TheVariants.{Bound, Open}
use Rattle.tv_word.proofs.FlagLaws.{flag_small}

passed_pair : (b : Bool) (x y : PairNum) → ◌≡◌ {A = PairNum} (record { first = passed b x.first y.first; second = passed b x.second y.second }) (passed b x y)
passed_pair true x y = refl
passed_pair false x y = refl

-- ---- numbers
-- sums with the product of a bit and a difference
products : (b x y m : ℕ) → x < P → y < P → m < P → IsBit b → b * ((x + (P - y)) % P) % P ≡ m
    → ((x + (P - m)) % P ≡ passed (b == 1) x y) × ((y + m) % P ≡ passed (b == 1) y x)
products b x y m xs ys ms bit is = elim (bit_cases b bit) [
  | inl none ↦ let same : m ≡ 0 = sym is ∙ ap (λ k. k * ((x + (P - y)) % P) % P) none ∙ omega arith in rw (same, none) (omega arith)
  | inr one ↦
      let same : m ≡ (x + (P - y)) % P = sym is ∙ ap (λ k. k * ((x + (P - y)) % P) % P) one ∙ omega arith in
      rw one (omega arith)
]

other_of : (b x y p q : ℕ) → x < P → y < P → q < P → IsBit b → p ≡ selected b y x → (x + y) % P ≡ (p + q) % P → q ≡ selected b x y
other_of b x y p q xs ys qs bit is sums = elim (bit_cases b bit) [
  | inl none ↦ let same : p ≡ x = is ∙ selected-zero b y x none in let q_is : q ≡ y = omega arith in q_is ∙ sym (selected-zero b x y none)
  | inr one ↦ let same : p ≡ y = is ∙ selected-one b y x one in let q_is : q ≡ x = omega arith in q_is ∙ sym (selected-one b x y one)
]

-- ---- a wire that holds a product
module _ (z : List ℕ) (assigns : Assigns z) (b m : ℕ) (x y : Combination) where
  factor_is : value (normal (less x y)) z ≡ (value x z + (P - value y z)) % P
  factor_is = value-normal z (less x y) ∙ value-less x y z

  product_is : value (wire b) z * value (normal (less x y)) z % P ≡ slice_index z b * ((value x z + (P - value y z)) % P) % P
  product_is = ap₂ (λ k n. k * n % P) (value-wire assigns b) factor_is

  product_sound : Meets z (product_of b x y m).list → slice_index z b * ((value x z + (P - value y z)) % P) % P ≡ slice_index z m
  unfolding product_of fresh put pure ◌>>=◌
  product_sound meets = sym product_is ∙ meets.0 ∙ value-wire assigns m

  product_complete : slice_index z b * ((value x z + (P - value y z)) % P) % P ≡ slice_index z m → Meets z (product_of b x y m).list
  unfolding product_of fresh put pure ◌>>=◌
  product_complete is = (product_is ∙ is ∙ sym (value-wire assigns m), tt)

  module _ (bit : IsBit (slice_index z b)) (is : slice_index z b * ((value x z + (P - value y z)) % P) % P ≡ slice_index z m) where
    sums : ((value x z + (P - slice_index z m)) % P ≡ passed (bit_at z b) (value x z) (value y z))
        × ((value y z + slice_index z m) % P ≡ passed (bit_at z b) (value y z) (value x z))
    sums = products (slice_index z b) (value x z) (value y z) (slice_index z m) (value-below x z) (value-below y z) (wire-below assigns m) bit is

    value_less : value (less x (wire m)) z ≡ passed (bit_at z b) (value x z) (value y z)
    value_less = value-less x (wire m) z ∙ ap (λ n. (value x z + (P - n)) % P) (value-wire assigns m) ∙ sums.0

    value_with : value (y ++ wire m) z ≡ passed (bit_at z b) (value y z) (value x z)
    value_with = value-append y (wire m) z ∙ ap (λ n. (value y z + n) % P) (value-wire assigns m) ∙ sums.1

-- ---- a wire that is with another the sum of two combinations
module _ (z : List ℕ) (assigns : Assigns z) (x y : Combination) (p next : ℕ) where
  sum_is : value (normal (x ++ y)) z * value (constant 1) z % P ≡ (value x z + value y z) % P
  sum_is = value-once z (normal (x ++ y)) assigns ∙ value-normal z (x ++ y) ∙ value-append x y z

  parts_are : value (wire p ++ wire next) z ≡ (slice_index z p + slice_index z next) % P
  parts_are = value-append (wire p) (wire next) z ∙ ap₂ (λ a b. (a + b) % P) (value-wire assigns p) (value-wire assigns next)

  remainder_sound : Meets z (remainder_of x y p next).list → (value x z + value y z) % P ≡ (slice_index z p + slice_index z next) % P
  unfolding remainder_of fresh put pure ◌>>=◌
  remainder_sound meets = sym sum_is ∙ meets.0 ∙ parts_are

  remainder_complete : (value x z + value y z) % P ≡ (slice_index z p + slice_index z next) % P → Meets z (remainder_of x y p next).list
  unfolding remainder_of fresh put pure ◌>>=◌
  remainder_complete sums = (sum_is ∙ sums ∙ sym parts_are, tt)

-- ---- a switch
pub switch_sound : SwitchIsSound
unfolding switch_of remainder_of product_of bit_of pick_of fresh put pure ◌>>=◌
switch_sound z Bound x y next assigns meets =
    let b = slice_index z next in
    let bit : IsBit b = bit_sound z next next assigns (meets.0, tt) in
    let p = select_sound z (next + 1) next y.first x.first assigns bit (meets.1.0, tt) in
    let p' = select_sound z (next + 1 + 1) next y.second x.second assigns bit (meets.1.1.0, tt) in
    let sums = remainder_sound z assigns x.first y.first (next + 1) (next + 1 + 1 + 1) (meets.1.1.1.0, tt) in
    let sums' = remainder_sound z assigns x.second y.second (next + 1 + 1) (next + 1 + 1 + 1 + 1) (meets.1.1.1.1.0, tt) in
    let q = other_of b _ _ _ _ (value-below x.first z) (value-below y.first z) (wire-below assigns (next + 1 + 1 + 1)) bit p sums in
    let q' = other_of b _ _ _ _ (value-below x.second z) (value-below y.second z) (wire-below assigns (next + 1 + 1 + 1 + 1)) bit p' sums' in
    let at3 : next + 1 + 1 + 1 ≡ next + 3 = omega arith in
    let at4 : next + 1 + 1 + 1 + 1 ≡ next + 3 + 1 = omega arith in
    record {
      bit = bit;
      lower = pair_same _ _ _ _ (value-wire assigns (next + 1) ∙ p) (value-wire assigns (next + 1 + 1) ∙ p')
          ∙ passed_pair (b == 1) (pair_value z x) (pair_value z y);
      upper = pair_same _ _ _ _ (value-wire assigns (next + 3) ∙ ap (λ k. slice_index z k) (sym at3) ∙ q)
          (value-wire assigns (next + 3 + 1) ∙ ap (λ k. slice_index z k) (sym at4) ∙ q') ∙ passed_pair (b == 1) (pair_value z y) (pair_value z x);
    }
switch_sound z Open x y next assigns meets =
    let b = slice_index z next in
    let bit : IsBit b = bit_sound z next next assigns (meets.0, tt) in
    let at2 : next + 1 + 1 ≡ next + 2 = omega arith in
    let m = product_sound z assigns next (next + 1) x.first y.first (meets.1.0, tt) in
    let m' = product_sound z assigns next (next + 1 + 1) x.second y.second (meets.1.1.0, tt) in
    let m2 = m' ∙ ap (λ k. slice_index z k) at2 in
    record {
      bit = bit;
      lower = pair_same _ _ _ _ (value_less z assigns next (next + 1) x.first y.first bit m) (value_less z assigns next (next + 2) x.second y.second bit m2)
          ∙ passed_pair (b == 1) (pair_value z x) (pair_value z y);
      upper = pair_same _ _ _ _ (value_with z assigns next (next + 1) x.first y.first bit m) (value_with z assigns next (next + 2) x.second y.second bit m2)
          ∙ passed_pair (b == 1) (pair_value z y) (pair_value z x);
    }

-- ---- its values
pub flag_of-is : (b : Bool) → (flag_of b == 1) ≡ b
flag_of-is true = refl
flag_of-is false = refl

chosen : (f : PairNum → ℕ) (b : Bool) (x y : PairNum) → f (passed b x y) ≡ selected (flag_of b) (f y) (f x)
chosen f true x y = refl
chosen f false x y = refl

-- what a switch passes first and second has the sum of its items
summed : (f : PairNum → ℕ) (b : Bool) (x y : PairNum) (p q : ℕ) → p ≡ f (passed b x y) → q ≡ f (passed b y x) → (f x + f y) % P ≡ (p + q) % P
summed f true x y p q d e = let p_is : p ≡ f y = d in let q_is : q ≡ f x = e in omega arith
summed f false x y p q d e = let p_is : p ≡ f x = d in let q_is : q ≡ f y = e in omega arith

product_of-flag : (b : Bool) (x y : ℕ) → flag_of b * ((x + (P - y)) % P) % P ≡ product b x y
product_of-flag true x y = omega arith
product_of-flag false x y = omega arith

product_there : (z : List ℕ) (b : Bool) (x y : Combination) (at m : ℕ) → slice_index z at ≡ flag_of b → slice_index z m ≡ product b (value x z) (value y z)
    → slice_index z at * ((value x z + (P - value y z)) % P) % P ≡ slice_index z m
product_there z b x y at m e is =
    ap (λ k. k * ((value x z + (P - value y z)) % P) % P) e ∙ product_of-flag b (value x z) (value y z) ∙ sym is

pub switch_complete : SwitchIsComplete
unfolding switch_of remainder_of product_of bit_of pick_of fresh put pure ◌>>=◌
switch_complete z Bound x y next b assigns has =
    let px = pair_value z x in
    let py = pair_value z y in
    let is : slice_index z next ≡ flag_of b = has.0 in
    let bit : IsBit (slice_index z next) = subst IsBit (sym is) (flag_small b) in
    let one = bit_complete z next next assigns bit in
    let at : (u v : ℕ) → selected (flag_of b) u v ≡ selected (slice_index z next) u v = λ u v. ap (λ n. selected n u v) (sym is) in
    let p = select_complete z (next + 1) next y.first x.first assigns bit (has.1.0 ∙ chosen (λ v. v.first) b px py ∙ at py.first px.first, tt) in
    let p' = select_complete z (next + 1 + 1) next y.second x.second assigns bit (has.1.1.0 ∙ chosen (λ v. v.second) b px py ∙ at py.second px.second, tt) in
    let q = remainder_complete z assigns x.first y.first (next + 1) (next + 1 + 1 + 1) (summed (λ v. v.first) b px py _ _ has.1.0 has.1.1.1.0) in
    let q' = remainder_complete z assigns x.second y.second (next + 1 + 1) (next + 1 + 1 + 1 + 1)
    (summed (λ v. v.second) b px py _ _ has.1.1.0 has.1.1.1.1.0) in
    ((one.0, (p.0, (p'.0, (q.0, (q'.0, tt))))), is)
switch_complete z Open x y next b assigns has =
    let is : slice_index z next ≡ flag_of b = has.0 in
    let bit : IsBit (slice_index z next) = subst IsBit (sym is) (flag_small b) in
    let one = bit_complete z next next assigns bit in
    let m = product_complete z assigns next (next + 1) x.first y.first (product_there z b x.first y.first next (next + 1) is has.1.0) in
    let m' = product_complete z assigns next (next + 1 + 1) x.second y.second (product_there z b x.second y.second next (next + 1 + 1) is has.1.1.0) in
    ((one.0, (m.0, (m'.0, tt))), is)
