-- How many wires and values a switch makes, and that it emits normal combinations.
use Rattle.tv_core.proofs.Common.{◌≡◌, ℕ, ◌+◌, ◌-◌, ◌*◌, ◌<◌, ◌≤◌, Bool, true, false, [], ◌∷◌, ◌++◌, length, refl, arith, mod-lt, fresh, put, pure, ◌>>=◌}
use Rattle.tv_core.proofs.Common.{wire, less, top, Combination, InField, IsNormal, AreNormal, length-append, flag_of, InField-cons, InField-none}
use Rattle.tv_core.proofs.CombinationLaws.{top-append}
use Rattle.tv_core.proofs.NormalCircuits.{normal_append}
use Rattle.tv_core.proofs.NormalLaws.{IsNormalFrom-normal}
use Rattle.tv_core.specs.declared.field.TheConstants.{P}
use Rattle.tv_core.specs.declared.lines.Pair.{Pair}
use Rattle.tv_core.specs.declared.lines.PairNum.{PairNum}
use Rattle.tv_bits.proofs.NormalLaws.{select_normal}
use Rattle.tv_bits.specs.Bit.{bit_of}
use Rattle.tv_bits.specs.Select.{pick_of}
use Rattle.tv_network.specs.Switches.{width, remainder_of, product_of, switch_of, passed_to, passed, product, switch_values, IsPairMade, IsNormalPair}
use Rattle.tv_network.specs.Switches.{SwitchIsNormal, SwitchSizes}
use Rattle.tv_network.specs.declared.switches.Form.{Form}
use Rattle.tv_network.specs.declared.switches.Form.TheVariants.{Bound, Open}

-- ---- normal combinations
pub wire_normal : (w : ℕ) → IsNormal (wire w)
wire_normal w = (omega arith, omega arith, omega arith, tt)

two_normal : (v w : ℕ) → v < w → IsNormal (wire v ++ wire w)
two_normal v w h = (omega arith, omega arith, omega arith, (omega arith, omega arith, omega arith, tt))

remainder_normal : (x y : Combination) (p next : ℕ) → p < next → AreNormal (remainder_of x y p next).list
unfolding remainder_of fresh put pure ◌>>=◌
remainder_normal x y p next h = (record { a = IsNormalFrom-normal (x ++ y); b = wire_normal 0; c = two_normal p next h }, tt)

product_normal : (b next : ℕ) (x y : Combination) → AreNormal (product_of b x y next).list
unfolding product_of fresh put pure ◌>>=◌
product_normal b next x y = (record { a = wire_normal b; b = IsNormalFrom-normal (less x y); c = wire_normal next }, tt)

puts_normal : (form : Form) (x y : Pair) (next : ℕ) → IsNormalPair x next → IsNormalPair y next → AreNormal (switch_of form x y next).list
unfolding switch_of remainder_of product_of bit_of pick_of fresh put pure ◌>>=◌
puts_normal Bound x y next n m =
    let b = wire_normal next in
    let first = select_normal (wire next) y.first x.first (next + 1) b n.first (omega (arith, n.first_below)) in
    let second = select_normal (wire next) y.second x.second (next + 1 + 1) b n.second (omega (arith, n.second_below)) in
    let third = remainder_normal x.first y.first (next + 1) (next + 1 + 1 + 1) (omega arith) in
    let fourth = remainder_normal x.second y.second (next + 1 + 1) (next + 1 + 1 + 1 + 1) (omega arith) in
    (record { a = b; b = b; c = b }, (first.0, (second.0, (third.0, (fourth.0, tt)))))
puts_normal Open x y next n m =
    let b = wire_normal next in
    let first = product_normal next (next + 1) x.first y.first in
    let second = product_normal next (next + 1 + 1) x.second y.second in
    (record { a = b; b = b; c = b }, (first.0, (second.0, tt)))

-- a combination and one wire more, which is after all of its own
more_normal : (c w : ℕ) (x : Combination) → 0 < c → c < P → top x ≤ w → IsNormal x → IsNormal (x ++ (c, w) ∷ [])
more_normal c w x some small below n = normal_append 0 w x ((c, w) ∷ []) n below (omega arith) (omega arith, some, small, tt)

more_top : (c w n : ℕ) (x : Combination) → top x ≤ n → w < n → top (x ++ (c, w) ∷ []) ≤ n
more_top c w n x below h = omega (arith, top-append x ((c, w) ∷ []))

passes_normal : (form : Form) (low : Bool) (x : Pair) (w : ℕ) → IsNormalPair x w → IsNormalPair (passed_to form low w x) (w + width form)
passes_normal Bound true x w n = record { first = wire_normal (w + 1); second = wire_normal (w + 1 + 1); first_below = omega arith; second_below = omega arith }
passes_normal Bound false x w n =
    record { first = wire_normal (w + 3); second = wire_normal (w + 3 + 1); first_below = omega arith; second_below = omega arith }
passes_normal Open true x w n =
    let one : (P - 1) * 1 ≡ P - 1 = refl in
    record {
      first = more_normal (P - 1) (w + 1) x.first (omega arith) (omega arith) (omega (arith, n.first_below)) n.first;
      second = more_normal (P - 1) (w + 2) x.second (omega arith) (omega arith) (omega (arith, n.second_below)) n.second;
      first_below = more_top (P - 1) (w + 1) (w + 3) x.first (omega (arith, n.first_below)) (omega arith);
      second_below = more_top (P - 1) (w + 2) (w + 3) x.second (omega (arith, n.second_below)) (omega arith);
    }
passes_normal Open false x w n = record {
  first = more_normal 1 (w + 1) x.first (omega arith) (omega arith) (omega (arith, n.first_below)) n.first;
  second = more_normal 1 (w + 2) x.second (omega arith) (omega arith) (omega (arith, n.second_below)) n.second;
  first_below = more_top 1 (w + 1) (w + 3) x.first (omega (arith, n.first_below)) (omega arith);
  second_below = more_top 1 (w + 2) (w + 3) x.second (omega (arith, n.second_below)) (omega arith);
}

pub switch_normal : SwitchIsNormal
switch_normal = record { puts = puts_normal; passes = passes_normal }

-- ---- sizes
switch_next : (form : Form) (x y : Pair) (next : ℕ) → (switch_of form x y next).next ≡ next + width form
unfolding switch_of remainder_of product_of bit_of pick_of fresh put pure ◌>>=◌
switch_next Bound x y next = omega arith
switch_next Open x y next = omega arith

switch_count : (form : Form) (x y : Pair) (next : ℕ) → length (switch_of form x y next).list ≡ width form
unfolding switch_of remainder_of product_of bit_of pick_of pure fresh put ◌>>=◌
switch_count Bound x y next = refl
switch_count Open x y next = refl

values_length : (form : Form) (b : Bool) (x y : PairNum) → length (switch_values form b x y) ≡ width form
values_length Bound b x y = refl
values_length Open b x y = refl

abbrev IsSmall : PairNum → Type 0
IsSmall x = (x.first < P) × (x.second < P)

passed_small : (b : Bool) (x y : PairNum) → IsSmall x → IsSmall y → IsSmall (passed b x y)
passed_small true x y p q = q
passed_small false x y p q = p

product_small : (b : Bool) (x y : ℕ) → product b x y < P
product_small true x y = mod-lt _ (omega arith)
product_small false x y = omega arith

flag_field : (b : Bool) → flag_of b < P
flag_field true = omega arith
flag_field false = omega arith

five_small : (a b c d e : ℕ) → a < P → b < P → c < P → d < P → e < P → InField (a ∷ b ∷ c ∷ d ∷ e ∷ [])
five_small a b c d e p q r s t =
    InField-cons a (b ∷ c ∷ d ∷ e ∷ []) p (InField-cons b (c ∷ d ∷ e ∷ []) q (InField-cons c (d ∷ e ∷ []) r (InField-cons d (e ∷ []) s
    (InField-cons e [] t InField-none))))

three_small : (a b c : ℕ) → a < P → b < P → c < P → InField (a ∷ b ∷ c ∷ [])
three_small a b c p q r = InField-cons a (b ∷ c ∷ []) p (InField-cons b (c ∷ []) q (InField-cons c [] r InField-none))

values_small : (form : Form) (b : Bool) (x y : PairNum) → IsSmall x → IsSmall y → InField (switch_values form b x y)
values_small Bound b x y p q =
    let first = passed_small b x y p q in
    let second = passed_small b y x q p in
    five_small _ _ _ _ _ (flag_field b) first.0 first.1 second.0 second.1
values_small Open b x y p q = three_small _ _ _ (flag_field b) (product_small b x.first y.first) (product_small b x.second y.second)

passes_made : (form : Form) (low : Bool) (n : ℕ) (x : Pair) (w : ℕ) → IsPairMade n x w → IsPairMade (n + 1) (passed_to form low w x) (w + width form)
passes_made Bound true n x w m = record { first = omega arith; second = omega arith; first_short = omega arith; second_short = omega arith }
passes_made Bound false n x w m = record { first = omega arith; second = omega arith; first_short = omega arith; second_short = omega arith }
passes_made Open true n x w m = record {
  first = more_top (P - 1) (w + 1) (w + 3) x.first (omega (arith, m.first)) (omega arith);
  second = more_top (P - 1) (w + 2) (w + 3) x.second (omega (arith, m.second)) (omega arith);
  first_short = omega (arith, length-append x.first (less [] (wire (w + 1))), m.first_short);
  second_short = omega (arith, length-append x.second (less [] (wire (w + 2))), m.second_short);
}
passes_made Open false n x w m = record {
  first = more_top 1 (w + 1) (w + 3) x.first (omega (arith, m.first)) (omega arith);
  second = more_top 1 (w + 2) (w + 3) x.second (omega (arith, m.second)) (omega arith);
  first_short = omega (arith, length-append x.first (wire (w + 1)), m.first_short);
  second_short = omega (arith, length-append x.second (wire (w + 2)), m.second_short);
}

pub switch_sizes : SwitchSizes
switch_sizes = record {
  end = switch_next;
  values = values_length;
  fills = λ form x y b v w next. omega (arith, switch_next form x y next, values_length form b v w);
  in_field = values_small;
  count = switch_count;
  passes = passes_made;
}
