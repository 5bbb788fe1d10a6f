-- An assignment that satisfies a network's constraints has at the outputs what goes through.
use Rattle.tv_core.proofs.Common.{◌≡◌, ℕ, zero, suc, ◌+◌, ◌-◌, ◌*◌, ◌/◌, ◌%◌, ◌^◌, ◌<◌, ◌==◌, Bool, true, false, List, [], ◌++◌, refl, sym, ◌∙◌, ap, ap₂}
use Rattle.tv_core.proofs.Common.{subst, arith, inl, inr, slice_index, cases_lt, value-append, value-below, value-wire, wire-below, Meets-split, Circuit}
use Rattle.tv_core.proofs.Common.{here, fresh, put, pure, ◌>>=◌, wire, constant, Combination, value, Assigns, Meets, normal}
use Rattle.std.proofs.lemmas.Nat.{pow_pos}
use Rattle.tv_core.proofs.CombinationLaws.{value-once}
use Rattle.tv_core.proofs.LineLaws.{pair_same}
use Rattle.tv_core.proofs.LoopLaws.{turn_met, turns-next}
use Rattle.tv_core.proofs.NormalLaws.{value-normal}
use Rattle.tv_core.specs.Lines.{pair_value}
use Rattle.tv_core.specs.declared.field.TheConstants.{P}
use Rattle.tv_core.specs.declared.lines.Pair.{Pair}
use Rattle.tv_core.specs.declared.lines.PairNum.{PairNum}
use Rattle.tv_bits.proofs.BitLaws.{bit_sound, bit_cases}
use Rattle.tv_bits.proofs.SelectLaws.{select_sound, selected-zero, selected-one}
use Rattle.tv_bits.specs.Bit.{IsBit, bit_of}
use Rattle.tv_bits.specs.Select.{selected, pick_of}
use Rattle.tv_benes.proofs.EndLaws.{whole_outputs, end_passes, end_made}
use Rattle.tv_benes.proofs.Sources.{last_even, last_odd}
use Rattle.tv_benes.proofs.ThroughLaws.{switches-suc, missing_small, one_switch, last_bit-same, kept_bit, left_bit, alternating-same, joined-same}
use Rattle.tv_benes.proofs.ThroughLaws.{through-same, alternating_map}
use Rattle.tv_benes.specs.Network.{remainder_of, switch_of, column_of, last_column_of, network_of, bit_in, NetworkIsSound}
use Rattle.tv_benes.specs.Places.{wires_at, row, output, last_outputs, last_pair}
use Rattle.tv_benes.specs.Through.{switches, missing, last_bit, from, passed, to_upper, to_lower, joined, through}
use Rattle.tv_benes.specs.declared.places.Ends.{Ends}
use Rattle.tv_benes.specs.declared.shape.Net.{Net}

passed_pair : (b : Bool) (x y : PairNum) → ◌≡◌ {A = PairNum} (record { first = passed b x.first y.first; second = passed b x.second y.second }) (passed b x y)
passed_pair true x y = refl
passed_pair false x y = refl

-- ---- a switch
switch_next : (x y : Pair) (next : ℕ) → (switch_of x y next).next ≡ next + 5
unfolding switch_of remainder_of bit_of pick_of fresh put pure ◌>>=◌
switch_next x y next = omega arith

-- a switch whose bit stands at a wire: two items, and what it passes first and second
pub record IsSwitch (z : List ℕ) (x y p q : PairNum) (at : ℕ) : Type 0 where
  pub bit : IsBit (slice_index z at)
  pub first : p ≡ passed (slice_index z at == 1) x y
  pub second : q ≡ passed (slice_index z at == 1) y x

-- a wire that is with another the sum of two combinations
module _ (z : List ℕ) (assigns : Assigns z) (x y : Combination) (p next : ℕ) where
  sum_is : value (normal (x ++ y)) z * value (constant 1) z % P ≡ (value x z + value y z) % P
  sum_is = value-once z (normal (x ++ y)) assigns ∙ value-normal z (x ++ y) ∙ value-append x y z

  parts_are : value (wire p ++ wire next) z ≡ (slice_index z p + slice_index z next) % P
  parts_are = value-append (wire p) (wire next) z ∙ ap₂ (λ a b. (a + b) % P) (value-wire assigns p) (value-wire assigns next)

  remainder_sound : Meets z (remainder_of x y p next).list → (value x z + value y z) % P ≡ (slice_index z p + slice_index z next) % P
  unfolding remainder_of fresh put pure ◌>>=◌
  remainder_sound meets = sym sum_is ∙ meets.0 ∙ parts_are

  pub remainder_complete : (value x z + value y z) % P ≡ (slice_index z p + slice_index z next) % P → Meets z (remainder_of x y p next).list
  unfolding remainder_of fresh put pure ◌>>=◌
  remainder_complete sums = (sum_is ∙ sums ∙ sym parts_are, tt)

other_of : (b x y p q : ℕ) → x < P → y < P → q < P → IsBit b → p ≡ selected b y x → (x + y) % P ≡ (p + q) % P → q ≡ selected b x y
other_of b x y p q xs ys qs bit is sums = elim (bit_cases b bit) [
  | inl none ↦ let same : p ≡ x = is ∙ selected-zero b y x none in let q_is : q ≡ y = omega arith in q_is ∙ sym (selected-zero b x y none)
  | inr one ↦ let same : p ≡ y = is ∙ selected-one b y x one in let q_is : q ≡ x = omega arith in q_is ∙ sym (selected-one b x y one)
]

switch_sound : (z : List ℕ) (x y : Pair) (next : ℕ) → Assigns z → Meets z (switch_of x y next).list
    → IsSwitch z (pair_value z x) (pair_value z y) (pair_value z (wires_at (next + 1))) (pair_value z (wires_at (next + 3))) next
unfolding switch_of remainder_of bit_of pick_of fresh put pure ◌>>=◌
switch_sound z x y next assigns meets =
    let b = slice_index z next in
    let bit : IsBit b = bit_sound z next next assigns (meets.0, tt) in
    let p = select_sound z (next + 1) next y.first x.first assigns bit (meets.1.0, tt) in
    let p' = select_sound z (next + 1 + 1) next y.second x.second assigns bit (meets.1.1.0, tt) in
    let sums = remainder_sound z assigns x.first y.first (next + 1) (next + 1 + 1 + 1) (meets.1.1.1.0, tt) in
    let sums' = remainder_sound z assigns x.second y.second (next + 1 + 1) (next + 1 + 1 + 1 + 1) (meets.1.1.1.1.0, tt) in
    let q = other_of b _ _ _ _ (value-below x.first z) (value-below y.first z) (wire-below assigns (next + 1 + 1 + 1)) bit p sums in
    let q' = other_of b _ _ _ _ (value-below x.second z) (value-below y.second z) (wire-below assigns (next + 1 + 1 + 1 + 1)) bit p' sums' in
    let at3 : next + 1 + 1 + 1 ≡ next + 3 = omega arith in
    let at4 : next + 1 + 1 + 1 + 1 ≡ next + 3 + 1 = omega arith in
    record {
      bit = bit;
      first = pair_same _ _ _ _ (value-wire assigns (next + 1) ∙ p) (value-wire assigns (next + 1 + 1) ∙ p')
          ∙ passed_pair (b == 1) (pair_value z x) (pair_value z y);
      second = pair_same _ _ _ _ (value-wire assigns (next + 3) ∙ ap (λ k. slice_index z k) (sym at3) ∙ q)
          (value-wire assigns (next + 3 + 1) ∙ ap (λ k. slice_index z k) (sym at4) ∙ q') ∙ passed_pair (b == 1) (pair_value z y) (pair_value z x);
    }

-- ---- a column
pub column_next : (n : ℕ) (item : ℕ → Pair) (next : ℕ) → (column_of n item next).next ≡ next + 5 * n
unfolding column_of
column_next n item next =
    turns-next (λ j _. switch_of (item (2 * j)) (item (2 * j + 1))) tt next 5 n (λ j a at. switch_next (item (2 * j)) (item (2 * j + 1)) at) ∙ omega arith

pub column_sound : (z : List ℕ) (n : ℕ) (item : ℕ → Pair) (next : ℕ) → Assigns z → Meets z (column_of n item next).list → (j : ℕ) → j < n
    → IsSwitch z (pair_value z (item (2 * j))) (pair_value z (item (2 * j + 1))) (pair_value z (row (next + 1) j)) (pair_value z (row (next + 3) j))
    (next + 5 * j)
unfolding column_of
column_sound z n item next assigns meets j within =
    let piece : ℕ → Unit {0} → Circuit (Unit {0}) = λ j _. switch_of (item (2 * j)) (item (2 * j + 1)) in
    let switch = subst (λ k. IsSwitch z (pair_value z (item (2 * j))) (pair_value z (item (2 * j + 1))) (pair_value z (wires_at (k + 1)))
    (pair_value z (wires_at (k + 3))) k) (column_next j item next)
    (switch_sound z (item (2 * j)) (item (2 * j + 1)) _ assigns (turn_met z piece tt next n j within meets)) in
    let first : next + 1 + 5 * j ≡ next + 5 * j + 1 = omega arith in
    let second : next + 3 + 5 * j ≡ next + 5 * j + 3 = omega arith in
    record {
      bit = switch.bit;
      first = ap (λ w. pair_value z (wires_at w)) first ∙ switch.first;
      second = ap (λ w. pair_value z (wires_at w)) second ∙ switch.second;
    }

-- ---- the network
pub network_next : (net : Net) (h : ℕ) (item : ℕ → Pair) (next : ℕ) → (network_of net h item next).next ≡ next + 5 * switches net h
unfolding network_of last_column_of here pure ◌>>=◌
network_next net zero item next = column_next 1 item next ∙ omega (arith, one_switch net)
network_next net (suc h) item next =
    let n = 2 ^ suc h in
    let c = (column_of n item next).next in
    let u = network_of net h (row (next + 1)) c in
    let l = network_of net h (row (next + 3)) u.next in
    let last = last_pair net u.answer l.answer in
    omega (
      arith,
      switches-suc net h,
      missing_small net,
      pow_pos (suc h),
      column_next n item next,
      network_next net h (row (next + 1)) c,
      network_next net h (row (next + 3)) u.next,
      column_next (n - missing net) last l.next,
    )

-- what holds of the parts' switches holds of all
pub each_switch : (net : Net) (h : ℕ) (Q : ℕ → Type 0) → let n = 2 ^ suc h in let s = switches net h in
    ((j : ℕ) → j < n → Q j) → ((j : ℕ) → j < s → Q (n + j)) → ((j : ℕ) → j < s → Q (n + s + j)) → ((j : ℕ) → j < n - missing net → Q (n + 2 * s + j))
    → (j : ℕ) → j < switches net (suc h) → Q j
each_switch net h Q first upper lower last j k =
    let n = 2 ^ suc h in
    let s = switches net h in
    let size = switches-suc net h in
    let at : (i : ℕ) → i ≡ j → Q i → Q j = λ i e q. subst Q e q in
    elim (cases_lt j n) [
      | inl a ↦ first j a
      | inr a ↦ elim (cases_lt j (n + s)) [
        | inl b ↦ at (n + (j - n)) (omega arith) (upper (j - n) (omega arith))
        | inr b ↦ elim (cases_lt j (n + 2 * s)) [
          | inl c ↦ at (n + s + (j - (n + s))) (omega arith) (lower (j - (n + s)) (omega arith))
          | inr c ↦ at (n + 2 * s + (j - (n + 2 * s))) (omega arith) (last (j - (n + 2 * s)) (omega arith))
        ]
      ]
    ]

-- the outputs of a last column of n switches, but for those that are missing
last_sound : (z : List ℕ) (net : Net) (n g : ℕ) (u l : Ends) → Assigns z → Meets z (column_of (n - missing net) (last_pair net u l) g).list
    → (i : ℕ) → i < 2 * n → pair_value z (output (last_outputs net g u l) i)
    ≡ joined (last_bit net (bit_in z g)) (λ j. pair_value z (output u j)) (λ j. pair_value z (output l j)) i
last_sound z net n g u l assigns meets i within =
    let up : ℕ → PairNum = λ j. pair_value z (output u j) in
    let low : ℕ → PairNum = λ j. pair_value z (output l j) in
    let bit = last_bit net (bit_in z g) in
    let one : ℕ → PairNum = λ j. passed (bit j) (up j) (low j) in
    let two : ℕ → PairNum = λ j. passed (bit j) (low j) (up j) in
    let j = i / 2 in
    let k = j - missing net in
    elim (cases_lt i (2 * missing net)) [
      | inl left ↦
          let none = left_bit net (bit_in z g) j (omega arith) in
          ap (pair_value z) (end_passes g u l i net left) ∙ alternating_map (pair_value z) (output u) (output l) i
          ∙ alternating-same up one low two i (ap (λ b. passed b (up j) (low j)) (sym none)) (ap (λ b. passed b (low j) (up j)) (sym none))
      | inr kept ↦
          let is = kept_bit net (bit_in z g) j (omega arith) in
          let switch = column_sound z (n - missing net) (last_pair net u l) g assigns meets k (omega arith) in
          let back : k + missing net ≡ j = omega arith in
          let even = ap (pair_value z) (last_even (output u) (output l) k (missing net) ∙ ap (output u) back) in
          let odd = ap (pair_value z) (last_odd (output u) (output l) k (missing net) ∙ ap (output l) back) in
          let first : ℕ → Pair = λ j. row (g + 1) (j - missing net) in
          let second : ℕ → Pair = λ j. row (g + 3) (j - missing net) in
          ap (pair_value z) (end_made g u l i net kept) ∙ alternating_map (pair_value z) first second i
          ∙ alternating-same (λ j. pair_value z (first j)) one (λ j. pair_value z (second j)) two i
          (switch.first ∙ ap₂ (λ x y. passed (bit_in z g k) x y) even odd ∙ ap (λ b. passed b (up j) (low j)) (sym is))
          (switch.second ∙ ap₂ (λ x y. passed (bit_in z g k) y x) even odd ∙ ap (λ b. passed b (low j) (up j)) (sym is))
    ]

pub network_sound : NetworkIsSound
unfolding network_of last_column_of here pure ◌>>=◌ through
network_sound z net next zero item assigns meets =
    let column = Meets-split z (column_of 1 item next).list [] meets in
    let each = column_sound z 1 item next assigns column.0 in
    let v : ℕ → PairNum = λ j. pair_value z (item j) in
    let bit : ℕ → Bool = bit_in z next in
    record {
      bits = λ j k. (each j (omega (arith, one_switch net))).bit;
      outputs = λ i k.
          let switch = each (i / 2) (omega arith) in
          ap (pair_value z) (whole_outputs next i) ∙ alternating_map (pair_value z) (row (next + 1)) (row (next + 3)) i
          ∙ alternating-same (λ j. pair_value z (row (next + 1) j)) (λ j. passed (bit j) (v (2 * j)) (v (2 * j + 1)))
          (λ j. pair_value z (row (next + 3) j)) (λ j. passed (bit j) (v (2 * j + 1)) (v (2 * j))) i switch.first switch.second;
    }
network_sound z net next (suc h) item assigns meets =
    let n = 2 ^ suc h in
    let s = switches net h in
    let c = column_of n item next in
    let u = network_of net h (row (next + 1)) c.next in
    let l = network_of net h (row (next + 3)) u.next in
    let last = last_pair net u.answer l.answer in
    let d = column_of (n - missing net) last l.next in
    let first = Meets-split z c.list (u.list ++ (l.list ++ (d.list ++ []))) meets in
    let second = Meets-split z u.list (l.list ++ (d.list ++ [])) first.1 in
    let third = Meets-split z l.list (d.list ++ []) second.1 in
    let fourth = Meets-split z d.list [] third.1 in
    let v : ℕ → PairNum = λ j. pair_value z (item j) in
    let bit : ℕ → Bool = bit_in z next in
    let c_next = column_next n item next in
    let u_next = network_next net h (row (next + 1)) c.next in
    let l_next = network_next net h (row (next + 3)) u.next in
    let column = column_sound z n item next assigns first.0 in
    let upper = network_sound z net c.next h (row (next + 1)) assigns second.0 in
    let lower = network_sound z net u.next h (row (next + 3)) assigns third.0 in
    let end = column_sound z (n - missing net) last l.next assigns fourth.0 in
    let at : (a b : ℕ) → a ≡ b → (slice_index z a == 1) ≡ (slice_index z b == 1) = λ a b e. ap (λ w. slice_index z w == 1) e in
    let moved : (a b : ℕ) → a ≡ b → IsBit (slice_index z a) → IsBit (slice_index z b) = λ a b e is. subst (λ w. IsBit (slice_index z w)) e is in
    let same_upper : (j : ℕ) → j < n → pair_value z (output u.answer j) ≡ through net h (from n bit) (to_upper bit v) j =
    λ j k. upper.outputs j k ∙ through-same net h (bit_in z c.next) (from n bit) (λ j. pair_value z (row (next + 1) j)) (to_upper bit v)
    (λ i b. at _ _ (omega arith)) (λ i b. (column i b).first) j k in
    let same_lower : (j : ℕ) → j < n → pair_value z (output l.answer j) ≡ through net h (from (n + s) bit) (to_lower bit v) j =
    λ j k. lower.outputs j k ∙ through-same net h (bit_in z u.next) (from (n + s) bit) (λ j. pair_value z (row (next + 3) j)) (to_lower bit v)
    (λ i b. at _ _ (omega arith)) (λ i b. (column i b).second) j k in
    record {
      bits = each_switch net h (λ j. IsBit (slice_index z (next + 5 * j))) (λ j k. (column j k).bit)
          (λ j k. moved (c.next + 5 * j) _ (omega arith) (upper.bits j k)) (λ j k. moved (u.next + 5 * j) _ (omega arith) (lower.bits j k))
          (λ j k. moved (l.next + 5 * j) _ (omega arith) (end j k).bit);
      outputs = λ i k.
          last_sound z net n l.next u.answer l.answer assigns fourth.0 i (omega arith)
          ∙ joined-same (last_bit net (bit_in z l.next)) (last_bit net (from (n + 2 * s) bit)) (λ j. pair_value z (output u.answer j))
          (through net h (from n bit) (to_upper bit v)) (λ j. pair_value z (output l.answer j)) (through net h (from (n + s) bit) (to_lower bit v)) i
          (last_bit-same net (bit_in z l.next) (from (n + 2 * s) bit) n (i / 2) (omega arith) (λ j _. at _ _ (omega arith)))
          (same_upper (i / 2) (omega arith)) (same_lower (i / 2) (omega arith));
    }
