-- The settings of a permutation take each input to its output.
use Rattle.tv_core.proofs.Common.{◌≡◌, ◌≢◌, ℕ, zero, suc, ◌+◌, ◌-◌, ◌*◌, ◌/◌, ◌%◌, ◌^◌, ◌<◌, ◌≤◌, ◌==◌, inl, inr, Bool, true, false, not, if◌then◌else◌, List}
use Rattle.tv_core.proofs.Common.{[], ◌∷◌, ◌++◌, length, get_or, refl, sym, ◌∙◌, ap, subst, arith, slice_index, cases_eq, cases_lt, lt-ltb}
use Rattle.std.proofs.Common.{length-append}
use Rattle.std.specs.Prelude.{nat_lt}
use Rattle.std.proofs.lemmas.List.{get_or_append_left, get_or-append-add}
use Rattle.std.proofs.Math.Pow.{pow_mono, pow-lt}
use Rattle.std.proofs.lemmas.Nat.{pow_pos}
use Rattle.tv_benes.proofs.Permutations.{places-length, places-at, alternating-even, alternating-odd}
use Rattle.tv_benes.proofs.ThroughLaws.{twice, switches-suc, missing_small, left_bit, kept_bit, joined-same, through-same}
use Rattle.tv_benes.specs.Through.{switches, from, passed, to_upper, to_lower, alternating, joined, last_bit, missing, through, places}
use Rattle.tv_route.proofs.Halves.{sides_apart, pairs_apart, first_up}
use Rattle.tv_route.specs.Permutations.{Permutes, IsRoutable}
use Rattle.tv_route.specs.Route.{Mark, halves, down, up_input, down_input, route, level_within, route_level_of, route_of, RouteIsRight}
use Rattle.tv_benes.specs.Items.{bit_at}
use Rattle.tv_benes.specs.declared.shape.Net.{Net}
use Rattle.tv_benes.specs.declared.shape.Net.TheVariants.{Benes, Waksman}
use Rattle.tv_core.proofs.BelowLaws.{below-power}

-- ---- the inputs of one half
-- inp j is the one of the two inputs of outputs 2 j and 2 j + 1 that goes through the half b
record IsHalf (n : ℕ) (p : List ℕ) (down : ℕ → Bool) (b : Bool) (inp : ℕ → ℕ) : Type 0 where
  place : ℕ → ℕ
  at : (j : ℕ) → j < n → inp j ≡ slice_index p (place j)
  pair : (j : ℕ) → j < n → place j / 2 ≡ j
  goes : (j : ℕ) → j < n → down (inp j) ≡ b
  meets : (i : ℕ) → i < 2 * n → down (slice_index p i) ≡ b → inp (i / 2) ≡ slice_index p i

-- of two, the one that goes through the half b, where c is whether the first goes down
abbrev of_half : {X : Type 0} → Bool → Bool → X → X → X
of_half b c x y = if c then (if b then x else y) else (if b then y else x)

of_half-first : {X : Type 0} (b c : Bool) (x y : X) → c ≡ b → of_half b c x y ≡ x
of_half-first true true x y e = refl
of_half-first true false x y e = cc
of_half-first false true x y e = cc
of_half-first false false x y e = refl

of_half-second : {X : Type 0} (b c : Bool) (x y : X) → not c ≡ b → of_half b c x y ≡ y
of_half-second true true x y e = cc
of_half-second true false x y e = refl
of_half-second false true x y e = refl
of_half-second false false x y e = cc

of_half-map : {X Y : Type 0} (f : X → Y) (b c : Bool) (x y : X) → of_half b c (f x) (f y) ≡ f (of_half b c x y)
of_half-map f true true x y = refl
of_half-map f true false x y = refl
of_half-map f false true x y = refl
of_half-map f false false x y = refl

apart_not : (b : Bool) → b ≡ not b → ⊥
apart_not true e = cc
apart_not false e = cc

module _ (n : ℕ) (p : List ℕ) (d : ℕ → Bool) (b : Bool) (perm : Permutes (2 * n) p) (inp : ℕ → ℕ) (half : IsHalf n p d b inp)
    (sides : (j : ℕ) → j < n → d (2 * j + 1) ≡ not (d (2 * j))) where
  -- the input of a pair that goes through this half
  of_pair : ℕ → ℕ
  of_pair x = of_half b (d (2 * x)) (2 * x) (2 * x + 1)

  record IsOfPair (x y : ℕ) : Type 0 where
    pair : y / 2 ≡ x
    in_pair : y < 2 * x + 2
    goes : d y ≡ b

  of_pair_by : (x : ℕ) (c e : Bool) → d (2 * x) ≡ c → d (2 * x + 1) ≡ not c → b ≡ e → IsOfPair x (of_half e c (2 * x) (2 * x + 1))
  of_pair_by x true true p q r = record { pair = omega arith; in_pair = omega arith; goes = p ∙ sym r }
  of_pair_by x true false p q r = record { pair = omega arith; in_pair = omega arith; goes = q ∙ sym r }
  of_pair_by x false true p q r = record { pair = omega arith; in_pair = omega arith; goes = q ∙ sym r }
  of_pair_by x false false p q r = record { pair = omega arith; in_pair = omega arith; goes = p ∙ sym r }

  of_pair_is : (x : ℕ) → x < n → IsOfPair x (of_pair x)
  unfolding of_pair
  of_pair_is x h = of_pair_by x (d (2 * x)) b refl (sides x h) refl

  -- two inputs of one pair that go through the same half are one
  one_of_pair : (x y : ℕ) → x < 2 * n → y < 2 * n → x / 2 ≡ y / 2 → d x ≡ d y → x ≡ y
  one_of_pair x y hx hy same e = elim (cases_eq x y) [
    | inl is ↦ is
    | inr apart ↦ elim (cases_eq (x % 2) 0) [
      | inl even ↦
          let at_x : x ≡ 2 * (x / 2) = omega arith in
          let at_y : y ≡ 2 * (x / 2) + 1 = omega arith in
          absurd (apart_not (d (2 * (x / 2))) (sym (ap d at_x) ∙ e ∙ ap d at_y ∙ sides (x / 2) (omega arith)))
      | inr odd ↦
          let at_y : y ≡ 2 * (y / 2) = omega arith in
          let at_x : x ≡ 2 * (y / 2) + 1 = omega arith in
          absurd (apart_not (d (2 * (y / 2))) (sym (ap d at_y) ∙ sym e ∙ ap d at_x ∙ sides (y / 2) (omega arith)))
    ]
  ]

  place_in : (j : ℕ) → j < n → half.place j < 2 * n
  place_in j h = omega (arith, half.pair j h)

  inp_in : (j : ℕ) → j < n → inp j < 2 * n
  inp_in j h = subst (λ k. k < 2 * n) (sym (half.at j h)) (perm.below (half.place j) (place_in j h))

  half_permutes : Permutes n (places n (λ j. inp j / 2))
  half_permutes = record {
    as_long = places-length n (λ j. inp j / 2);
    below = λ i h. let k = inp_in i h in omega (arith, places-at n i (λ j. inp j / 2) 0 h);
    back = λ x. perm.back (of_pair x) / 2;
    back_below = λ x h. let o = of_pair_is x h in let k = perm.back_below (of_pair x) (omega (arith, o.in_pair)) in omega arith;
    there = λ x h.
        let o = of_pair_is x h in
        let y_in : of_pair x < 2 * n = omega (arith, o.in_pair) in
        let i = perm.back (of_pair x) in
        let i_in : i < 2 * n = perm.back_below (of_pair x) y_in in
        let is : inp (i / 2) ≡ of_pair x = half.meets i i_in (ap d (perm.there (of_pair x) y_in) ∙ o.goes) ∙ perm.there (of_pair x) y_in in
        places-at n (i / 2) (λ j. inp j / 2) 0 (omega arith) ∙ ap (λ k. k / 2) is ∙ o.pair;
    once = λ i j hi hj e.
        let same : inp i / 2 ≡ inp j / 2 = sym (places-at n i (λ j. inp j / 2) 0 hi) ∙ e ∙ places-at n j (λ j. inp j / 2) 0 hj in
        let one : inp i ≡ inp j = one_of_pair (inp i) (inp j) (inp_in i hi) (inp_in j hj) same (half.goes i hi ∙ sym (half.goes j hj)) in
        let place : half.place i ≡ half.place j = perm.once (half.place i) (half.place j) (place_in i hi) (place_in j hj)
        (sym (half.at i hi) ∙ one ∙ half.at j hj) in
        sym (half.pair i hi) ∙ ap (λ k. k / 2) place ∙ half.pair j hj;
  }

-- ---- the two halves
module _ (n : ℕ) (p : List ℕ) (marks : List Mark)
    (pairs : (j : ℕ) → j < n → down marks (slice_index p (2 * j + 1)) ≡ not (down marks (slice_index p (2 * j)))) where
  abbrev mark : ℕ → Bool
  mark j = down marks (slice_index p (2 * j))

  by_pair : (b c : Bool) (j : ℕ) → of_half b c (2 * j) (2 * j + 1) / 2 ≡ j
  by_pair true true j = omega arith
  by_pair true false j = omega arith
  by_pair false true j = omega arith
  by_pair false false j = omega arith

  by_goes : (j : ℕ) → j < n → (b c : Bool) → mark j ≡ c → down marks (of_half b c (slice_index p (2 * j)) (slice_index p (2 * j + 1))) ≡ b
  by_goes j h true true e = e
  by_goes j h true false e = pairs j h ∙ ap not e
  by_goes j h false true e = pairs j h ∙ ap not e
  by_goes j h false false e = e

  half_of : (b : Bool) → IsHalf n p (down marks) b (λ j. of_half b (mark j) (slice_index p (2 * j)) (slice_index p (2 * j + 1)))
  half_of b = record {
    place = λ j. of_half b (mark j) (2 * j) (2 * j + 1);
    at = λ j h. of_half-map (slice_index p) b (mark j) (2 * j) (2 * j + 1);
    pair = λ j h. by_pair b (mark j) j;
    goes = λ j h. by_goes j h b (mark j) refl;
    meets = λ i h e. elim (cases_eq (i % 2) 0) [
      | inl even ↦ let place : 2 * (i / 2) ≡ i = omega arith in
          of_half-first b (mark (i / 2)) _ _ (ap (λ k. down marks (slice_index p k)) place ∙ e) ∙ ap (λ k. slice_index p k) place
      | inr odd ↦ let place : 2 * (i / 2) + 1 ≡ i = omega arith in
          of_half-second b (mark (i / 2)) _ _ (sym (pairs (i / 2) (omega arith)) ∙ ap (λ k. down marks (slice_index p k)) place ∙ e)
          ∙ ap (λ k. slice_index p k) place
    ];
  }

-- ---- what is read at a place of the bits
pub route-length : (net : Net) (h : ℕ) (p : List ℕ) → length (route net h p) ≡ switches net h
unfolding route
route-length Waksman zero p = refl
route-length Benes zero p = refl
route-length net (suc h) p =
    let n = 2 ^ suc h in
    let marks = halves p n in
    let a = places n (λ j. down marks (2 * j)) in
    let u = route net h (places n (λ j. up_input marks p j / 2)) in
    let l = route net h (places n (λ j. down_input marks p j / 2)) in
    let b = places (n - missing net) (λ j. down marks (slice_index p (2 * (j + missing net)))) in
    length-append a (u ++ (l ++ b)) ∙ ap (λ k. length a + k) (length-append u (l ++ b) ∙ ap (λ k. length u + k) (length-append l b))
    ∙ omega (
      arith,
      switches-suc net h,
      missing_small net,
      pow_pos (suc h),
      places-length n (λ j. down marks (2 * j)),
      places-length (n - missing net) (λ j. down marks (slice_index p (2 * (j + missing net)))),
      route-length net h (places n (λ j. up_input marks p j / 2)),
      route-length net h (places n (λ j. down_input marks p j / 2)),
    )

module _ (n s : ℕ) (a u l b : List Bool) (la : length a ≡ n) (lu : length u ≡ s) (ll : length l ≡ s) where
  in_first : (j : ℕ) → j < n → get_or (a ++ (u ++ (l ++ b))) j false ≡ get_or a j false
  in_first j h = get_or_append_left a (u ++ (l ++ b)) false j (omega (arith, la))

  past : (xs ys : List Bool) (m i j : ℕ) → length xs ≡ m → i ≡ m + j → get_or (xs ++ ys) i false ≡ get_or ys j false
  past xs ys m i j long at = ap (λ k. get_or (xs ++ ys) k false) (at ∙ ap (λ k. k + j) (sym long)) ∙ get_or-append-add xs ys j false

  in_upper : (j : ℕ) → j < s → get_or (a ++ (u ++ (l ++ b))) (n + j) false ≡ get_or u j false
  in_upper j h = past a _ n (n + j) j la refl ∙ get_or_append_left u (l ++ b) false j (omega (arith, lu))

  in_lower : (j : ℕ) → j < s → get_or (a ++ (u ++ (l ++ b))) (n + s + j) false ≡ get_or l j false
  in_lower j h = past a _ n (n + s + j) (s + j) la (omega arith) ∙ past u _ s (s + j) j lu refl ∙ get_or_append_left l b false j (omega (arith, ll))

  in_last : (j : ℕ) → get_or (a ++ (u ++ (l ++ b))) (n + 2 * s + j) false ≡ get_or b j false
  in_last j = past a _ n (n + 2 * s + j) (2 * s + j) la (omega arith) ∙ past u _ s (2 * s + j) (s + j) lu (omega arith) ∙ past l _ s (s + j) j ll refl

-- ---- one level
module _ {X : Type 0} (n : ℕ) (d bit : ℕ → Bool) (item : ℕ → X) (sides : (j : ℕ) → j < n → d (2 * j + 1) ≡ not (d (2 * j)))
    (column : (j : ℕ) → j < n → bit j ≡ d (2 * j)) where
  goes_by : (b : Bool) (x : ℕ) → x < 2 * n → d x ≡ b → of_half b (bit (x / 2)) (item (2 * (x / 2))) (item (2 * (x / 2) + 1)) ≡ item x
  goes_by b x h e = elim (cases_eq (x % 2) 0) [
    | inl even ↦ let place : 2 * (x / 2) ≡ x = omega arith in
        of_half-first b (bit (x / 2)) _ _ (column (x / 2) (omega arith) ∙ ap d place ∙ e) ∙ ap item place
    | inr odd ↦ let place : 2 * (x / 2) + 1 ≡ x = omega arith in
        of_half-second b (bit (x / 2)) _ _ (ap not (column (x / 2) (omega arith)) ∙ sym (sides (x / 2) (omega arith)) ∙ ap d place ∙ e) ∙ ap item place
  ]

-- the bits of a last column: where switch 0 has none, the input of output 0 goes up
last_is : (net : Net) (n : ℕ) (nth bit d : ℕ → Bool) (p : List ℕ) (j : ℕ) → j < n → d (slice_index p 0) ≡ false → ((i : ℕ) → bit i ≡ nth i)
    → ((i : ℕ) → i + missing net < n → nth i ≡ d (slice_index p (2 * (i + missing net)))) → last_bit net bit j ≡ d (slice_index p (2 * j))
last_is net n nth bit d p j h up there is = elim (cases_lt j (missing net)) [
  | inl left ↦ let none : 0 ≡ j = omega (arith, missing_small net) in
      left_bit net bit j left ∙ sym up ∙ ap (λ k. d (slice_index p (2 * k))) none
  | inr kept ↦ let back : j - missing net + missing net ≡ j = omega arith in
      kept_bit net bit j kept ∙ there (j - missing net) ∙ is (j - missing net) (omega arith) ∙ ap (λ k. d (slice_index p (2 * k))) back
]

-- the last column sends each input to its output
last_column : {X : Type 0} (c : Bool) (u l : X) (x y : X) → u ≡ (if c then y else x) → l ≡ (if c then x else y) → (passed c u l ≡ x) × (passed c l u ≡ y)
last_column true u l x y p q = (q, p)
last_column false u l x y p q = (p, q)

-- one switch
two_items : {X : Type 0} (item : ℕ → X) (q r : ℕ) → q < 2 → r < 2 → q ≢ r
    → (passed (q == 1) (item 0) (item 1) ≡ item q) × (passed (q == 1) (item 1) (item 0) ≡ item r)
two_items item zero zero h k apart = absurd (apart refl)
two_items item zero (suc zero) h k apart = (refl, refl)
two_items item (suc zero) zero h k apart = (refl, refl)
two_items item (suc zero) (suc zero) h k apart = absurd (apart refl)
two_items item (suc (suc q)) r h k apart = absurd (omega arith)
two_items item zero (suc (suc r)) h k apart = absurd (omega arith)
two_items item (suc zero) (suc (suc r)) h k apart = absurd (omega arith)

pub route_is : {X : Type 0} (net : Net) (h : ℕ) (p : List ℕ) (item : ℕ → X) → Permutes (2 ^ suc h) p → (i : ℕ) → i < 2 ^ suc h
    → through net h (λ j. get_or (route net h p) j false) item i ≡ item (slice_index p i)
unfolding through route
route_is net zero p item perm i within =
    let there = joined (λ j. get_or ((slice_index p 0 == 1) ∷ []) j false) (λ j. item (2 * j)) (λ j. item (2 * j + 1)) in
    let apart : slice_index p 0 ≢ slice_index p 1 = λ e. let same : ◌≡◌ {A = ℕ} 0 1 = perm.once 0 1 (omega arith) (omega arith) e in omega arith in
    let both = two_items item (slice_index p 0) (slice_index p 1) (perm.below 0 (omega arith)) (perm.below 1 (omega arith)) apart in
    elim (cases_eq i 0) [
      | inl none ↦ ap there none ∙ both.0 ∙ ap (λ k. item (slice_index p k)) (sym none)
      | inr some ↦ let one : i ≡ 1 = omega arith in ap there one ∙ both.1 ∙ ap (λ k. item (slice_index p k)) (sym one)
    ]
route_is net (suc h) p item perm i within =
    let n = 2 ^ suc h in
    let s = switches net h in
    let two = twice (suc h) in
    let whole : Permutes (2 * n) p = subst (λ k. Permutes k p) two perm in
    let marks = halves p n in
    let d = down marks in
    let sides = sides_apart n p whole in
    let pairs = pairs_apart n p whole in
    let up = half_of n p marks pairs false in
    let low = half_of n p marks pairs true in
    let up_places = places n (λ j. up_input marks p j / 2) in
    let low_places = places n (λ j. down_input marks p j / 2) in
    let a = places n (λ j. d (2 * j)) in
    let u = route net h up_places in
    let l = route net h low_places in
    let b = places (n - missing net) (λ j. d (slice_index p (2 * (j + missing net)))) in
    let la = places-length n (λ j. d (2 * j)) in
    let lu = route-length net h up_places in
    let ll = route-length net h low_places in
    let bit : ℕ → Bool = λ j. get_or (a ++ (u ++ (l ++ b))) j false in
    let column : (j : ℕ) → j < n → bit j ≡ d (2 * j) = λ j k. in_first n s a u l b la lu ll j k ∙ places-at n j (λ j. d (2 * j)) false k in
    let upper : (j : ℕ) → j < n → through net h (from n bit) (to_upper bit item) j ≡ item (up_input marks p j) =
    λ j k. through-same net h (from n bit) (λ i. get_or u i false) (to_upper bit item) (to_upper bit item) (λ i lt. in_upper n s a u l b la lu ll i lt)
    (λ i lt. refl) j k
    ∙ route_is net h up_places (to_upper bit item) (half_permutes n p d false whole (up_input marks p) up sides) j k
    ∙ ap (to_upper bit item) (places-at n j (λ j. up_input marks p j / 2) 0 k)
    ∙ goes_by n d bit item sides column false (up_input marks p j) (inp_in n p d false whole (up_input marks p) up sides j k) (up.goes j k) in
    let lower : (j : ℕ) → j < n → through net h (from (n + s) bit) (to_lower bit item) j ≡ item (down_input marks p j) =
    λ j k. through-same net h (from (n + s) bit) (λ i. get_or l i false) (to_lower bit item) (to_lower bit item) (λ i lt. in_lower n s a u l b la lu ll i lt)
    (λ i lt. refl) j k
    ∙ route_is net h low_places (to_lower bit item) (half_permutes n p d true whole (down_input marks p) low sides) j k
    ∙ ap (to_lower bit item) (places-at n j (λ j. down_input marks p j / 2) 0 k)
    ∙ goes_by n d bit item sides column true (down_input marks p j) (inp_in n p d true whole (down_input marks p) low sides j k) (low.goes j k) in
    let j = i / 2 in
    let within_half : i / 2 < n = omega arith in
    let last : last_bit net (from (n + 2 * s) bit) (i / 2) ≡ d (slice_index p (2 * (i / 2))) =
    last_is net n (λ j. get_or b j false) (from (n + 2 * s) bit) d p (i / 2) within_half (first_up n p whole (omega arith))
    (λ j. in_last n s a u l b la lu ll j) (λ j k. places-at (n - missing net) j (λ j. d (slice_index p (2 * (j + missing net)))) false (omega arith)) in
    let c = d (slice_index p (2 * (i / 2))) in
    let ends = last_column c (item (up_input marks p (i / 2))) (item (down_input marks p (i / 2))) (item (slice_index p (2 * (i / 2))))
    (item (slice_index p (2 * (i / 2) + 1)))
    (sym (of_half-map item false c (slice_index p (2 * (i / 2))) (slice_index p (2 * (i / 2) + 1))))
    (sym (of_half-map item true c (slice_index p (2 * (i / 2))) (slice_index p (2 * (i / 2) + 1)))) in
    let one = λ (j : ℕ). passed (d (slice_index p (2 * j))) (item (up_input marks p j)) (item (down_input marks p j)) in
    let other = λ (j : ℕ). passed (d (slice_index p (2 * j))) (item (down_input marks p j)) (item (up_input marks p j)) in
    joined-same (last_bit net (from (n + 2 * s) bit)) (λ j. d (slice_index p (2 * j))) (through net h (from n bit) (to_upper bit item))
    (λ j. item (up_input marks p j)) (through net h (from (n + s) bit) (to_lower bit item)) (λ j. item (down_input marks p j)) i
    last (upper (i / 2) within_half) (lower (i / 2) within_half)
    ∙ elim (cases_eq (i % 2) 0) [
      | inl even ↦ let place : i ≡ 2 * (i / 2) = omega arith in ap (alternating one other) place ∙ alternating-even one other (i / 2) ∙ ends.0
          ∙ ap (λ k. item (slice_index p k)) (sym place)
      | inr odd ↦ let place : i ≡ 2 * (i / 2) + 1 = omega arith in ap (alternating one other) place ∙ alternating-odd one other (i / 2) ∙ ends.1
          ∙ ap (λ k. item (slice_index p k)) (sym place)
    ]

-- the level of a list of 2 ^ k items is k - 1
level_by : (fuel h : ℕ) → h < fuel → level_within fuel (2 ^ suc h) ≡ h
level_by zero h few = absurd (omega arith)
level_by (suc fuel) zero few = refl
level_by (suc fuel) (suc h) few =
    let big : nat_lt 2 (2 ^ suc (suc h)) ≡ true = lt-ltb 2 (2 ^ suc (suc h)) (omega (arith, pow_pos h, twice h, twice (suc h))) in
    let half : 2 ^ suc (suc h) / 2 ≡ 2 ^ suc h = omega (arith, twice (suc h)) in
    ap (λ (c : Bool). if c then suc (level_within fuel (2 ^ suc (suc h) / 2)) else 0) big ∙ ap (λ n. suc (level_within fuel n)) half
    ∙ ap suc (level_by fuel h (omega arith))

pub level_is : (p : List ℕ) (h : ℕ) → length p ≡ 2 ^ suc h → route_level_of p ≡ h
level_is p h long = ap (λ n. level_within n n) long ∙ level_by (2 ^ suc h) h (omega (arith, below-power h, twice h))

pub route_of_is : (net : Net) (p : List ℕ) (h : ℕ) → length p ≡ 2 ^ suc h → route_of net p ≡ route net h p
route_of_is net p h long = ap (λ k. route net k p) (level_is p h long)

routed : {X : Type 0} (net : Net) (k : ℕ) (p : List ℕ) (item : ℕ → X) → 1 ≤ k → Permutes (2 ^ k) p → (i : ℕ) → i < 2 ^ k
    → through net (k - 1) (bit_at (route_of net p)) item i ≡ item (slice_index p i)
routed net zero p item some perm i within = absurd (omega arith)
routed net (suc h) p item some perm i within =
    let level : suc h - 1 ≡ h = omega arith in
    ap (λ (l : ℕ). through net l (bit_at (route_of net p)) item i) level
    ∙ ap (λ (bits : List Bool). through net h (bit_at bits) item i) (route_of_is net p h perm.as_long)
    ∙ route_is net h p item perm i within

sized : (net : Net) (k : ℕ) (p : List ℕ) → 1 ≤ k → length p ≡ 2 ^ k → length (route_of net p) ≡ switches net (k - 1)
sized net zero p some long = absurd (omega arith)
sized net (suc h) p some long =
    let level : suc h - 1 ≡ h = omega arith in
    ap (λ (bits : List Bool). length bits) (route_of_is net p h long) ∙ route-length net h p ∙ ap (switches net) (sym level)

pub route_right : RouteIsRight
route_right = record {
  size = sized;
  numbers = λ net k p item some perm i within. routed net k p item some perm i within;
  pairs = λ net k p item some perm i within. routed net k p item some perm i within;
}

-- what each half is to do is a permutation of its places
pub halves_permute : (h k : ℕ) (p : List ℕ) → h ≡ suc k → Permutes (2 ^ suc h) p
    → Permutes (2 ^ suc k) (places (2 ^ h) (λ j. up_input (halves p (2 ^ h)) p j / 2))
    × Permutes (2 ^ suc k) (places (2 ^ h) (λ j. down_input (halves p (2 ^ h)) p j / 2))
halves_permute h k p level perm =
    let n = 2 ^ h in
    let whole : Permutes (2 * n) p = subst (λ m. Permutes m p) (twice h) perm in
    let of = half_of n p (halves p n) (pairs_apart n p whole) in
    let sides = sides_apart n p whole in (
      subst (λ l. Permutes (2 ^ l) (places n (λ j. up_input (halves p n) p j / 2))) level
          (half_permutes n p (down (halves p n)) false whole (up_input (halves p n) p) (of false) sides),
      subst (λ l. Permutes (2 ^ l) (places n (λ j. down_input (halves p n) p j / 2))) level
          (half_permutes n p (down (halves p n)) true whole (down_input (halves p n) p) (of true) sides),
    )

-- the power of 2 at most as large as a list that can be routed is as large
pub record IsExponent (p : List ℕ) (k : ℕ) : Type 0 where
  pub some : 1 ≤ k
  pub few : k ≤ 31
  pub long : length p ≡ 2 ^ k

pub exponent_is : (p : List ℕ) → IsRoutable p → (k : ℕ) → 2 ^ k ≤ length p → length p < 2 * 2 ^ k → IsExponent p k
exponent_is p r k least most =
    let same : k ≡ r.k = elim (cases_lt k r.k) [
      | inl under ↦ absurd (omega (arith, pow_mono {i = suc k} {j = r.k} under, twice k, r.permutes.as_long))
      | inr over ↦ elim (cases_lt r.k k) [ inl above ↦ absurd (omega (arith, pow-lt {i = r.k} {j = k} above, r.permutes.as_long)) | inr level ↦ omega arith ]
    ] in
    record { some = omega (arith, r.some); few = omega (arith, r.few); long = r.permutes.as_long ∙ ap (λ n. 2 ^ n) (sym same) }
