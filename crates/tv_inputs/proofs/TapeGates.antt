-- The laws of the small circuits of the tapes.
use Rattle.tv_core.proofs.Common.{◌≡◌, ◌≢◌, ℕ, ◌+◌, ◌-◌, ◌*◌, ◌%◌, ◌^◌, ◌<◌, ◌≤◌, ◌==◌, not, Bool, true, false, if◌then◌else◌, List, [], ◌∷◌, inl, inr, refl}
use Rattle.tv_core.proofs.Common.{sym, ◌∙◌, ap, ap₂, arith, mod-lt, zero-mul, slice_index, cases_eq, ne_eqb, value-below, value-less, value-cons, value-wire}
use Rattle.tv_core.proofs.Common.{wire-below, fresh, put, pure, ◌>>=◌, wire, Combination, value, Assigns, Meets, flag_of}
use Rattle.std.proofs.Common.{◌&&◌, mul-zero, eq-eqb, true≢false}
use Rattle.tv_bits.proofs.BitLaws.{bit_cases}
use Rattle.tv_bits.proofs.SelectLaws.{times_zero}
use Rattle.tv_bits.specs.Bit.{IsBit}
use Rattle.tv_core.proofs.CombinationLaws.{value-one_less}
use Rattle.tv_core.proofs.DifferenceLaws.{same_of_minus}
use Rattle.tv_core.proofs.InverseLaws.{mul-inverse_of}
use Rattle.tv_core.proofs.PrimeLaws.{p_zero_product_below}
use Rattle.tv_core.proofs.Residues.{mul-mod_undone}
use Rattle.tv_core.specs.Inverse.{inverse_of}
use Rattle.tv_core.specs.declared.field.TheConstants.{P}
use Rattle.tv_inputs.specs.Tapes.{if_zero_of, left_in, primary_of, auxiliary_of}
use Rattle.tv_bits.specs.Zero.{zero_cases_of}

-- ---- values of short combinations
pub value-two : (z : List ℕ) (b c v w : ℕ) → value ((b, v) ∷ (c, w) ∷ []) z ≡ (b * slice_index z v + c * slice_index z w) % P
value-two z b c v w = value-cons b v ((c, w) ∷ []) z ∙ ap (λ n. (b * slice_index z v + n) % P) (value-cons c w [] z)
    ∙ folded (b * slice_index z v) (c * slice_index z w)
  where
    folded : (m n : ℕ) → (m + (n + 0) % P) % P ≡ (m + n) % P
    folded m n = omega arith

pub value-three : (z : List ℕ) (b c d u v w : ℕ)
    → value ((b, u) ∷ (c, v) ∷ (d, w) ∷ []) z ≡ (b * slice_index z u + c * slice_index z v + d * slice_index z w) % P
value-three z b c d u v w = value-cons b u ((c, v) ∷ (d, w) ∷ []) z ∙ ap (λ n. (b * slice_index z u + n) % P) (value-two z c d v w)
    ∙ folded (b * slice_index z u) (c * slice_index z v) (d * slice_index z w)
  where
    folded : (l m n : ℕ) → (l + (m + n) % P) % P ≡ (l + m + n) % P
    folded l m n = omega arith

pub value-four : (z : List ℕ) (a b c d t u v w : ℕ)
    → value ((a, t) ∷ (b, u) ∷ (c, v) ∷ (d, w) ∷ []) z ≡ (a * slice_index z t + b * slice_index z u + c * slice_index z v + d * slice_index z w) % P
value-four z a b c d t u v w = value-cons a t ((b, u) ∷ (c, v) ∷ (d, w) ∷ []) z ∙ ap (λ n. (a * slice_index z t + n) % P) (value-three z b c d u v w)
    ∙ folded (a * slice_index z t) (b * slice_index z u) (c * slice_index z v) (d * slice_index z w)
  where
    folded : (k l m n : ℕ) → (k + (l + m + n) % P) % P ≡ (k + l + m + n) % P
    folded k l m n = omega arith

-- ---- where a number is 0
if_zero_by : (x h g w : ℕ) → x < P → g < P → w < P → x * h % P ≡ (g + (P - w)) % P → x * w % P ≡ 0 → w ≡ (if x == 0 then g else 0)
if_zero_by x h g w xs gs ws first second = elim (cases_eq x 0) [
  | inl none ↦
      let d : (g + (P - w)) % P ≡ 0 = sym first ∙ ap (λ n. n * h % P) none ∙ ap (λ n. n % P) (zero-mul h) in
      sym (same_of_minus g w gs ws d) ∙ sym (ap (λ b. if b then g else 0) (eq-eqb x 0 none))
  | inr some ↦ elim (p_zero_product_below x w xs ws second) [
    | inl none ↦ absurd (some none)
    | inr none ↦ none ∙ sym (ap (λ b. if b then g else 0) (ne_eqb x 0 some))
  ]
]

pub if_zero_sound : (z : List ℕ) (next : ℕ) (g x : Combination) → Assigns z → Meets z (if_zero_of g x next).list
    → slice_index z (if_zero_of g x next).answer ≡ (if value x z == 0 then value g z else 0)
unfolding if_zero_of zero_cases_of fresh put pure ◌>>=◌
if_zero_sound z next g x assigns meets =
    if_zero_by (value x z) (value (wire (next + 1)) z) (value g z) (slice_index z next) (value-below x z) (value-below g z) (wire-below assigns next)
    (meets.0 ∙ value-less g (wire next) z ∙ ap (λ n. (value g z + (P - n)) % P) (value-wire assigns next))
    (ap (λ n. value x z * n % P) (sym (value-wire assigns next)) ∙ meets.1.0)

pub if_zero_next : (g x : Combination) (next : ℕ) → (if_zero_of g x next).next ≡ next + 2
unfolding if_zero_of zero_cases_of fresh put pure ◌>>=◌
if_zero_next g x next = omega arith

pub unless_zero_by : (x h g w : ℕ) → x < P → g < P → w < P → x * h % P ≡ w → x * ((g + (P - w)) % P) % P ≡ 0 → w ≡ (if x == 0 then 0 else g)
unless_zero_by x h g w xs gs ws first second = elim (cases_eq x 0) [
  | inl none ↦ sym first ∙ ap (λ n. n * h % P) none ∙ ap (λ n. n % P) (zero-mul h) ∙ sym (ap (λ b. if b then 0 else g) (eq-eqb x 0 none))
  | inr some ↦ elim (p_zero_product_below x ((g + (P - w)) % P) xs (mod-lt _ (omega arith)) second) [
    | inl none ↦ absurd (some none)
    | inr none ↦ sym (same_of_minus g w gs ws none) ∙ sym (ap (λ b. if b then 0 else g) (ne_eqb x 0 some))
  ]
]

-- x times a hint that is its inverse times g is g, where x isn't 0
inverse_times : (x g h : ℕ) → x < P → g < P → x ≢ 0 → h ≡ inverse_of x * g % P → x * h % P ≡ g
inverse_times x g h xs gs some e = ap (λ n. x * n % P) e ∙ mul-mod_undone x (inverse_of x) g P (mul-inverse_of x (λ none. some (omega arith)))
    ∙ (let small : g % P ≡ g = omega arith in small)

times_none : (x h : ℕ) → h ≡ 0 → x * h % P ≡ 0
times_none x h e = ap (λ n. x * n % P) e ∙ ap (λ n. n % P) (mul-zero x)

itself : (a b : ℕ) → b < P → a ≡ b → (a + (P - b)) % P ≡ 0
itself a b h e = omega arith

less_none : (a b : ℕ) → a < P → b ≡ 0 → (a + (P - b)) % P ≡ a
less_none a b h e = omega arith

pub if_zero_complete : (z : List ℕ) (next : ℕ) (g x : Combination) → Assigns z → slice_index z next ≡ (if value x z == 0 then value g z else 0)
    → slice_index z (next + 1) ≡ inverse_of (value x z) * value g z % P → Meets z (if_zero_of g x next).list
unfolding if_zero_of zero_cases_of fresh put pure ◌>>=◌
if_zero_complete z next g x assigns w h =
    let gate = value-less g (wire next) z ∙ ap (λ n. (value g z + (P - n)) % P) (value-wire assigns next) in
    let both = by_cases in
    (ap (λ n. value x z * n % P) (value-wire assigns (next + 1)) ∙ both.0 ∙ sym gate, (ap (λ n. value x z * n % P) (value-wire assigns next) ∙ both.1, tt))
  where
    by_cases : (value x z * slice_index z (next + 1) % P ≡ (value g z + (P - slice_index z next)) % P) × (value x z * slice_index z next % P ≡ 0)
    by_cases = elim (cases_eq (value x z) 0) [
      | inl none ↦ (
        times_zero (value x z) _ none ∙ sym (itself (value g z) (slice_index z next) (wire-below assigns next)
            (sym (w ∙ ap (λ b. if b then value g z else 0) (eq-eqb (value x z) 0 none)))),
        times_zero (value x z) _ none,
      )
      | inr some ↦
          let no : slice_index z next ≡ 0 = w ∙ ap (λ b. if b then value g z else 0) (ne_eqb (value x z) 0 some) in (
            inverse_times (value x z) (value g z) _ (value-below x z) (value-below g z) some h ∙ sym (less_none (value g z) _ (value-below g z) no),
            times_none (value x z) _ no,
          )
    ]

pub unless_zero_complete_by : (x h g w : ℕ) → x < P → g < P → w < P → w ≡ (if x == 0 then 0 else g) → h ≡ inverse_of x * g % P → (x * h % P ≡ w)
    × (x * ((g + (P - w)) % P) % P ≡ 0)
unless_zero_complete_by x h g w xs gs ws e hint = elim (cases_eq x 0) [
  | inl none ↦ (times_zero x h none ∙ sym (e ∙ ap (λ b. if b then 0 else g) (eq-eqb x 0 none)), times_zero x _ none)
  | inr some ↦
      let same : w ≡ g = e ∙ ap (λ b. if b then 0 else g) (ne_eqb x 0 some) in
      (inverse_times x g h xs gs some hint ∙ sym same, times_none x _ (itself g w ws (sym same)))
]

-- ---- the primary tape
left_value : (z : List ℕ) (n before : ℕ) → Assigns z → value (left_in n before) z ≡ (n + (P - 1) * slice_index z before) % P
left_value z n before assigns = elim (cases_eq n 0) [
  | inl none ↦
      ap (λ b. value (if b then (P - 1, before) ∷ [] else (n, 0) ∷ (P - 1, before) ∷ []) z) (eq-eqb n 0 none)
      ∙ value-cons (P - 1) before [] z ∙ alone n (slice_index z before) none
  | inr some ↦
      ap (λ b. value (if b then (P - 1, before) ∷ [] else (n, 0) ∷ (P - 1, before) ∷ []) z) (ne_eqb n 0 some)
      ∙ value-two z n (P - 1) 0 before ∙ ap (λ m. (n * m + (P - 1) * slice_index z before) % P) assigns.one ∙ once n ((P - 1) * slice_index z before)
]
  where
    alone : (n b : ℕ) → n ≡ 0 → ((P - 1) * b + 0 % P) % P ≡ (n + (P - 1) * b) % P
    alone n b none = omega arith

    once : (n m : ℕ) → (n * 1 + m) % P ≡ (n + m) % P
    once n m = omega arith

left_number : (n t : ℕ) → t ≤ n → n < 2 ^ 29 → (n + (P - 1) * t) % P ≡ n - t
left_number n t h k = omega arith

rise_number : (b t : ℕ) → b < P → t < P → ((P - 1) * b + 1 * t) % P ≡ (t + (P - b)) % P
rise_number b t h k = omega arith

rest_number : (b r a t q : ℕ) → b < P → r < P → a < P → t < P → (r + (P - a)) % P ≡ q
    → (1 * b + 1 * r + (P - 1) * a + (P - 1) * t) % P ≡ (q + (P - (t + (P - b)) % P)) % P
rest_number b r a t q hb hr ha ht e = omega arith

-- g is the number of those that read tape 0, which is 0 or 1
module _ (z : List ℕ) (n before reads aux g : ℕ) (assigns : Assigns z) (short : n < 2 ^ 29) (within : slice_index z before ≤ n) (bit : g < 2)
    (is : (slice_index z reads + (P - slice_index z aux)) % P ≡ g) where
  abbrev b : ℕ
  b = slice_index z before

  abbrev more : ℕ
  more = if n - slice_index z before == 0 then 0 else g

  left : value (left_in n before) z ≡ n - b
  left = left_value z n before assigns ∙ left_number n b within short

  rise : (t : ℕ) → value ((P - 1, before) ∷ (1, t) ∷ []) z ≡ (slice_index z t + (P - b)) % P
  rise t = value-two z (P - 1) 1 before t ∙ rise_number b (slice_index z t) (wire-below assigns before) (wire-below assigns t)

  rest : (t : ℕ) → value ((1, before) ∷ (1, reads) ∷ (P - 1, aux) ∷ (P - 1, t) ∷ []) z ≡ (g + (P - (slice_index z t + (P - b)) % P)) % P
  rest t = value-four z 1 1 (P - 1) (P - 1) before reads aux t
      ∙ rest_number b (slice_index z reads) (slice_index z aux) (slice_index z t) g (wire-below assigns before) (wire-below assigns reads)
      (wire-below assigns aux) (wire-below assigns t) is

  more_bit : more < 2
  more_bit = choice (n - b == 0)
    where
      choice : (c : Bool) → (if c then 0 else g) < 2
      choice true = omega arith
      choice false = bit

  pub primary_sound : (next : ℕ) → Meets z (primary_of n before reads aux next).list
      → slice_index z (primary_of n before reads aux next).answer ≡ slice_index z before + (if n - slice_index z before == 0 then 0 else g)
  unfolding primary_of zero_cases_of fresh put pure ◌>>=◌
  primary_sound next meets =
      let t = slice_index z next in
      let first = ap (λ m. m * value (wire (next + 1)) z % P) (sym left) ∙ meets.0 ∙ rise next in
      let second = ap₂ (λ m k. m * k % P) (sym left) (sym (rest next)) ∙ meets.1.0 in
      let d : (t + (P - b)) % P ≡ more = unless_zero_by (n - b) (value (wire (next + 1)) z) g ((t + (P - b)) % P) (omega arith)
      (omega arith) (mod-lt _ (omega arith)) first second in
      back t more (wire-below assigns next) more_bit d
    where
      back : (t d : ℕ) → t < P → d < 2 → (t + (P - b)) % P ≡ d → t ≡ b + d
      back t d h l e = omega arith

  pub primary_complete : (next : ℕ) → slice_index z next ≡ slice_index z before + (if n - slice_index z before == 0 then 0 else g)
      → slice_index z (next + 1) ≡ inverse_of (n - slice_index z before) * g % P → Meets z (primary_of n before reads aux next).list
  unfolding primary_of zero_cases_of fresh put pure ◌>>=◌
  primary_complete next e hint =
      let t = slice_index z next in
      let d : (t + (P - b)) % P ≡ more = forth t more more_bit e in
      let both = unless_zero_complete_by (n - b) (slice_index z (next + 1)) g ((t + (P - b)) % P) (omega arith) (omega arith) (mod-lt _ (omega arith)) d hint in
      (ap₂ (λ m k. m * k % P) left (value-wire assigns (next + 1)) ∙ both.0 ∙ sym (rise next), (ap₂ (λ m k. m * k % P) left (rest next) ∙ both.1, tt))
    where
      forth : (t d : ℕ) → d < 2 → t ≡ b + d → (t + (P - b)) % P ≡ d
      forth t d l e = omega arith

-- ---- the auxiliary tape
-- either a word is taken and the tape has not ended, or none is taken and it now has
pub record Takes (asked : Bool) (before takes ended : ℕ) : Type 0 where
  pub took : takes ≡ flag_of (takes == 1)
  pub only : (takes == 1) ≡ true → asked ≡ true
  pub ends : ended ≡ (if asked then (if takes == 1 then before else 1) else before)

-- q is whether a word is asked for that has not ended
taking_by : (q : Bool) (before takes ended : ℕ) → before < P → takes < P → ended < P
    → flag_of q ≡ (takes + (ended + (P - before)) % P) % P → takes * ((ended + (P - before)) % P) % P ≡ 0 → (q ≡ true → before ≡ 0) → Takes q before takes ended
taking_by q before takes ended bs ts es sum product zeroth = elim
    (p_zero_product_below takes ((ended + (P - before)) % P) ts (mod-lt _ (omega arith)) product) [
      | inl none ↦ not_taken q none sum zeroth
      | inr none ↦ taken q none sum
    ]
  where
    not_taken : (q : Bool) → takes ≡ 0 → flag_of q ≡ (takes + (ended + (P - before)) % P) % P → (q ≡ true → before ≡ 0) → Takes q before takes ended
    not_taken q none sum zeroth =
        let test : (takes == 1) ≡ false = ap (λ n. n == 1) none in
        record {
          took = none ∙ sym (ap flag_of test);
          only = λ t. absurd (true≢false (sym t ∙ test));
          ends = ended_is q sum zeroth ∙ sym (ap (λ b. if q then (if b then before else 1) else before) test);
        }
      where
        ended_is : (q : Bool) → flag_of q ≡ (takes + (ended + (P - before)) % P) % P → (q ≡ true → before ≡ 0) → ended ≡ (if q then 1 else before)
        ended_is true sum zeroth = let b = zeroth refl in omega arith
        ended_is false sum zeroth = omega arith

    taken : (q : Bool) → (ended + (P - before)) % P ≡ 0 → flag_of q ≡ (takes + (ended + (P - before)) % P) % P → Takes q before takes ended
    taken true none sum =
        let one : takes ≡ 1 = omega arith in
        let test : (takes == 1) ≡ true = eq-eqb takes 1 one in
        record {
          took = one ∙ sym (ap flag_of test);
          only = λ t. refl;
          ends = same_of_minus ended before es bs none ∙ sym (ap (λ b. if b then before else 1) test);
        }
    taken false none sum =
        let zeroth : takes ≡ 0 = omega arith in
        let test : (takes == 1) ≡ false = ap (λ n. n == 1) zeroth in
        record { took = zeroth ∙ sym (ap flag_of test); only = λ t. absurd (true≢false (sym t ∙ test)); ends = same_of_minus ended before es bs none }

sum_number : (b t e : ℕ) → b < P → t < P → e < P → ((P - 1) * b + 1 * t + 1 * e) % P ≡ (t + (e + (P - b)) % P) % P
sum_number b t e h k l = omega arith

delta_number : (b e : ℕ) → b < P → e < P → ((P - 1) * b + 1 * e) % P ≡ (e + (P - b)) % P
delta_number b e h k = omega arith

-- the two constraints' sums, the bit being `ended` before and `after` after the step
module _ (z : List ℕ) (assigns : Assigns z) (ended takes after : ℕ) where
  sum : value ((P - 1, ended) ∷ (1, takes) ∷ (1, after) ∷ []) z ≡ (slice_index z takes + (slice_index z after + (P - slice_index z ended)) % P) % P
  sum = value-three z (P - 1) 1 1 ended takes after
      ∙ sum_number (slice_index z ended) (slice_index z takes) (slice_index z after) (wire-below assigns ended) (wire-below assigns takes)
      (wire-below assigns after)

  delta : value ((P - 1, ended) ∷ (1, after) ∷ []) z ≡ (slice_index z after + (P - slice_index z ended)) % P
  delta = value-two z (P - 1) 1 ended after ∙ delta_number (slice_index z ended) (slice_index z after) (wire-below assigns ended) (wire-below assigns after)

pub auxiliary_sound : (z : List ℕ) (next taken aux before : ℕ) (reads : Bool) → Assigns z → slice_index z aux ≡ flag_of reads → IsBit (slice_index z before)
    → Meets z (auxiliary_of taken aux before next).list
    → Takes (if reads then slice_index z before == 0 else false) (slice_index z before) (slice_index z next) (slice_index z (next + 1))
unfolding auxiliary_of fresh put pure ◌>>=◌
auxiliary_sound z next taken aux before reads assigns is bit meets =
    let b = slice_index z before in
    let left = ap₂ (λ m n. m * n % P) (sym is ∙ sym (value-wire assigns aux)) (sym (value-one_less assigns before)) ∙ meets.0
    ∙ sum z assigns before next (next + 1) in
    let right = ap₂ (λ m n. m * n % P) (sym (value-wire assigns next)) (sym (delta z assigns before next (next + 1))) ∙ meets.1.0 in
    taking_by (if reads then b == 0 else false) b (slice_index z next) (slice_index z (next + 1)) (wire-below assigns before) (wire-below assigns next)
    (wire-below assigns (next + 1)) (asked_is reads b bit ∙ left) right (zeroth reads b bit)
  where
    asked_is : (r : Bool) (b : ℕ) → IsBit b → flag_of (if r then b == 0 else false) ≡ flag_of r * ((1 + (P - b)) % P) % P
    asked_is true b bit = elim (bit_cases b bit) [ inl none ↦ rw none refl | inr one ↦ rw one refl ]
    asked_is false b bit = sym (ap (λ n. n % P) (zero-mul ((1 + (P - b)) % P)))

    zeroth : (r : Bool) (b : ℕ) → IsBit b → (if r then b == 0 else false) ≡ true → b ≡ 0
    zeroth true b bit e = elim (bit_cases b bit) [ inl none ↦ none | inr one ↦ absurd (true≢false (sym e ∙ ap (λ n. n == 0) one)) ]
    zeroth false b bit e = absurd (true≢false (sym e))

-- the numbers where a word may be taken
taking_numbers : (r t : Bool) (before ended : ℕ) → IsBit before → (t ≡ true → (r && (before == 0)) ≡ true)
    → ended ≡ (if (r && (before == 0)) && not t then 1 else before)
    → (flag_of r * ((1 + (P - before)) % P) % P ≡ (flag_of t + (ended + (P - before)) % P) % P) × (flag_of t * ((ended + (P - before)) % P) % P ≡ 0)
taking_numbers r t before ended bit asked e = elim (bit_cases before bit) [
  | inl none ↦ at_none r t (λ k. sym (ap (λ n. r && (n == 0)) none) ∙ asked k) (e ∙ ap (λ n. if (r && (n == 0)) && not t then 1 else n) none) none
  | inr one ↦ at_one r t (λ k. sym (ap (λ n. r && (n == 0)) one) ∙ asked k) (e ∙ ap (λ n. if (r && (n == 0)) && not t then 1 else n) one) one
]
  where
    at_none : (r t : Bool) → (t ≡ true → (r && true) ≡ true) → ended ≡ (if (r && true) && not t then 1 else 0) → before ≡ 0
        → (flag_of r * ((1 + (P - before)) % P) % P ≡ (flag_of t + (ended + (P - before)) % P) % P) × (flag_of t * ((ended + (P - before)) % P) % P ≡ 0)
    at_none true true asked e b = rw (b, e) (refl, refl)
    at_none true false asked e b = rw (b, e) (refl, refl)
    at_none false true asked e b = absurd (true≢false (sym (asked refl)))
    at_none false false asked e b = rw (b, e) (refl, refl)

    at_one : (r t : Bool) → (t ≡ true → (r && false) ≡ true) → ended ≡ (if (r && false) && not t then 1 else 1) → before ≡ 1
        → (flag_of r * ((1 + (P - before)) % P) % P ≡ (flag_of t + (ended + (P - before)) % P) % P) × (flag_of t * ((ended + (P - before)) % P) % P ≡ 0)
    at_one true true asked e b = absurd (true≢false (sym (asked refl)))
    at_one true false asked e b = rw (b, e) (refl, refl)
    at_one false true asked e b = absurd (true≢false (sym (asked refl)))
    at_one false false asked e b = rw (b, e) (refl, refl)

pub auxiliary_complete : (z : List ℕ) (next taken aux before : ℕ) (r t : Bool) → Assigns z → slice_index z aux ≡ flag_of r → slice_index z next ≡ flag_of t
    → IsBit (slice_index z before) → (t ≡ true → (r && (slice_index z before == 0)) ≡ true)
    → slice_index z (next + 1) ≡ (if (r && (slice_index z before == 0)) && not t then 1 else slice_index z before)
    → Meets z (auxiliary_of taken aux before next).list
unfolding auxiliary_of fresh put pure ◌>>=◌
auxiliary_complete z next taken aux before r t assigns is is_takes bit asked e =
    let both = taking_numbers r t (slice_index z before) (slice_index z (next + 1)) bit asked e in
    let change = (slice_index z (next + 1) + (P - slice_index z before)) % P in (
      ap₂ (λ m n. m * n % P) (value-wire assigns aux ∙ is) (value-one_less assigns before) ∙ both.0
          ∙ sym (sum z assigns before next (next + 1) ∙ ap (λ m. (m + change) % P) is_takes),
      (ap₂ (λ m n. m * n % P) (value-wire assigns next ∙ is_takes) (delta z assigns before next (next + 1)) ∙ both.1, tt),
    )
