-- The order of two lines by their prefixes.
use Rattle.tv_core.proofs.Common.{◌≡◌, Bool, ◌⊎◌, inl, inr, ℕ, zero, suc, ◌+◌, ◌-◌, ◌*◌, ◌/◌, ◌%◌, ◌^◌, ◌<◌, ◌≤◌, if◌then◌else◌, List, ◌∷◌, refl, sym, ◌∙◌, ap}
use Rattle.tv_core.proofs.Common.{ap₂, subst, arith, mod-lt, slice_index, eq-eqb, ne_eqb, value-less, value-cons, value-wire, wire-below, less, wire, value}
use Rattle.tv_core.proofs.Common.{Assigns, Meets, HasFrom, Line}
use Rattle.std.proofs.Common.{mul-zero, div-one}
use Rattle.std.proofs.Math.Nat.{div-le_self}
use Rattle.std.proofs.lemmas.Bool.{cases_order}
use Rattle.tv_bits.proofs.OrderLaws.{above_of_prefix, IsPrefixDifference-above, IsPrefixDifference-first, first_difference-some, first_difference-below}
use Rattle.tv_bits.proofs.PrefixLaws.{zero_product_next, zero_product_sound, zero_product_complete}
use Rattle.tv_bits.proofs.BitNumbers.{HasBits-below, HasBits-high, value-bits_below}
use Rattle.tv_bits.specs.Bits.{HasBits}
use Rattle.tv_bits.specs.Order.{prefix_difference, first_difference}
use Rattle.tv_bits.specs.Prefixes.{products_values, prefix}
use Rattle.tv_bits.specs.declared.bit_wires.Bits.{Bits}
use Rattle.tv_core.proofs.DifferenceLaws.{same_of_minus}
use Rattle.tv_core.specs.declared.field.TheConstants.{P}
use Rattle.tv_lines.specs.SortedPair.{cell_less, key_less, prefix_less, rises_of, cells_apart, size, key_less_in, prefix_less_in, factor_in}
use Rattle.tv_lines.specs.UnpackedLines.{HasWidths, HasLineBits}
use Rattle.tv_lines.specs.declared.rows.LineBits.{LineBits}

pub rises_next : (apart size : ℕ) (before after : LineBits) (next : ℕ) → (rises_of apart size before after next).next ≡ next + 3
unfolding rises_of
rises_next apart size before after next = zero_product_next (λ j. less (prefix_less apart before after j) (wire size)) 5 next

-- ---- the prefixes, as numbers
-- (cell, time) of the second line is above
abbrev pub Rises : Line → Line → Type 0
Rises l m = (l.cell < m.cell) ⊎ ((l.cell ≡ m.cell) × (l.time < m.time))

regroup : (k u v : ℕ) → v < P → ((k + u) % P + (P - v)) % P ≡ (k + (u + (P - v)) % P) % P
regroup k u v h = omega arith

-- keys at places 0 and 11, c and d being the cells and u and v what is left of the times
keys_rise : (c d u v s : ℕ) → c < 2 ^ 31 → d < 2 ^ 31 → u < 2 ^ 20 → v < 2 ^ 20 → 0 < s → s ≤ 2 ^ 11
    → (2 ^ 20 * ((d + (P - c)) % P) + (v + (P - u)) % P) % P ≡ s → ((c ≡ d) ⊎ ((c < d) ⊎ (d < c))) → (c < d) ⊎ ((c ≡ d) × (u < v))
keys_rise c d u v s hc hd hu hv some most e (inl same) = inr (same, omega arith)
keys_rise c d u v s hc hd hu hv some most e (inr (inl up)) = inl up
keys_rise c d u v s hc hd hu hv some most e (inr (inr down)) = absurd (omega arith)

high_keys_rise : (c d u v s : ℕ) → c < 2 ^ 31 → d < 2 ^ 31 → u < 2 ^ 9 → v < 2 ^ 9 → 0 < s → s ≤ 2 ^ 11
    → (2 ^ 9 * ((d + (P - c)) % P) + (v + (P - u)) % P) % P ≡ s → ((c ≡ d) ⊎ ((c < d) ⊎ (d < c))) → (c < d) ⊎ ((c ≡ d) × (u < v))
high_keys_rise c d u v s hc hd hu hv some most e (inl same) = inr (same, omega arith)
high_keys_rise c d u v s hc hd hu hv some most e (inr (inl up)) = inl up
high_keys_rise c d u v s hc hd hu hv some most e (inr (inr down)) = absurd (omega arith)

-- where some prefix of the second line is above that of the first by this, the line is
module _ (l m : Line) (cl : l.cell < 2 ^ 31) (cm : m.cell < 2 ^ 31) (tl : l.time < 2 ^ 20) (tm : m.time < 2 ^ 20) where
  cell_prefix_rises : (j s : ℕ) → j < 3 → 0 < s → s ≤ 2 ^ 11 → prefix_difference m.cell l.cell (11 * j) ≡ s → l.cell < m.cell
  cell_prefix_rises j s h some most e =
      IsPrefixDifference-above 31 11 3 m.cell l.cell s (omega arith) (omega arith) cm cl some most (record { chunk = j; within = h; is = e })

  prefix_rises : (j s : ℕ) → j < 5 → 0 < s → s ≤ 2 ^ 11 → prefix_less_in l m j ≡ s → Rises l m
  prefix_rises zero s h some most e = inl (omega arith)
  prefix_rises (suc zero) s h some most e = inl (cell_prefix_rises 1 s (omega arith) some most e)
  prefix_rises (suc (suc zero)) s h some most e = inl (cell_prefix_rises 2 s (omega arith) some most e)
  prefix_rises (suc (suc (suc zero))) s h some most e =
      elim (keys_rise l.cell m.cell (l.time / 2 ^ 0) (m.time / 2 ^ 0) s cl cm (omega arith) (omega arith) some most e (cases_order l.cell m.cell)) [
        | inl up ↦ inl up
        | inr even ↦ inr (even.0, above_of_prefix m.time l.time 0 even.1)
      ]
  prefix_rises (suc (suc (suc (suc zero)))) s h some most e =
      elim (high_keys_rise l.cell m.cell (l.time / 2 ^ 11) (m.time / 2 ^ 11) s cl cm (omega arith) (omega arith) some most e (cases_order l.cell m.cell)) [
        | inl up ↦ inl up
        | inr even ↦ inr (even.0, above_of_prefix m.time l.time 11 even.1)
      ]
  prefix_rises (suc (suc (suc (suc (suc j))))) s h some most e = absurd (omega arith)

-- ---- the other way round
-- where cells are the same the keys are apart as the times are
same_keys : (k c d t s : ℕ) → c ≡ d → c < P → t < P → t ≡ s → (k * ((d + (P - c)) % P) + t) % P ≡ s
same_keys k c d t s same small_c small_t is =
    let none : (d + (P - c)) % P ≡ 0 = omega arith in
    ap (λ n. (k * n + t) % P) none ∙ ap (λ n. (n + t) % P) (mul-zero k) ∙ omega arith

-- the size of a line that rises is that of some prefix, and from 1 to 2 ^ 11
pub record IsSize (l m : Line) : Type 0 where
  pub some : 0 < size l m
  pub most : size l m ≤ 2 ^ 11
  pub place : ℕ
  pub within : place < 5
  pub is : prefix_less_in l m place ≡ size l m

cell_place : (l m : Line) (j : ℕ) → j < 3 → prefix_less_in l m j ≡ prefix_difference m.cell l.cell (11 * j)
cell_place l m zero h = ap₂ (λ a b. (a + (P - b)) % P) (sym (div-one m.cell)) (sym (div-one l.cell))
cell_place l m (suc zero) h = refl
cell_place l m (suc (suc zero)) h = refl
cell_place l m (suc (suc (suc j))) h = absurd (omega arith)

key_place : (l m : Line) (j : ℕ) → j < 2 → prefix_less_in l m (j + 3) ≡ (2 ^ (20 - 11 * j) * cells_apart l m + prefix_difference m.time l.time (11 * j)) % P
key_place l m zero h = refl
key_place l m (suc zero) h = refl
key_place l m (suc (suc j)) h = absurd (omega arith)

module _ (l m : Line) (cl : l.cell < 2 ^ 31) (cm : m.cell < 2 ^ 31) (tm : m.time < 2 ^ 20) where
  abbrev size_by : Bool → ℕ
  size_by same = if same then first_difference 11 2 m.time l.time else first_difference 11 3 m.cell l.cell

  rising_size : Rises l m → IsSize l m
  rising_size (inl up) =
      let e : size l m ≡ first_difference 11 3 m.cell l.cell = ap size_by (ne_eqb l.cell m.cell (omega arith)) in
      let some = first_difference-some 31 11 3 m.cell l.cell (omega arith) (omega arith) cm up in
      let most = first_difference-below 31 11 3 m.cell l.cell (omega arith) (omega arith) cm up in
      let i = IsPrefixDifference-first 31 11 3 m.cell l.cell (omega arith) (omega arith) cm up in
      record { some = omega arith; most = omega arith; place = i.chunk; within = omega (arith, i.within); is = cell_place l m i.chunk i.within ∙ i.is ∙ sym e }
  rising_size (inr even) =
      let e : size l m ≡ first_difference 11 2 m.time l.time = ap size_by (eq-eqb l.cell m.cell even.0) in
      let some = first_difference-some 20 11 2 m.time l.time (omega arith) (omega arith) tm even.1 in
      let most = first_difference-below 20 11 2 m.time l.time (omega arith) (omega arith) tm even.1 in
      let i = IsPrefixDifference-first 20 11 2 m.time l.time (omega arith) (omega arith) tm even.1 in
      record {
        some = omega arith;
        most = omega arith;
        place = i.chunk + 3;
        within = omega (arith, i.within);
        is = key_place l m i.chunk i.within ∙ same_keys (2 ^ (20 - 11 * i.chunk)) l.cell m.cell (prefix_difference m.time l.time (11 * i.chunk))
            (size l m) even.0 (omega arith) (mod-lt _ (omega arith)) (i.is ∙ sym e);
      }

-- ---- the prefixes of bits
value_from : (z : List ℕ) (x : Bits) (p v : ℕ) → p ≤ x.n → x.n ≤ 63 → HasBits z x.first x.n v → value (prefix x p) z ≡ v / 2 ^ p
value_from z x p v within short s =
    let whole : x.n ≡ p + (x.n - p) = omega arith in
    value-bits_below (HasBits-high z x.first p (x.n - p) v (subst (λ n. HasBits z x.first n v) whole s)) (omega arith)

module _ (z : List ℕ) (before after : LineBits) (l m : Line) (b : HasWidths before) (a : HasWidths after) (assigns : Assigns z) (sl : HasLineBits z before l)
    (sm : HasLineBits z after m) where
  row : (x : Bits) (n v : ℕ) → x.n ≡ n → HasBits z x.first n v → HasBits z x.first x.n v
  row x n v width s = subst (λ k. HasBits z x.first k v) (sym width) s

  cell_value : (p : ℕ) → p ≤ 31 → value (cell_less before after p) z ≡ prefix_difference m.cell l.cell p
  cell_value p h =
      value-less (prefix after.cell p) (prefix before.cell p) z
      ∙ ap₂ (λ x y. (x + (P - y)) % P) (value_from z after.cell p m.cell (omega (arith, a.cell)) (omega (arith, a.cell))
      (row after.cell 31 m.cell a.cell sm.cell))
      (value_from z before.cell p l.cell (omega (arith, b.cell)) (omega (arith, b.cell)) (row before.cell 31 l.cell b.cell sl.cell))

  key_value : (apart p : ℕ) → p ≤ 20 → slice_index z apart ≡ cells_apart l m → value (key_less apart before after p) z ≡ key_less_in l m p
  key_value apart p h is =
      let small : l.time / 2 ^ p < P = omega (arith, div-le_self l.time (2 ^ p), HasBits-below sl.time) in
      value-less ((2 ^ (20 - p), apart) ∷ prefix after.time p) (prefix before.time p) z
      ∙ ap₂ (λ x y. (x + (P - y)) % P)
      (value-cons (2 ^ (20 - p)) apart (prefix after.time p) z
      ∙ ap₂ (λ x y. (2 ^ (20 - p) * x + y) % P) is
      (value_from z after.time p m.time (omega (arith, a.time)) (omega (arith, a.time)) (row after.time 20 m.time a.time sm.time)))
      (value_from z before.time p l.time (omega (arith, b.time)) (omega (arith, b.time)) (row before.time 20 l.time b.time sl.time))
      ∙ regroup (2 ^ (20 - p) * cells_apart l m) (m.time / 2 ^ p) (l.time / 2 ^ p) small

  prefix_value : (apart : ℕ) → slice_index z apart ≡ cells_apart l m → (j : ℕ) → j < 5 → value (prefix_less apart before after j) z ≡ prefix_less_in l m j
  prefix_value apart is zero h = value-wire assigns apart ∙ is
  prefix_value apart is (suc zero) h = cell_value 11 (omega arith)
  prefix_value apart is (suc (suc zero)) h = cell_value 22 (omega arith)
  prefix_value apart is (suc (suc (suc zero))) h = key_value apart 0 (omega arith) is
  prefix_value apart is (suc (suc (suc (suc zero)))) h = key_value apart 11 (omega arith) is
  prefix_value apart is (suc (suc (suc (suc (suc j))))) h = absurd (omega arith)

  factor_value : (apart s : ℕ) → slice_index z apart ≡ cells_apart l m → (j : ℕ) → j < 5
      → value (less (prefix_less apart before after j) (wire s)) z ≡ (prefix_less_in l m j + (P - slice_index z s)) % P
  factor_value apart s is j h =
      value-less (prefix_less apart before after j) (wire s) z ∙ ap₂ (λ x y. (x + (P - y)) % P) (prefix_value apart is j h) (value-wire assigns s)

  prefix_small : (j : ℕ) → j < 5 → prefix_less_in l m j < P
  prefix_small zero h = mod-lt _ (omega arith)
  prefix_small (suc zero) h = mod-lt _ (omega arith)
  prefix_small (suc (suc zero)) h = mod-lt _ (omega arith)
  prefix_small (suc (suc (suc zero))) h = mod-lt _ (omega arith)
  prefix_small (suc (suc (suc (suc zero)))) h = mod-lt _ (omega arith)
  prefix_small (suc (suc (suc (suc (suc j))))) h = absurd (omega arith)

  pub rises_sound : (apart s next : ℕ) → slice_index z apart ≡ cells_apart l m → 0 < slice_index z s → slice_index z s ≤ 2 ^ 11
      → Meets z (rises_of apart s before after next).list → Rises l m
  unfolding rises_of
  rises_sound apart s next is some most meets =
      let found = zero_product_sound z (λ j. less (prefix_less apart before after j) (wire s)) 5 next (omega arith) assigns meets in
      let none = sym (factor_value apart s is found.0 found.1) ∙ found.2 in
      let e = same_of_minus (prefix_less_in l m found.0) (slice_index z s) (prefix_small found.0 found.1) (wire-below assigns s) none in
      prefix_rises l m (HasBits-below sl.cell) (HasBits-below sm.cell) (HasBits-below sl.time) (HasBits-below sm.time) found.0
      (slice_index z s) found.1 some most e

  pub is_size : Rises l m → IsSize l m
  is_size = rising_size l m (HasBits-below sl.cell) (HasBits-below sm.cell) (HasBits-below sm.time)

  pub rises_complete : (apart s next : ℕ) → slice_index z apart ≡ cells_apart l m → slice_index z s ≡ size l m → Rises l m
      → HasFrom z next (products_values (factor_in l m) 5) → Meets z (rises_of apart s before after next).list
  unfolding rises_of
  rises_complete apart s next is sized rises has =
      let i = is_size rises in
      let small = wire-below assigns s in
      let none : factor_in l m i.place ≡ 0 = omega (arith, i.is, i.most) in
      zero_product_complete z (λ j. less (prefix_less apart before after j) (wire s)) (factor_in l m) 5 i.place next (omega arith) assigns
      (λ j h. factor_value apart s is j h ∙ ap (λ v. (prefix_less_in l m j + (P - v)) % P) sized) i.within none has
