-- Where each slot stands in a permutation of the slots.
use Rattle.std.proofs.Common.{◌≡◌, ◌≢◌, ℕ, zero, suc, ◌%◌, ◌^◌, ◌<◌, ◌≤◌, inl, inr, Bool, if◌then◌else◌, refl, sym, ◌∙◌, ap, arith, eq-eqb}
use Rattle.std.proofs.Common.{List, [], ◌∷◌, length, slice_index}
use Rattle.std.proofs.lemmas.Bool.{cases_lt, lt-ltb, le-ltb, ne_eqb}
use Rattle.std.proofs.lemmas.List.{ext_get_or}
use Rattle.tv_stages.specs.Settings.{index_in, backs}
use Rattle.tv_stages.specs.Walks.{spread, AreInverse}
use Rattle.tv_stages.specs.Stages.{IsReordering}
use Rattle.tv_stages.proofs.Shuffles.{keeps_below, turned}
use Rattle.tv_stages.proofs.Reorders.{places-length, places-at}

pub spread_in : (L : ℕ) (l : List ℕ) (x : ℕ) → x < L → spread L l x ≡ slice_index l x
unfolding spread
spread_in L l x h = ap (λ (b : Bool). if b then slice_index l x else x) (lt-ltb x L h)

pub spread_out : (L : ℕ) (l : List ℕ) (x : ℕ) → L ≤ x → spread L l x ≡ x
unfolding spread
spread_out L l x h = ap (λ (b : Bool). if b then slice_index l x else x) (le-ltb x L h)

pub index_at : (q : List ℕ) (i : ℕ) → i < length q → ((j : ℕ) → j < i → slice_index q j ≢ slice_index q i) → index_in (slice_index q i) q ≡ i
index_at [] i h other = absurd (omega arith)
index_at (x ∷ xs) zero h other = ap (λ (b : Bool). if b then 0 else suc (index_in x xs)) (eq-eqb x x refl)
index_at (x ∷ xs) (suc i) h other =
    let y = slice_index xs i in
    ap (λ (b : Bool). if b then 0 else suc (index_in y xs)) (ne_eqb x y (other 0 (omega arith)))
    ∙ ap (λ n. suc n) (index_at xs i (omega arith) (λ j k. other (suc j) (omega arith)))

-- a permutation of the slots and what leads back are inverse
pub inverse_of : (L d : ℕ) (q r : List ℕ) → length q ≡ L → length r ≡ L → IsReordering L (λ i. slice_index q i)
    → ((x : ℕ) → x < L → slice_index r (slice_index q x) ≡ x) → ((x : ℕ) → x < L → slice_index q x % 2 ^ d ≡ x % 2 ^ d) → AreInverse L d q r
inverse_of L d q r long back_long perm back class = record {
  long = long;
  back_long = back_long;
  is = record {
    there = λ x. elim (cases_lt x L) [
      | inl h ↦
          let y = perm.back x in
          let y_in = perm.back_below x h in
          let at : slice_index r x ≡ y = ap (λ z. slice_index r z) (sym (perm.there x h)) ∙ back y y_in in
          ap (λ z. spread L q z) (spread_in L r x h ∙ at) ∙ spread_in L q y y_in ∙ perm.there x h
      | inr h ↦ ap (λ z. spread L q z) (spread_out L r x h) ∙ spread_out L q x h
    ];
    back = λ x. elim (cases_lt x L) [
      | inl h ↦ ap (λ z. spread L r z) (spread_in L q x h) ∙ spread_in L r (slice_index q x) (perm.below x h) ∙ back x h
      | inr h ↦ ap (λ z. spread L r z) (spread_out L q x h) ∙ spread_out L r x h
    ];
    rest = λ x h. spread_out L q x h;
    class = λ x. elim (cases_lt x L) [
      | inl h ↦ ap (λ y. y % 2 ^ d) (spread_in L q x h) ∙ class x h
      | inr h ↦ ap (λ y. y % 2 ^ d) (spread_out L q x h)
    ];
  };
}

-- where x stands first is where an inverse says
pub index_is : (L d : ℕ) (q r : List ℕ) → AreInverse L d q r → (x : ℕ) → x < L → index_in x q ≡ slice_index r x
index_is L d q r inv x h =
    let y = spread L r x in
    let y_in : y < L = keeps_below L d (λ z. spread L r z) (λ z. spread L q z) (turned L d (λ z. spread L q z) (λ z. spread L r z) inv.is) x h in
    let there : slice_index q y ≡ x = sym (spread_in L q y y_in) ∙ inv.is.there x in
    let first : (j : ℕ) → j < y → slice_index q j ≢ slice_index q y = λ j less e.
    let same : j ≡ y = sym (inv.is.back j) ∙ ap (λ z. spread L r z) (spread_in L q j (omega arith) ∙ e ∙ there) in absurd (omega arith) in
    ap (λ z. index_in z q) (sym there) ∙ index_at q y (let long = inv.long in omega arith) first ∙ spread_in L r x h

pub inverted : (L d : ℕ) (q : List ℕ) → length q ≡ L → IsReordering L (λ i. slice_index q i) → ((x : ℕ) → x < L → slice_index q x % 2 ^ d ≡ x % 2 ^ d)
    → AreInverse L d q (backs q)
inverted L d q long perm class =
    inverse_of L d q (backs q) long (places-length (length q) (λ x. index_in x q) ∙ long) perm
    (λ x h. places-at (length q) (slice_index q x) (λ y. index_in y q) 0 (let b = perm.below x h in omega arith)
    ∙ index_at q x (omega arith) (λ j less e. absurd (let same = perm.once j x (omega arith) h e in omega arith))) class

-- as the code makes it
pub backs_are : (q r : List ℕ) → IsReordering (length q) (λ i. slice_index q i) → length r ≡ length q
    → ((x : ℕ) → x < length q → slice_index r (slice_index q x) ≡ x) → r ≡ backs q
backs_are q r perm long back =
    let L = length q in
    let inv = inverse_of L 0 q r refl long perm back (λ x h. omega arith) in
    ext_get_or 0 r (backs q) (long ∙ sym (places-length L (λ x. index_in x q)))
    (λ x h. sym (places-at L x (λ y. index_in y q) 0 (omega (arith, long)) ∙ index_is L 0 q r inv x (omega (arith, long))))
