-- What goes through a network comes out in another order.
use Rattle.tv_core.proofs.Common.{◌≡◌, ℕ, zero, suc, ◌+◌, ◌*◌, ◌/◌, ◌%◌, ◌^◌, ◌<◌, ◌==◌, Bool, true, false, if◌then◌else◌, List, [], ◌∷◌, ◌++◌, length, get_or}
use Rattle.tv_core.proofs.Common.{map, refl, sym, subst, ◌∙◌, ap, ap₂, arith, append_assoc, add-one, range_with_len}
use Rattle.std.proofs.Common.{IsPermutation, zero-add}
use Rattle.std.proofs.lemmas.List.FromFn.{length-map-range_with_len, get_or-map-range_with_len, map-range_with_len_more}
use Rattle.std.proofs.lemmas.List.Sorted.{IsPermutation-refl, IsPermutation-sym, IsPermutation-trans, IsPermutation-middle, IsPermutation-swap}
use Rattle.std.proofs.lemmas.List.Sorted.{IsPermutation-append}
use Rattle.tv_benes.proofs.ThroughLaws.{twice}
use Rattle.tv_benes.specs.Through.{switches, from, passed, to_upper, to_lower, alternating, joined, last_bit, through, places, NumbersArePermuted}
use Rattle.tv_benes.specs.Through.{PairsArePermuted}
use Rattle.tv_benes.specs.declared.shape.Net.{Net}

module _ {X : Type 0} where
  pub places-zero : (f : ℕ → X) → places 0 f ≡ []
  unfolding places
  places-zero f = refl

  pub places-suc : (n : ℕ) (f : ℕ → X) → places (suc n) f ≡ places n f ++ f n ∷ []
  unfolding places
  places-suc n f = ap (λ m. map f (range_with_len 0 m)) (sym (add-one n)) ∙ map-range_with_len_more f 0 n n (zero-add n)

  pub places-length : (n : ℕ) (f : ℕ → X) → length (places n f) ≡ n
  unfolding places
  places-length n f = length-map-range_with_len f 0 n

  pub places-at : (n i : ℕ) (f : ℕ → X) (d : X) → i < n → get_or (places n f) i d ≡ f i
  unfolding places
  places-at n i f d h = get_or-map-range_with_len f 0 n i i d h (omega arith)

  pub places-same : (n : ℕ) (f g : ℕ → X) → ((j : ℕ) → j < n → f j ≡ g j) → places n f ≡ places n g
  places-same zero f g same = places-zero f ∙ sym (places-zero g)
  places-same (suc n) f g same =
      places-suc n f ∙ ap₂ (λ xs x. xs ++ x ∷ []) (places-same n f g (λ j h. same j (omega arith))) (same n (omega arith)) ∙ sym (places-suc n g)

  places-two : (n : ℕ) (f : ℕ → X) → places (2 * suc n) f ≡ places (2 * n) f ++ f (2 * n) ∷ f (2 * n + 1) ∷ []
  places-two n f =
      let same : 2 * suc n ≡ suc (suc (2 * n)) = omega arith in
      let next : suc (2 * n) ≡ 2 * n + 1 = omega arith in
      ap (λ k. places k f) same ∙ places-suc (suc (2 * n)) f ∙ ap₂ (λ l k. l ++ f k ∷ []) (places-suc (2 * n) f) next ∙ append_assoc (places (2 * n) f) _ _

  pub alternating-even : (a b : ℕ → X) (n : ℕ) → alternating a b (2 * n) ≡ a n
  alternating-even a b n =
      let none : 2 * n % 2 ≡ 0 = omega arith in
      let half : 2 * n / 2 ≡ n = omega arith in
      ap₂ (λ r k. if r == 0 then a k else b k) none half

  pub alternating-odd : (a b : ℕ → X) (n : ℕ) → alternating a b (2 * n + 1) ≡ b n
  alternating-odd a b n =
      let one : (2 * n + 1) % 2 ≡ 1 = omega arith in
      let half : (2 * n + 1) / 2 ≡ n = omega arith in
      ap₂ (λ r k. if r == 0 then a k else b k) one half

  crossed : (b : Bool) (x y : X) → IsPermutation (x ∷ y ∷ []) (passed b x y ∷ passed b y x ∷ [])
  crossed true x y = IsPermutation-swap (x ∷ y ∷ []) (y ∷ x ∷ []) 0 1 (omega arith) (omega arith) refl
  crossed false x y = IsPermutation-refl (x ∷ y ∷ [])

  -- the last of two lists move to the end
  apart : (us ls : List X) (u l : X) → IsPermutation ((us ++ u ∷ []) ++ (ls ++ l ∷ [])) ((us ++ ls) ++ u ∷ l ∷ [])
  apart us ls u l =
      subst (λ xs. IsPermutation xs ((us ++ ls) ++ u ∷ l ∷ [])) (sym (append_assoc us (u ∷ []) (ls ++ l ∷ [])))
      (subst (λ xs. IsPermutation (us ++ (u ∷ (ls ++ l ∷ []))) xs) (sym (append_assoc us ls (u ∷ l ∷ [])))
      (IsPermutation-append us us (u ∷ (ls ++ l ∷ [])) (ls ++ u ∷ l ∷ []) (IsPermutation-refl us) (IsPermutation-sym _ _ (IsPermutation-middle ls u (l ∷ [])))))

  column_in : (n : ℕ) (bit : ℕ → Bool) (item : ℕ → X) → IsPermutation (places (2 * n) item) (places n (to_upper bit item) ++ places n (to_lower bit item))
  unfolding places
  column_in zero bit item = IsPermutation-refl []
  column_in (suc n) bit item =
      let us = places n (to_upper bit item) in
      let ls = places n (to_lower bit item) in
      let a = item (2 * n) in
      let b = item (2 * n + 1) in
      let moved : IsPermutation (places (2 * n) item ++ a ∷ b ∷ []) ((us ++ ls) ++ to_upper bit item n ∷ to_lower bit item n ∷ []) =
      IsPermutation-append _ _ _ _ (column_in n bit item) (crossed (bit n) a b) in
      subst (λ xs. IsPermutation xs (places (suc n) (to_upper bit item) ++ places (suc n) (to_lower bit item))) (sym (places-two n item))
      (subst (λ xs. IsPermutation (places (2 * n) item ++ a ∷ b ∷ []) xs)
      (ap₂ (λ xs ys. xs ++ ys) (sym (places-suc n (to_upper bit item))) (sym (places-suc n (to_lower bit item))))
      (IsPermutation-trans _ _ _ moved (IsPermutation-sym _ _ (apart us ls (to_upper bit item n) (to_lower bit item n)))))

  column_out : (n : ℕ) (bit : ℕ → Bool) (u l : ℕ → X) → IsPermutation (places n u ++ places n l) (places (2 * n) (joined bit u l))
  unfolding places
  column_out zero bit u l = IsPermutation-refl []
  column_out (suc n) bit u l =
      let us = places n u in
      let ls = places n l in
      let one : ℕ → X = λ j. passed (bit j) (u j) (l j) in
      let two : ℕ → X = λ j. passed (bit j) (l j) (u j) in
      let moved : IsPermutation ((us ++ ls) ++ u n ∷ l n ∷ []) (places (2 * n) (joined bit u l) ++ one n ∷ two n ∷ []) =
      IsPermutation-append _ _ _ _ (column_out n bit u l) (crossed (bit n) (u n) (l n)) in
      let ends : places (2 * n) (joined bit u l) ++ one n ∷ two n ∷ [] ≡ places (2 * suc n) (joined bit u l) =
      ap₂ (λ x y. places (2 * n) (joined bit u l) ++ x ∷ y ∷ []) (sym (alternating-even one two n)) (sym (alternating-odd one two n))
      ∙ sym (places-two n (joined bit u l)) in
      subst (λ xs. IsPermutation xs (places (2 * suc n) (joined bit u l))) (ap₂ (λ xs ys. xs ++ ys) (sym (places-suc n u)) (sym (places-suc n l)))
      (subst (λ xs. IsPermutation ((us ++ u n ∷ []) ++ (ls ++ l n ∷ [])) xs) ends
      (IsPermutation-trans _ _ _ (apart us ls (u n) (l n)) moved))

  pub through_permutes : (net : Net) (h : ℕ) (bit : ℕ → Bool) (item : ℕ → X)
      → IsPermutation (places (2 ^ suc h) item) (places (2 ^ suc h) (through net h bit item))
  unfolding through places
  through_permutes net zero bit item = crossed (bit 0) (item 0) (item 1)
  through_permutes net (suc h) bit item =
      let n = 2 ^ suc h in
      let s = switches net h in
      let up = to_upper bit item in
      let low = to_lower bit item in
      let u = through net h (from n bit) up in
      let l = through net h (from (n + s) bit) low in
      let halves : IsPermutation (places n up ++ places n low) (places n u ++ places n l) =
      IsPermutation-append _ _ _ _ (through_permutes net h (from n bit) up) (through_permutes net h (from (n + s) bit) low) in
      subst (λ m. IsPermutation (places m item) (places m (through net (suc h) bit item))) (sym (twice (suc h)))
      (IsPermutation-trans _ _ _ (column_in n bit item) (IsPermutation-trans _ _ _ halves (column_out n (last_bit net (from (n + 2 * s) bit)) u l)))

pub numbers_permuted : NumbersArePermuted
numbers_permuted net h bit item = through_permutes net h bit item

pub pairs_permuted : PairsArePermuted
pairs_permuted net h bit item = through_permutes net h bit item

pub ruleset permuted = (numbers_permuted, pairs_permuted)
