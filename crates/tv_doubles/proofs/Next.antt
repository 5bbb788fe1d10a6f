-- Keys that rise from each place to its image in a permutation, but at one place: the image has the next key.
use Rattle.std.proofs.Common.{◌≡◌, ◌≢◌, ◌⊎◌, ℕ, suc, ◌+◌, ◌<◌, ◌≤◌, inl, inr, sym, ap, ◌∙◌, arith}
use Rattle.std.proofs.lemmas.Bool.{cases_eq}
use Rattle.tv_doubles.proofs.Counts.{total, total_permuted, at, at_same, at_other, crossing, past, past_most, past_from, past_before, past_rises}
use Rattle.tv_doubles.specs.Places.{PermutesPlaces}

-- each key but that at a rises, or its place stays
pub record Rises (n a : ℕ) (p key : ℕ → ℕ) : Type 0 where
  pub exempt : a < n
  pub permutes : PermutesPlaces n p
  pub rises : (i : ℕ) → i < n → i ≢ a → (key i < key (p i)) ⊎ (p i ≡ i)

module _ (n a : ℕ) (p key : ℕ → ℕ) (h : Rises n a p key) where
  -- how many keys are above that of q, over the places and over their images
  abbrev f : ℕ → ℕ → ℕ
  f q j = past (suc (key q)) (key j)

  abbrev g : ℕ → ℕ → ℕ
  g q j = past (suc (key q)) (key (p j))

  same_total : (q : ℕ) → total n (f q) ≡ total n (g q)
  same_total q = sym (total_permuted n p (λ i. past (suc (key q)) (key i)) h.permutes)

  no_fall : (q i : ℕ) → i < n → i ≢ a → f q i ≤ g q i
  no_fall q i k other = elim (h.rises i k other) [
    | inl up ↦ past_rises (suc (key q)) (key i) (key (p i)) (omega arith)
    | inr same ↦ (let s : key (p i) ≡ key i = ap key same in past_rises (suc (key q)) (key i) (key (p i)) (omega arith))
  ]

  -- at q itself the images gain one, where q moves
  gain : (q j : ℕ) → (q ≢ a → key q < key (p q)) → j ≡ q → j ≢ a → f q j + 1 ≤ g q j
  gain q j moves e other =
      let s : key j ≡ key q = ap key e in
      let t : key (p j) ≡ key (p q) = ap (λ y. key (p y)) e in
      let m = moves (λ x. other (e ∙ x)) in
      omega (arith, past_before (suc (key q)) (key j) (omega arith), past_from (suc (key q)) (key (p j)) (omega arith))

  none_at : (q j : ℕ) → j ≡ q → f q j ≡ 0
  none_at q j e = let s : key j ≡ key q = ap key e in past_before (suc (key q)) (key j) (omega arith)

  -- between a key and that of the place's image there is none of a place that moves
  pub none_between : (i q : ℕ) → i < n → i ≢ a → q < n → (q ≢ a → key q < key (p q)) → key i < key q → key q < key (p i) → ⊥
  none_between i q hi other hq moves low high =
      crossing n a i q (f q) (g q) h.exempt hi hq (same_total q) (λ j m. by j m (cases_eq j a) (cases_eq j i) (cases_eq j q))
    where
      apart : i ≢ q
      apart same = let s : key i ≡ key q = ap key same in omega arith

      by : (j : ℕ) → j < n → ((j ≡ a) ⊎ (j ≢ a)) → ((j ≡ i) ⊎ (j ≢ i)) → ((j ≡ q) ⊎ (j ≢ q)) → f q j + at i j + at q j ≤ g q j + at a j
      by j m x (inl e) (inl y) = absurd (apart (sym e ∙ y))
      by j m (inl x) (inl e) (inr y) = absurd (other (sym e ∙ x))
      by j m (inr x) (inl e) (inr y) =
          let s : key j ≡ key i = ap key e in
          let t : key (p j) ≡ key (p i) = ap (λ y. key (p y)) e in
          omega (arith, at_same i j e, at_other q j y, past_before (suc (key q)) (key j) (omega arith), past_from (suc (key q)) (key (p j)) (omega arith))
      by j m (inl x) (inr e) (inl y) = omega (arith, at_other i j e, at_same q j y, at_same a j x, none_at q j y)
      by j m (inr x) (inr e) (inl y) = omega (arith, at_other i j e, at_same q j y, gain q j moves y x)
      by j m (inl x) (inr e) (inr y) = omega (arith, at_other i j e, at_other q j y, at_same a j x, past_most (suc (key q)) (key j))
      by j m (inr x) (inr e) (inr y) = omega (arith, at_other i j e, at_other q j y, no_fall q j m x)

  -- below that of a's image there is none
  pub none_below : (q : ℕ) → q < n → (q ≢ a → key q < key (p q)) → key q < key (p a) → ⊥
  none_below q hq moves low =
      crossing n a a q (f q) (g q) h.exempt h.exempt hq (same_total q) (λ j m. by j m (cases_eq j a) (cases_eq j q))
    where
      high : (j : ℕ) → j ≡ a → g q j ≡ 1
      high j e = let t : key (p j) ≡ key (p a) = ap (λ y. key (p y)) e in past_from (suc (key q)) (key (p j)) (omega arith)

      by : (j : ℕ) → j < n → ((j ≡ a) ⊎ (j ≢ a)) → ((j ≡ q) ⊎ (j ≢ q)) → f q j + at a j + at q j ≤ g q j + at a j
      by j m (inl x) (inl y) = omega (arith, at_same q j y, none_at q j y, high j x)
      by j m (inl x) (inr y) = omega (arith, at_other q j y, past_most (suc (key q)) (key j), high j x)
      by j m (inr x) (inl y) = omega (arith, at_same q j y, gain q j moves y x)
      by j m (inr x) (inr y) = omega (arith, at_other q j y, no_fall q j m x)
