-- Chained double lines are honest.
use Rattle.std.proofs.Common.{◌≡◌, ◌≢◌, ◌⊎◌, ℕ, ◌^◌, ◌<◌, inl, inr, sym, ap, subst, ◌∙◌, arith}
use Rattle.std.proofs.lemmas.Bool.{cases_eq, cases_order}
use Rattle.tv_doubles.proofs.Counts.{permuted_below}
use Rattle.tv_doubles.proofs.Places.{preimage}
use Rattle.tv_doubles.proofs.Latest.{Latest, NoneBefore, latest}
use Rattle.tv_doubles.proofs.Next.{Rises, none_between, none_below}
use Rattle.tv_doubles.specs.Chain.{Stays, Chained, ChainIsHonest}
use Rattle.tv_doubles.specs.Doubles.{DoubleLine, Succeeds, HonestDoubles, before, key, no_words}

-- the key rises from a line to its successor
pub succeeds_rises : (line : ℕ → DoubleLine) (i j : ℕ) → i < 2 ^ 20 → j < 2 ^ 20 → Succeeds (line i) i (line j) j → key line i < key line j
succeeds_rises line i j h k s = omega (arith, s.rises)

module _ (n a : ℕ) (p : ℕ → ℕ) (line : ℕ → DoubleLine) (h : Chained n a p line) where
  abbrev k : ℕ → ℕ
  k i = key line i

  small : (i : ℕ) → i < n → i < 2 ^ 20
  small i x = omega (arith, h.few)

  up : (i : ℕ) → i < n → Succeeds (line i) i (line (p i)) (p i) → k i < k (p i)
  up i x s = succeeds_rises line i (p i) (small i x) (small (p i) (permuted_below n p h.permutes i x)) s

  rises : Rises n a p k
  rises = record {
    exempt = h.exempt;
    permutes = h.permutes;
    rises = λ i x other. elim (h.each i x other) [ inl s ↦ inl (up i x s) | inr s ↦ inr s.itself ];
  }

  -- a place moves, or stays
  moves : (b : ℕ) → b < n → (b ≢ a → k b < k (p b)) ⊎ Stays p line b
  moves b x = elim (cases_eq b a) [
    | inl e ↦ inl (λ other. absurd (other e))
    | inr other ↦ elim (h.each b x other) [ inl s ↦ inl (λ _. up b x s) | inr s ↦ inr s ]
  ]

  -- an earlier line of the cell has a lower key
  lower : (b j : ℕ) → b < j → (line b).cell ≡ (line j).cell → k b < k j
  lower b j x e = omega arith

  abbrev Found : ℕ → Type 0
  Found j = Latest line j (line j).cell ⊎ NoneBefore line j (line j).cell

  -- the image of a
  begins : (j : ℕ) → j < n → p a ≡ j → Found j → (line j).old ≡ before line j (line j).cell
  begins j x e found = ap (λ i. (line i).old) (sym e) ∙ h.begins ∙ sym (value found)
    where
      value : Found j → before line j (line j).cell ≡ no_words
      value (inr w) = w.value
      value (inl w) =
          let b = w.place in
          let y : b < n = omega (arith, w.earlier) in
          let low = lower b j w.earlier w.cell in
          let to : k (p a) ≡ k j = ap k e in
          elim (moves b y) [
            | inl m ↦ absurd (none_below n a p k rises b y m (omega arith))
            | inr s ↦ w.value ∙ s.new
          ]

  -- a place that stays
  stays : (j : ℕ) → Stays p line j → Found j → (line j).old ≡ before line j (line j).cell
  stays j s (inr w) = s.old ∙ sym w.value
  stays j s (inl w) = absurd (s.first w.place w.earlier w.cell)

  -- the image of another place
  succeeds : (i j : ℕ) → i < n → j < n → i ≢ a → p i ≡ j → Succeeds (line i) i (line j) j → Found j → (line j).old ≡ before line j (line j).cell
  succeeds i j x y other e s (inr w) =
      s.fresh (λ same. w.none i (omega (arith, s.rises)) same) ∙ sym w.value
  succeeds i j x y other e s (inl w) = by (cases_eq (line i).cell (line j).cell) (cases_order i b) (moves b z)
    where
      b : ℕ
      b = w.place

      z : b < n
      z = omega (arith, w.earlier)

      to : k (p i) ≡ k j
      to = ap k e

      low : k b < k j
      low = lower b j w.earlier w.cell

      by : ((line i).cell ≡ (line j).cell) ⊎ ((line i).cell ≢ (line j).cell) → ((i ≡ b) ⊎ ((i < b) ⊎ (b < i)))
          → (b ≢ a → k b < k (p b)) ⊎ Stays p line b → (line j).old ≡ before line j (line j).cell
      by (inl same) (inl here) m = s.carried same ∙ ap (λ i. (line i).new) here ∙ sym w.value
      by (inl same) (inr (inl early)) (inl m) =
          absurd (none_between n a p k rises i b x other z m (lower i b early (same ∙ sym w.cell)) (omega (arith, low, to)))
      by (inl same) (inr (inl early)) (inr m) = absurd (m.first i early (same ∙ sym w.cell))
      by (inl same) (inr (inr late)) m = absurd (w.none i late (omega (arith, s.rises)) same)
      by (inr apart) o (inl m) = absurd (none_between n a p k rises i b x other z m (omega (arith, s.rises, w.cell, small i x)) (omega (arith, low, to)))
      by (inr apart) o (inr m) = s.fresh apart ∙ sym m.new ∙ sym w.value

  honest : HonestDoubles n line
  honest j y = by (preimage n p h.permutes j y)
    where
      by : (i : ℕ) × (i < n) × (p i ≡ j) → (line j).old ≡ before line j (line j).cell
      by (i, x, e) = elim (cases_eq i a) [
        | inl same ↦ begins j y (ap p (sym same) ∙ e) (latest line (line j).cell j)
        | inr other ↦ elim (h.each i x other) [
          | inl s ↦ succeeds i j x y other e (subst (λ j. Succeeds (line i) i (line j) j) e s) (latest line (line j).cell j)
          | inr s ↦ stays j (subst (Stays p line) (sym s.itself ∙ e) s) (latest line (line j).cell j)
        ]
      ]

pub chain_honest : ChainIsHonest
chain_honest n a p line h = honest n a p line h
