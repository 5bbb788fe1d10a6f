-- The latest earlier line of a double cell.
use Rattle.std.proofs.Common.{◌≡◌, ◌≢◌, ◌⊎◌, ℕ, zero, suc, ◌<◌, ◌≤◌, ◌==◌, if◌then◌else◌, Bool, true, false, inl, inr, refl, sym, ap, ◌∙◌, arith, eqb-true}
use Rattle.std.proofs.lemmas.Bool.{eqb-false, cases_eq}
use Rattle.tv_doubles.specs.Doubles.{DoubleLine, before, no_words}

pub record Latest (line : ℕ → DoubleLine) (j c : ℕ) : Type 0 where
  pub place : ℕ
  pub earlier : place < j
  pub cell : (line place).cell ≡ c
  pub none : (k : ℕ) → place < k → k < j → (line k).cell ≢ c
  pub value : before line j c ≡ (line place).new

pub record NoneBefore (line : ℕ → DoubleLine) (j c : ℕ) : Type 0 where
  pub none : (k : ℕ) → k < j → (line k).cell ≢ c
  pub value : before line j c ≡ no_words

module _ (line : ℕ → DoubleLine) (c : ℕ) where
  pub latest : (j : ℕ) → Latest line j c ⊎ NoneBefore line j c
  latest zero = inr (record { none = λ k h e. omega arith; value = refl })
  latest (suc j) = here ((line j).cell == c) refl (latest j)
    where
      none_more : (b : ℕ) → ((k : ℕ) → b ≤ k → k < j → (line k).cell ≢ c) → (line j).cell ≢ c → (k : ℕ) → b ≤ k → k < suc j → (line k).cell ≢ c
      none_more b below at k low h e = elim (cases_eq k j) [
        | inl same ↦ at (ap (λ i. (line i).cell) (sym same) ∙ e)
        | inr other ↦ below k low (omega arith) e
      ]

      here : (b : Bool) → ((line j).cell == c) ≡ b → Latest line j c ⊎ NoneBefore line j c → Latest line (suc j) c ⊎ NoneBefore line (suc j) c
      here true e w = inl (record {
        place = j;
        earlier = omega arith;
        cell = eqb-true (line j).cell c e;
        none = λ k h i f. omega arith;
        value = ap (λ b. (if b then (line j).new else before line j c)) e;
      })
      here false e (inl w) = inl (record {
        place = w.place;
        earlier = omega (arith, w.earlier);
        cell = w.cell;
        none = λ k low h. none_more (suc w.place) (λ k low h. w.none k (omega arith) h) (eqb-false (line j).cell c e) k (omega arith) h;
        value = ap (λ b. (if b then (line j).new else before line j c)) e ∙ w.value;
      })
      here false e (inr w) = inr (record {
        none = λ k h. none_more 0 (λ k low h. w.none k h) (eqb-false (line j).cell c e) k (omega arith) h;
        value = ap (λ b. (if b then (line j).new else before line j c)) e ∙ w.value;
      })
