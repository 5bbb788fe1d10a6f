-- How many wires, constraints and terms a circuit makes, in parts.
use Rattle.tv_core.proofs.Common.{◌≡◌, ℕ, ◌+◌, length, refl, ◌∙◌, ap, ap₂, arith, Circuit, put, pure, ◌>>=◌, Combination, terms_in}
use Rattle.std.proofs.Common.{length-append}
use Rattle.tv_bits.proofs.GateLaws.{terms-append}

-- a circuit makes these numbers of wires, constraints and terms, whatever the next wire is
pub record Sized {A : Type 0} (circuit : Circuit A) (made constraints terms : ℕ) : Type 0 where
  pub end : (next : ℕ) → (circuit next).next ≡ next + made
  pub count : (next : ℕ) → length (circuit next).list ≡ constraints
  pub size : (next : ℕ) → terms_in (circuit next).list ≡ terms

plus_assoc : (next m n : ℕ) → next + m + n ≡ next + (m + n)
plus_assoc next m n = omega arith

pub sized_then : {A B : Type 0} {first : Circuit A} (second : A → Circuit B) {m c t n d u : ℕ}
    → Sized first m c t → ((next : ℕ) → Sized (second (first next).answer) n d u) → Sized (first >>= second) (m + n) (c + d) (t + u)
unfolding ◌>>=◌
sized_then {first} second {m} {c} {t} {n} p q = record {
  end = λ next. (q next).end (first next).next ∙ ap (λ k. k + n) (p.end next) ∙ plus_assoc next m n;
  count = λ next. length-append (first next).list (second (first next).answer (first next).next).list
      ∙ ap₂ (λ i j. i + j) (p.count next) ((q next).count (first next).next);
  size = λ next. terms-append (first next).list (second (first next).answer (first next).next).list
      ∙ ap₂ (λ i j. i + j) (p.size next) ((q next).size (first next).next);
}

pub none_more : (next : ℕ) → next ≡ next + 0
none_more next = omega arith

pub sized_pure : {A : Type 0} (a : A) → Sized (pure a) 0 0 0
unfolding pure
sized_pure a = record { end = none_more; count = λ next. refl; size = λ next. refl }

-- with equal numbers
pub sized_as : {A : Type 0} {circuit : Circuit A} {m c t n d u : ℕ} → Sized circuit m c t → m ≡ n → c ≡ d → t ≡ u → Sized circuit n d u
sized_as p e f g = record { end = λ next. p.end next ∙ ap (λ k. next + k) e; count = λ next. p.count next ∙ f; size = λ next. p.size next ∙ g }

pub sized_put : (a b c : Combination) → Sized (put a b c) 0 1 (length a + length b + length c)
unfolding put
sized_put a b c = record { end = none_more; count = λ next. refl; size = λ next. omega arith }

-- these numbers from one wire on
pub record SizedAt {A : Type 0} (circuit : Circuit A) (next made constraints terms : ℕ) : Type 0 where
  pub end : (circuit next).next ≡ next + made
  pub count : length (circuit next).list ≡ constraints
  pub size : terms_in (circuit next).list ≡ terms

-- a second part of which that is known where the first one ends
pub sized_to : {A B : Type 0} {first : Circuit A} (second : A → Circuit B) {m c t n d u : ℕ}
    → Sized first m c t → ((next : ℕ) → SizedAt (second (first next).answer) (first next).next n d u) → Sized (first >>= second) (m + n) (c + d) (t + u)
unfolding ◌>>=◌
sized_to {first} second {m} {c} {t} {n} p q = record {
  end = λ next. (q next).end ∙ ap (λ k. k + n) (p.end next) ∙ plus_assoc next m n;
  count = λ next. length-append (first next).list (second (first next).answer (first next).next).list ∙ ap₂ (λ i j. i + j) (p.count next) (q next).count;
  size = λ next. terms-append (first next).list (second (first next).answer (first next).next).list ∙ ap₂ (λ i j. i + j) (p.size next) (q next).size;
}

-- and what comes after it
pub sized_from : {A B : Type 0} {first : Circuit A} (second : A → Circuit B) {next m c t n d u : ℕ}
    → SizedAt first next m c t → Sized (second (first next).answer) n d u → SizedAt (first >>= second) next (m + n) (c + d) (t + u)
unfolding ◌>>=◌
sized_from {first} second {next} {m} {c} {t} {n} p q = record {
  end = q.end (first next).next ∙ ap (λ k. k + n) p.end ∙ plus_assoc next m n;
  count = length-append (first next).list (second (first next).answer (first next).next).list ∙ ap₂ (λ i j. i + j) p.count (q.count (first next).next);
  size = terms-append (first next).list (second (first next).answer (first next).next).list ∙ ap₂ (λ i j. i + j) p.size (q.size (first next).next);
}
