-- The numbers below another one, but for those of a list.
use Rattle.tv_core.proofs.Common.{◌≡◌, ◌≢◌, ℕ, ◌+◌, ◌-◌, ◌<◌, ◌≤◌, not, List, [], ◌∷◌, ◌++◌, refl, sym, ◌∙◌, ap, arith, append-nil, inl, inr, true, false, cond}
use Rattle.tv_core.proofs.Common.{length, get_or, range_with_len, cases_eq, cases_lt}
use Rattle.std.proofs.Common.{eqb}
use Rattle.std.proofs.Common.{eq-eqb, ne_eqb}
use Rattle.std.specs.List.{AllPairs, filter, list_any}
use Rattle.std.specs.List.Sorted.{IsStrictlyIncreasing}
use Rattle.std.proofs.lemmas.Grind.{flat_map-append}
use Rattle.std.proofs.lemmas.List.Elements.{All-from_get_or, filter-append}
use Rattle.std.proofs.lemmas.List.Folds.{list_any_at, list_any_none}
use Rattle.std.proofs.lemmas.List.Kept.{AllPairs-from_increasing}
use Rattle.tv_container.specs.Bytes.{eight_bytes}
use Rattle.tv_core.proofs.BelowLaws.{range-append}
use Rattle.tv_r1cs_write.specs.Bytes.{label_bytes, others}

-- one number more
pub others_more : (n : ℕ) (but : List ℕ) → others (n + 1) but ≡ others n but ++ cond (not (list_any (λ m. eqb m n) but)) (n ∷ []) []
unfolding others
others_more n but =
    ap (filter (λ v. not (list_any (λ m. eqb m v) but))) (range-append 0 n 1)
    ∙ filter-append (λ v. not (list_any (λ m. eqb m v) but)) (range_with_len 0 n) (range_with_len (0 + n) 1)
    ∙ ap (λ k. others n but ++ cond (not (list_any (λ m. eqb m k) but)) (k ∷ []) []) (omega arith)

pub others_none : (n : ℕ) → others n [] ≡ range_with_len 0 n
unfolding others
others_none n = all_of (range_with_len 0 n)
  where
    all_of : (xs : List ℕ) → filter (λ v. not (list_any (λ m. eqb m v) [])) xs ≡ xs
    all_of [] = refl
    all_of (x ∷ xs) = ap (λ rest. x ∷ rest) (all_of xs)

-- the numbers rise; those before a place are below n, and those from it on are not
pub record AreAhead (n : ℕ) (but : List ℕ) (next : ℕ) : Type 0 where
  pub pairs : AllPairs (λ x y. x < y) but
  pub within : next ≤ length but
  pub before : (k : ℕ) → k < next → get_or but k 0 < n
  pub after : next < length but → n ≤ get_or but next 0

pub all_ahead : (but : List ℕ) → IsStrictlyIncreasing but → AreAhead 0 but 0
all_ahead but h =
    record { pairs = AllPairs-from_increasing but h; within = omega arith; before = λ k l. absurd (omega arith); after = λ l. omega arith }

-- one number on
module _ (n : ℕ) (but : List ℕ) (next : ℕ) (ahead : AreAhead n but next) where
  -- where the first is the number
  pub there : next < length but → get_or but next 0 ≡ n → list_any (λ m. eqb m n) but ≡ true
  there h e = list_any_at (λ m. eqb m n) but next 0 h (eq-eqb (get_or but next 0) n e)

  pub passed : next < length but → get_or but next 0 ≡ n → AreAhead (n + 1) but (next + 1)
  passed h e = record {
    pairs = ahead.pairs;
    within = omega arith;
    before = λ k l. elim (cases_lt k next) [
      | inl low ↦ omega (arith, ahead.before k low)
      | inr last ↦ let here : k ≡ next = omega arith in omega (arith, ap (λ i. get_or but i 0) here)
    ];
    after = λ l. omega (arith, ahead.pairs next (next + 1) 0 (omega arith) l);
  }

  -- where it is not, or there is none
  pub absent : (next < length but → get_or but next 0 ≢ n) → list_any (λ m. eqb m n) but ≡ false
  absent apart = list_any_none (λ m. eqb m n) but (All-from_get_or (λ m. eqb m n ≡ false) but 0 (λ k l.
      ne_eqb (get_or but k 0) n (λ same. elim (cases_lt k next) [
        | inl below ↦ absurd (omega (arith, ahead.before k below))
        | inr from ↦ elim (cases_eq k next) [
          | inl here ↦ apart (omega arith) (ap (λ i. get_or but i 0) (sym here) ∙ same)
          | inr other ↦ absurd (omega (arith, ahead.pairs next k 0 (omega arith) l, ahead.after (omega arith)))
        ]
      ])))

  pub waiting : (next < length but → get_or but next 0 ≢ n) → AreAhead (n + 1) but next
  waiting apart = record {
    pairs = ahead.pairs;
    within = ahead.within;
    before = λ k l. omega (arith, ahead.before k l);
    after = λ l. let isnt = apart l in omega (arith, ahead.after l);
  }

-- the bytes of the labels with one more, or without it
pub bytes_stay : (n : ℕ) (but : List ℕ) → list_any (λ m. eqb m n) but ≡ true → label_bytes (others (n + 1) but) ≡ label_bytes (others n but)
bytes_stay n but e = ap label_bytes (others_more n but ∙ ap (λ b. others n but ++ cond (not b) (n ∷ []) []) e ∙ append-nil (others n but))

pub bytes_more : (n : ℕ) (but : List ℕ) → list_any (λ m. eqb m n) but ≡ false
    → label_bytes (others (n + 1) but) ≡ label_bytes (others n but) ++ eight_bytes n
bytes_more n but e =
    ap label_bytes (others_more n but ∙ ap (λ b. others n but ++ cond (not b) (n ∷ []) []) e)
    ∙ flat_map-append eight_bytes (others n but) (n ∷ [])
    ∙ ap (λ bytes. label_bytes (others n but) ++ bytes) (append-nil (eight_bytes n))

-- the bytes of the labels begin with those of the numbers below a lesser one
pub bytes_begin : (n count : ℕ) (but : List ℕ) → n ≤ count →
    (rest : List ℕ) × label_bytes (others count but) ≡ label_bytes (others n but) ++ rest
unfolding others
bytes_begin n count but within =
    let kept = λ (v : ℕ). not (list_any (λ m. eqb m v) but) in
    let later = filter kept (range_with_len (0 + n) (count - n)) in
    let all : count ≡ n + (count - n) = omega arith in (
      label_bytes later,
      ap (λ k. label_bytes (filter kept (range_with_len 0 k))) all
          ∙ ap (λ xs. label_bytes (filter kept xs)) (range-append 0 n (count - n))
          ∙ ap label_bytes (filter-append kept (range_with_len 0 n) (range_with_len (0 + n) (count - n)))
          ∙ flat_map-append eight_bytes (filter kept (range_with_len 0 n)) later,
    )
