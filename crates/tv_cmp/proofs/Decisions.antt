-- What the constraints of the comparison say, as numbers, and that the values have it.
use Rattle.tv_core.proofs.Common.{◌≡◌, ◌≢◌, ℕ, ◌+◌, ◌-◌, ◌*◌, ◌/◌, ◌%◌, ◌^◌, ◌<◌, ◌≤◌, inl, inr, sym, subst, ◌∙◌, ap, ap₂, arith, mod-lt, zero-mul, cases_eq}
use Rattle.tv_core.proofs.Common.{cases_lt, IsWidth}
use Rattle.tv_bits.proofs.BitLaws.{bit_cases}
use Rattle.tv_bits.proofs.OrderLaws.{IsPrefixDifference-above, IsPrefixDifference-first, IsPrefixDifference-turned, IsPrefixDifference-back}
use Rattle.tv_bits.proofs.OrderLaws.{IsPrefixDifference-same, IsPrefixDifference-none, first_difference-some, first_difference-below, first_difference-none}
use Rattle.tv_bits.specs.Order.{IsPrefixDifference, first_difference}
use Rattle.tv_cmp.proofs.Flags.{equal_flag-same, equal_flag-apart, above_flag-above, above_flag-not}
use Rattle.tv_cmp.specs.Compare.{equal_flag, above_flag, size, signed_size}
use Rattle.tv_core.proofs.DifferenceLaws.{same_of_minus}
use Rattle.tv_core.proofs.PrimeLaws.{p_zero_product_below}
use Rattle.tv_core.specs.declared.field.TheConstants.{P}

-- the value of the sign: equal's number e and above's number a
abbrev pub sign_in : ℕ → ℕ → ℕ
sign_in e a = (2 * a + e + (P - 1)) % P

-- the constraints, for words x and y, chunks of c bits, a number d from 1 to 2 ^ c and the wire that is it times the sign
pub record Holds (c x y e a d t : ℕ) : Type 0 where
  pub bit : a < 2
  pub apart : e * ((x + (P - y)) % P) % P ≡ 0
  pub one : a * e % P ≡ 0
  pub signed : sign_in e a * d % P ≡ t
  pub prefix : IsPrefixDifference c 4 x y t

module _ (w : ℕ) (width : IsWidth w) (x y e a d t : ℕ) (h : x < 2 ^ w) (k : y < 2 ^ w) (small : e < P) (some : 0 < d) (most : d ≤ 2 ^ (w / 4))
    (holds : Holds (w / 4) x y e a d t) where
  -- where the words are the same, the sign is 0
  sign_none : x ≡ y → sign_in e a ≡ 0
  sign_none same = search (arith, IsPrefixDifference-same, p_zero_product_below, mod-lt)

  same_flags : x ≡ y → (e ≡ 1) × (a ≡ 0)
  same_flags same =
      let none = sign_none same in
      elim (bit_cases a holds.bit) [
        | inl zero ↦ (grind (arith, none), zero)
        | inr one ↦
            let equal : e ≡ 0 = grind (arith, ap (λ n. n * e % P) (sym one) ∙ holds.one) in
            absurd (grind (arith, none))
      ]

  -- where they are not, the first is above, or the second
  equal_none : x ≢ y → e ≡ 0
  equal_none other = search (arith, p_zero_product_below, mod-lt, same_of_minus)

  above_one : x ≢ y → a ≡ 1 → y < x
  above_one other one =
      let none = equal_none other in
      let sign : sign_in e a ≡ 1 = grind arith in
      let is : t ≡ d = sym holds.signed ∙ ap (λ n. n * d % P) sign ∙ grind arith in
      IsPrefixDifference-above w (w / 4) 4 x y d (grind arith) (grind arith) h k some most (subst (λ n. IsPrefixDifference (w / 4) 4 x y n) is holds.prefix)

  above_zero : x ≢ y → a ≡ 0 → x < y
  above_zero other zero =
      let none = equal_none other in
      let sign : sign_in e a ≡ P - 1 = grind arith in
      let is : t ≡ P - d = sym holds.signed ∙ ap (λ n. n * d % P) sign ∙ grind arith in
      IsPrefixDifference-above w (w / 4) 4 y x d (grind arith) (grind arith) k h some most
      (IsPrefixDifference-turned (w / 4) 4 x y d (grind arith) (grind arith) some (grind arith)
      (subst (λ n. IsPrefixDifference (w / 4) 4 x y n) is holds.prefix))

  pub decided : (e ≡ equal_flag x y) × (a ≡ above_flag x y)
  decided = elim (cases_eq x y) [
    | inl same ↦
        let flags = same_flags same in
        (flags.0 ∙ sym (equal_flag-same x y same), flags.1 ∙ sym (above_flag-not x y (grind arith)))
    | inr other ↦ (
      equal_none other ∙ sym (equal_flag-apart x y other),
      elim (bit_cases a holds.bit) [
        | inl zero ↦ zero ∙ sym (above_flag-not x y (let below = above_zero other zero in grind arith))
        | inr one ↦ one ∙ sym (above_flag-above x y (above_one other one))
      ],
    )
  ]

-- ---- the values
module _ (w : ℕ) (width : IsWidth w) (x y : ℕ) (h : x < 2 ^ w) (k : y < 2 ^ w) where
  settled_same : x ≡ y → (size w x y - 1 < 2 ^ (w / 4)) × Holds (w / 4) x y (equal_flag x y) (above_flag x y) (size w x y - 1 + 1) (signed_size w x y)
  settled_same same =
      let up = first_difference-none (w / 4) 4 x y (grind arith) in
      let down = first_difference-none (w / 4) 4 y x (grind arith) in
      let e = equal_flag-same x y same in
      let a = above_flag-not x y (grind arith) in
      let none : signed_size w x y ≡ 0 = ap₂ (λ m n. (m + (P - n)) % P) up down in (
        grind (arith, up, down),
        record {
          bit = grind (arith, a);
          apart = ap₂ (λ m n. m * n % P) e (let zero : (x + (P - y)) % P ≡ 0 = grind arith in zero);
          one = ap₂ (λ m n. m * n % P) a e;
          signed = ap₂ (λ m n. sign_in m n * (size w x y - 1 + 1) % P) e a ∙ ap (λ n. n % P) (zero-mul (size w x y - 1 + 1)) ∙ sym none;
          prefix = subst (λ n. IsPrefixDifference (w / 4) 4 x y n) (sym none)
              (subst (λ n. IsPrefixDifference (w / 4) 4 x n 0) same (IsPrefixDifference-none (w / 4) 4 x (grind arith) (grind arith)));
        },
      )

  settled_above : y < x → (size w x y - 1 < 2 ^ (w / 4)) × Holds (w / 4) x y (equal_flag x y) (above_flag x y) (size w x y - 1 + 1) (signed_size w x y)
  settled_above above =
      let down = first_difference-none (w / 4) 4 y x (grind arith) in
      let some = first_difference-some w (w / 4) 4 x y (grind arith) (grind arith) h above in
      let below = first_difference-below w (w / 4) 4 x y (grind arith) (grind arith) h above in
      let e = equal_flag-apart x y (λ same. grind arith) in
      let a = above_flag-above x y above in
      let is : signed_size w x y ≡ first_difference (w / 4) 4 x y = grind (arith, down, below) in
      let all : size w x y - 1 + 1 ≡ first_difference (w / 4) 4 x y = grind (arith, down, some) in (
        grind (arith, down, below),
        record {
          bit = grind (arith, a);
          apart = ap (λ m. m * ((x + (P - y)) % P) % P) e ∙ ap (λ n. n % P) (zero-mul ((x + (P - y)) % P));
          one = ap₂ (λ m n. m * n % P) a e;
          signed = ap₂ (λ m n. sign_in m n * (size w x y - 1 + 1) % P) e a ∙ ap (λ n. 1 * n % P) all ∙ grind (arith, below) ∙ sym is;
          prefix = subst (λ n. IsPrefixDifference (w / 4) 4 x y n) (sym is) (IsPrefixDifference-first w (w / 4) 4 x y (grind arith) (grind arith) h above);
        },
      )

  settled_below : x < y → (size w x y - 1 < 2 ^ (w / 4)) × Holds (w / 4) x y (equal_flag x y) (above_flag x y) (size w x y - 1 + 1) (signed_size w x y)
  settled_below under =
      let up = first_difference-none (w / 4) 4 x y (grind arith) in
      let some = first_difference-some w (w / 4) 4 y x (grind arith) (grind arith) k under in
      let below = first_difference-below w (w / 4) 4 y x (grind arith) (grind arith) k under in
      let e = equal_flag-apart x y (λ same. grind arith) in
      let a = above_flag-not x y (grind arith) in
      let is : signed_size w x y ≡ P - first_difference (w / 4) 4 y x = grind (arith, up, below, some) in
      let all : size w x y - 1 + 1 ≡ first_difference (w / 4) 4 y x = grind (arith, up, some) in (
        grind (arith, up, below),
        record {
          bit = grind (arith, a);
          apart = ap (λ m. m * ((x + (P - y)) % P) % P) e ∙ ap (λ n. n % P) (zero-mul ((x + (P - y)) % P));
          one = ap₂ (λ m n. m * n % P) a e;
          signed = ap₂ (λ m n. sign_in m n * (size w x y - 1 + 1) % P) e a ∙ ap (λ n. (P - 1) * n % P) all ∙ grind (arith, below, some) ∙ sym is;
          prefix = subst (λ n. IsPrefixDifference (w / 4) 4 x y n) (sym is)
              (IsPrefixDifference-back (w / 4) 4 x y (first_difference (w / 4) 4 y x) (grind arith) (grind arith) some (grind (arith, below))
              (IsPrefixDifference-first w (w / 4) 4 y x (grind arith) (grind arith) k under));
        },
      )

  pub settled : (size w x y - 1 < 2 ^ (w / 4)) × Holds (w / 4) x y (equal_flag x y) (above_flag x y) (size w x y - 1 + 1) (signed_size w x y)
  settled = search (arith, cases_lt, settled_above, cases_eq, settled_same, settled_below)
