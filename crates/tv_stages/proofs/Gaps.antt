-- What Waksman's network leaves out: the first switches of classes of an even number of slots.
use Rattle.std.proofs.Common.{◌≡◌, ◌≢◌, ℕ, suc, ◌+◌, ◌-◌, ◌*◌, ◌/◌, ◌%◌, ◌^◌, ◌<◌, ◌≤◌, ◌==◌, ◌⊎◌, inl, inr}
use Rattle.std.proofs.Common.{Bool, true, not, nat_lt, if◌then◌else◌, refl, ◌∙◌, ap, subst, arith, eq-eqb}
use Rattle.std.proofs.Math.Nat.{mul-le-mul_left, mod-eq_of_lt}
use Rattle.std.proofs.lemmas.Bool.{cases_lt, cases_eq, lt-ltb, le-ltb, ltb-true, ltb-false, ne_eqb, and_parts, not-true}
use Rattle.std.proofs.lemmas.Nat.{pow_pos}
use Rattle.tv_stages.specs.Stages.{height, depth, gap_start, gap_size, is_left_out}
use Rattle.tv_stages.specs.Walks.{IsEven}
use Rattle.tv_stages.specs.declared.nets.Net.{Net}
use Rattle.tv_stages.specs.declared.nets.Net.TheVariants.{Benes, Waksman}
use Rattle.tv_stages.proofs.Slots.{whole, low_is}

-- where something is left out: a stage back, in which these are the classes of an even number
pub record IsGap (L l d start size : ℕ) : Type 0 where
  pub back : height L ≤ l
  pub is : ((L / 2 ^ d % 2 ≡ 0) × (L / 2 ^ d ≢ 2) × (start ≡ L % 2 ^ d) × (size ≡ 2 ^ d - L % 2 ^ d)) ⊎ ((L / 2 ^ d % 2 ≡ 1) × (start ≡ 0) × (size ≡ L % 2 ^ d))

pub gap_is : (net : Net) (L l d : ℕ) → depth L l ≡ d → (gap_size net L l ≡ 0) ⊎ IsGap L l d (gap_start L l) (gap_size net L l)
unfolding gap_size gap_start
gap_is Benes L l d deep = inl refl
gap_is Waksman L l d deep =
    let Q = L / 2 ^ depth L l in
    let R = L % 2 ^ depth L l in
    let S = 2 ^ depth L l in
    let start : ℕ = if Q % 2 == 0 then R else 0 in
    let last : ℕ = if Q % 2 == 0 then S - R else R in
    let rest : ℕ = if Q == 2 then 0 else last in
    let size : ℕ = if nat_lt l (height L) then 0 else rest in
    elim (cases_lt l (height L)) [
      | inl before ↦ inl (ap (λ (b : Bool). if b then 0 else rest) (lt-ltb l (height L) before))
      | inr past ↦
          let one : size ≡ rest = ap (λ (b : Bool). if b then 0 else rest) (le-ltb l (height L) past) in
          elim (cases_eq Q 2) [
            | inl two ↦ inl (one ∙ ap (λ (b : Bool). if b then 0 else last) (eq-eqb Q 2 two))
            | inr more ↦
                let next : size ≡ last = one ∙ ap (λ (b : Bool). if b then 0 else last) (ne_eqb Q 2 more) in
                inr (subst (λ e. IsGap L l e start size) deep (record {
                  back = past;
                  is = elim (cases_eq (Q % 2) 0) [
                    | inl even ↦
                        let test = eq-eqb (Q % 2) 0 even in
                        inl (even, more, ap (λ (b : Bool). if b then R else 0) test, next ∙ ap (λ (b : Bool). if b then S - R else R) test)
                    | inr odd ↦
                        let ne : Q % 2 ≢ 0 = odd in
                        let test = ne_eqb (Q % 2) 0 odd in
                        inr (omega arith, ap (λ (b : Bool). if b then R else 0) test, next ∙ ap (λ (b : Bool). if b then S - R else R) test)
                  ];
                }))
          ]
    ]

-- the classes of an even number of slots have no lone one
even_by_parts : (L d i : ℕ) → i < 2 ^ d → ((L / 2 ^ d % 2 ≡ 0) × (L % 2 ^ d ≤ i)) ⊎ ((L / 2 ^ d % 2 ≡ 1) × (i < L % 2 ^ d)) → IsEven L d i
even_by_parts L d i small sort z class alone =
    let S = 2 ^ d in
    let pos = pow_pos d in
    let t = z / S in
    let m = L / S in
    let made : z ≡ t * S + i = whole S z pos ∙ ap (λ y. t * S + y) (class ∙ mod-eq_of_lt small) in
    let total : L ≡ m * S + L % S = whole S L pos in
    let less : L % S < S = omega arith in
    let even = low_is d z alone.lower in
    let zin = alone.below in
    let zlast = alone.last in
    elim sort [
      | inl e ↦
          let parity = e.0 in
          let most = e.1 in
          elim (cases_lt (suc t) m) [
            | inl lt ↦ omega (arith, mul-le-mul_left S lt)
            | inr ge ↦ elim (cases_lt t m) [
              | inl last ↦ let is : m ≡ suc t = omega arith in omega arith
              | inr over ↦ omega (arith, mul-le-mul_left S over)
            ]
          ]
      | inr o ↦
          let parity = o.0 in
          let most = o.1 in
          elim (cases_lt t m) [
            | inl lt ↦ let le : suc t ≤ m = omega arith in omega (arith, mul-le-mul_left S le)
            | inr ge ↦ elim (cases_lt m t) [
              | inl over ↦ let le : suc m ≤ t = omega arith in omega (arith, mul-le-mul_left S le)
              | inr last ↦ let is : t ≡ m = omega arith in omega arith
            ]
          ]
    ]

pub record IsLeftOut (L l d i : ℕ) : Type 0 where
  pub back : height L ≤ l
  pub first : i < 2 ^ d
  pub even : IsEven L d i

pub left_out : (net : Net) (L l d i : ℕ) → depth L l ≡ d → is_left_out net L l i ≡ true → IsLeftOut L l d i
unfolding is_left_out
left_out net L l d i deep e =
    let start = gap_start L l in
    let size = gap_size net L l in
    let both = and_parts (not (nat_lt i start)) (nat_lt i (start + size)) e in
    let from = ltb-false i start (not-true (nat_lt i start) both.0) in
    let before = ltb-true i (start + size) both.1 in
    let less : L % 2 ^ d < 2 ^ d = let pos = pow_pos d in omega arith in
    elim (gap_is net L l d deep) [
      | inl none ↦ absurd (omega arith)
      | inr gap ↦ elim gap.is [
        | inl e ↦
            let at = e.2 in
            let many = e.3 in
            let small : i < 2 ^ d = omega arith in
            record { back = gap.back; first = small; even = even_by_parts L d i small (inl (e.0, omega arith)) }
        | inr o ↦
            let at = o.1 in
            let many = o.2 in
            let small : i < 2 ^ d = omega arith in
            record { back = gap.back; first = small; even = even_by_parts L d i small (inr (o.0, omega arith)) }
      ]
    ]
