-- A colouring of the slots below L, as a walk makes it, serves at all numbers.
use Rattle.std.proofs.Common.{◌≡◌, ℕ, ◌%◌, ◌^◌, ◌<◌, ◌≤◌, inl, inr, Bool, true, false, not, nat_lt, if◌then◌else◌, sym, ◌∙◌, ap, subst, arith}
use Rattle.std.proofs.Math.Nat.{div-eq_of_lt}
use Rattle.std.proofs.lemmas.Bool.{cases_lt, lt-ltb, le-ltb}
use Rattle.tv_stages.specs.Stages.{is_low, flip}
use Rattle.tv_stages.specs.Walks.{IsShuffle, IsAlone, IsEven}
use Rattle.tv_stages.proofs.Slots.{is_low_at, flip_low, flip_turns, flip_flip}
use Rattle.tv_stages.proofs.Shuffles.{IsColouring, turned, keeps_below, alone_here}

module _ (L d : ℕ) (q r : ℕ → ℕ) (s : IsShuffle L d q r) (v : ℕ → Bool) where
  pub record IsColouringBelow : Type 0 where
    pub outputs : (x : ℕ) → x < L → flip d x < L → v (flip d x) ≡ not (v x)
    pub inputs : (x : ℕ) → x < L → flip d (q x) < L → v (r (flip d (q x))) ≡ not (v x)
    pub lone_input : (x : ℕ) → x < L → IsAlone L d (q x) → v x ≡ true
    pub lone_output : (x : ℕ) → IsAlone L d x → v x ≡ true
    pub first : (x : ℕ) → x < L → x < 2 ^ d → IsEven L d x → v x ≡ true

  unfoldable pub extended : ℕ → Bool
  extended x = if nat_lt x L then v x else is_low d x

  pub extended_in : (x : ℕ) → x < L → extended x ≡ v x
  unfolding extended
  extended_in x h = ap (λ (b : Bool). if b then v x else is_low d x) (lt-ltb x L h)

  extended_out : (x : ℕ) → L ≤ x → extended x ≡ is_low d x
  unfolding extended
  extended_out x h = ap (λ (b : Bool). if b then v x else is_low d x) (le-ltb x L h)

  -- the other of a pair is from L on
  high_of : (x : ℕ) → IsAlone L d x → extended (flip d x) ≡ false
  high_of x a =
      let l = a.last in
      let f = flip_low d x a.lower in
      extended_out (flip d x) (omega arith) ∙ flip_turns d x ∙ ap not a.lower

  back_alone : (x : ℕ) → L ≤ x → flip d x < L → IsAlone L d (flip d x) × (is_low d x ≡ false)
  back_alone x h k =
      let a = alone_here L d (flip d x) k (subst (λ y. L ≤ y) (sym (flip_flip d x)) h) in
      (a, ap (λ y. is_low d y) (sym (flip_flip d x)) ∙ flip_turns d (flip d x) ∙ ap not a.lower)

  pub extended_is : IsColouringBelow → IsColouring L d q r extended
  extended_is c = record {
    outputs = λ x. elim (cases_lt x L) [
      | inl h ↦ elim (cases_lt (flip d x) L) [
        | inl k ↦ extended_in (flip d x) k ∙ c.outputs x h k ∙ ap not (sym (extended_in x h))
        | inr k ↦ let a = alone_here L d x h k in high_of x a ∙ ap not (sym (extended_in x h ∙ c.lone_output x a))
      ]
      | inr h ↦ elim (cases_lt (flip d x) L) [
        | inl k ↦
            let b = back_alone x h k in
            extended_in (flip d x) k ∙ c.lone_output (flip d x) b.0 ∙ ap not (sym (extended_out x h ∙ b.1))
        | inr k ↦ extended_out (flip d x) k ∙ flip_turns d x ∙ ap not (sym (extended_out x h))
      ]
    ];
    inputs = λ x. elim (cases_lt x L) [
      | inl h ↦
          let z = q x in
          let zin = keeps_below L d q r s x h in
          elim (cases_lt (flip d z) L) [
            | inl k ↦ extended_in (r (flip d z)) (keeps_below L d r q (turned L d q r s) (flip d z) k) ∙ c.inputs x h k ∙ ap not (sym (extended_in x h))
            | inr k ↦
                let a = alone_here L d z zin k in
                ap (λ y. extended y) ((turned L d q r s).rest (flip d z) k) ∙ high_of z a ∙ ap not (sym (extended_in x h ∙ c.lone_input x h a))
          ]
      | inr h ↦ ap (λ y. extended (r (flip d y))) (s.rest x h) ∙ elim (cases_lt (flip d x) L) [
        | inl k ↦
            let b = back_alone x h k in
            let y = r (flip d x) in
            let is : q y ≡ flip d x = s.there (flip d x) in
            let y_in = keeps_below L d r q (turned L d q r s) (flip d x) k in
            extended_in y y_in ∙ c.lone_input y y_in (subst (λ z. IsAlone L d z) (sym is) b.0) ∙ ap not (sym (extended_out x h ∙ b.1))
        | inr k ↦
            ap (λ y. extended y) ((turned L d q r s).rest (flip d x) k) ∙ extended_out (flip d x) k ∙ flip_turns d x ∙ ap not (sym (extended_out x h))
      ]
    ];
    rest = λ x l h. elim (cases_lt x L) [
      | inl less ↦ extended_in x less ∙ c.lone_output x (record { lower = l; below = less; last = h })
      | inr more ↦ extended_out x more ∙ l
    ];
    first = λ x small even. elim (cases_lt x L) [
      | inl less ↦ extended_in x less ∙ c.first x less small even
      | inr more ↦ extended_out x more ∙ is_low_at d x (ap (λ y. y % 2) (div-eq_of_lt small))
    ];
  }
