-- One layer at all slots: of each two slots that differ in bit d, and that have different colours, the items are exchanged
-- where the lower slot's colour is false. So what was at a slot of colour true is then at a lower one.
use Rattle.std.proofs.Common.{◌≡◌, ℕ, ◌+◌, ◌%◌, ◌^◌, ◌≤◌, inl, inr, Bool, true, false, not, if◌then◌else◌, sym, ◌∙◌, ap, arith}
use Rattle.std.proofs.lemmas.Bool.{cases_Bool}
use Rattle.tv_stages.specs.Stages.{is_low, flip, low}
use Rattle.tv_stages.specs.Settings.{sorted}
use Rattle.tv_stages.proofs.Slots.{low_low, low_high, low_flip, is_low_low, low_near, flip_flip, flip_turns, flip_mod}

module _ (d : ℕ) (u : ℕ → Bool) where
  pub sorted_stays : (x : ℕ) → u (low d x) ≡ true → sorted d u x ≡ x
  unfolding sorted
  sorted_stays x e = ap (λ (b : Bool). if b then x else flip d x) e

  pub sorted_flips : (x : ℕ) → u (low d x) ≡ false → sorted d u x ≡ flip d x
  unfolding sorted
  sorted_flips x e = ap (λ (b : Bool). if b then x else flip d x) e

  pub sorted_back : (x : ℕ) → sorted d u (sorted d u x) ≡ x
  sorted_back x = elim (cases_Bool (u (low d x))) [
    | inl e ↦ ap (λ y. sorted d u y) (sorted_stays x e) ∙ sorted_stays x e
    | inr e ↦ ap (λ y. sorted d u y) (sorted_flips x e) ∙ sorted_flips (flip d x) (ap u (low_flip d x) ∙ e) ∙ flip_flip d x
  ]

  pub sorted_mod : (x : ℕ) → sorted d u x % 2 ^ d ≡ x % 2 ^ d
  sorted_mod x = elim (cases_Bool (u (low d x))) [
    | inl e ↦ ap (λ y. y % 2 ^ d) (sorted_stays x e)
    | inr e ↦ ap (λ y. y % 2 ^ d) (sorted_flips x e) ∙ flip_mod d x
  ]

  pub sorted_pair : (x : ℕ) → low d (sorted d u x) ≡ low d x
  sorted_pair x = elim (cases_Bool (u (low d x))) [
    | inl e ↦ ap (λ y. low d y) (sorted_stays x e)
    | inr e ↦ ap (λ y. low d y) (sorted_flips x e) ∙ low_flip d x
  ]

  module _ (across : (x : ℕ) → u (flip d x) ≡ not (u x)) where
    pub sorted_low : (x : ℕ) → is_low d (sorted d u x) ≡ u x
    sorted_low x = elim (cases_Bool (is_low d x)) [
      | inl l ↦ elim (cases_Bool (u x)) [
        | inl e ↦ ap (λ y. is_low d y) (sorted_stays x (ap u (low_low d x l) ∙ e)) ∙ l ∙ sym e
        | inr e ↦ ap (λ y. is_low d y) (sorted_flips x (ap u (low_low d x l) ∙ e)) ∙ flip_turns d x ∙ ap not l ∙ sym e
      ]
      | inr h ↦ elim (cases_Bool (u x)) [
        | inl e ↦ ap (λ y. is_low d y) (sorted_flips x (ap u (low_high d x h) ∙ across x ∙ ap not e)) ∙ flip_turns d x ∙ ap not h ∙ sym e
        | inr e ↦ ap (λ y. is_low d y) (sorted_stays x (ap u (low_high d x h) ∙ across x ∙ ap not e)) ∙ h ∙ sym e
      ]
    ]

    pub sorted_colour : (x : ℕ) → u (sorted d u x) ≡ is_low d x
    sorted_colour x = sym (sorted_low (sorted d u x)) ∙ ap (λ y. is_low d y) (sorted_back x)

  -- the slots from L on stay
  module _ (L : ℕ) (rest : (x : ℕ) → is_low d x ≡ true → L ≤ x + 2 ^ d → u x ≡ true) where
    pub sorted_rest : (x : ℕ) → L ≤ x → sorted d u x ≡ x
    sorted_rest x h = sorted_stays x (rest (low d x) (is_low_low d x) (let n = low_near d x in omega (arith, n.1)))
