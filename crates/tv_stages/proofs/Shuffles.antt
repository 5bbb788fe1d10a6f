-- What the stages of depth d and more have to bring, and its colouring, which says which items go through the lower slots
-- of the stages within.
use Rattle.std.proofs.Common.{◌≡◌, ℕ, suc, ◌+◌, ◌*◌, ◌%◌, ◌^◌, ◌<◌, ◌≤◌, inl, inr, Bool, true}
use Rattle.std.proofs.Common.{false, not, if◌then◌else◌, refl, sym, ◌∙◌, ap, arith}
use Rattle.std.proofs.Math.Nat.{mod-eq_of_lt}
use Rattle.std.proofs.lemmas.Bool.{cases_lt, cases_eq, cases_Bool}
use Rattle.std.proofs.lemmas.Nat.{pow_pos}
use Rattle.tv_stages.specs.Stages.{is_low, flip, low}
use Rattle.tv_stages.specs.Settings.{sorted}
use Rattle.tv_stages.specs.Walks.{IsShuffle, IsAlone, IsEven}
use Rattle.tv_stages.proofs.Slots.{whole, class_apart, flip_low, flip_high, low_low, low_high, high_more}
use Rattle.tv_stages.proofs.Slots.{flip_mod, flip_turns, class_next}
use Rattle.tv_stages.proofs.Sorts.{sorted_back, sorted_mod, sorted_pair, sorted_low, sorted_colour, sorted_rest}

pub turned : (L d : ℕ) (q r : ℕ → ℕ) → IsShuffle L d q r → IsShuffle L d r q
turned L d q r s = record {
  there = s.back;
  back = s.there;
  rest = λ x h. ap r (sym (s.rest x h)) ∙ s.back x;
  class = λ x. sym (s.class (r x)) ∙ ap (λ y. y % 2 ^ d) (s.there x);
}

pub keeps_below : (L d : ℕ) (q r : ℕ → ℕ) → IsShuffle L d q r → (x : ℕ) → x < L → q x < L
keeps_below L d q r s x h = elim (cases_lt (q x) L) [
  | inl less ↦ less
  | inr more ↦ let same : q x ≡ x = sym (s.back (q x)) ∙ ap r (s.rest (q x) more) ∙ s.back x in absurd (omega arith)
]

pub alone_here : (L d x : ℕ) → x < L → L ≤ flip d x → IsAlone L d x
alone_here L d x h k = elim (cases_Bool (is_low d x)) [
  | inl e ↦ let f = flip_low d x e in record { lower = e; below = h; last = omega arith }
  | inr e ↦ absurd (let f = flip_high d x e in omega arith)
]

pub alone_far : (L d x : ℕ) → IsAlone L d x → L ≤ flip d x
alone_far L d x a = let f = flip_low d x a.lower in let l = a.last in omega arith

-- which outputs get their items through the lower slots of the stages within: one of each two outputs of a pair, and one
-- of the outputs of each two inputs of a pair; the lower slots that are alone; and the first of each class of an even
-- number
pub record IsColouring (L d : ℕ) (q r : ℕ → ℕ) (v : ℕ → Bool) : Type 0 where
  pub outputs : (x : ℕ) → v (flip d x) ≡ not (v x)
  pub inputs : (x : ℕ) → v (r (flip d (q x))) ≡ not (v x)
  pub rest : (x : ℕ) → is_low d x ≡ true → L ≤ x + 2 ^ d → v x ≡ true
  pub first : (x : ℕ) → x < 2 ^ d → IsEven L d x → v x ≡ true

turned_bit : (b : Bool) → b ≡ true → true ≡ not b → ⊥
turned_bit true e f = cc
turned_bit false e f = cc

-- a class of two has none
pub two_even : (L d y : ℕ) → is_low d y ≡ true → y < 2 ^ d → y + 2 ^ d < L → L ≤ y + 2 * 2 ^ d → IsEven L d y
two_even L d y l small near short z same alone =
    let zin = alone.below in
    let zlast = alone.last in
    elim (cases_eq z y) [
      | inl e ↦ omega arith
      | inr ne ↦
          let pos = pow_pos d in
          let own : y % 2 ^ d ≡ y = mod-eq_of_lt small in
          let above : y < z = omega (arith, whole (2 ^ d) z pos) in
          let one = class_apart (2 ^ d) y z pos (sym same) above in
          let f = flip_low d y l in
          elim (cases_eq z (flip d y)) [
            | inl mate ↦ turned_bit (is_low d y) l (sym alone.lower ∙ ap (λ w. is_low d w) mate ∙ flip_turns d y)
            | inr far ↦
                let next = class_apart (2 ^ d) (flip d y) z pos (flip_mod d y ∙ sym same) (omega arith) in
                omega arith
          ]
    ]

-- ---- one depth further
module _ (L d : ℕ) (q r : ℕ → ℕ) (s : IsShuffle L d q r) (v : ℕ → Bool) (col : IsColouring L d q r v) where
  -- the colours of the inputs
  unfoldable pub input_colour : ℕ → Bool
  input_colour x = v (r x)

  pub inputs_across : (x : ℕ) → input_colour (flip d x) ≡ not (input_colour x)
  unfolding input_colour
  inputs_across x = ap (λ y. v (r (flip d y))) (sym (s.there x)) ∙ col.inputs (r x)

  pub inputs_rest : (x : ℕ) → is_low d x ≡ true → L ≤ x + 2 ^ d → input_colour x ≡ true
  unfolding input_colour
  inputs_rest x l h = elim (cases_lt x L) [
    | inl less ↦
        let f = flip_low d x l in
        let over : r (flip d x) ≡ flip d x = (turned L d q r s).rest (flip d x) (omega arith) in
        twice_not (v (r x)) (sym (inputs_across x) ∙ ap v over ∙ col.outputs x ∙ ap not (col.rest x l h))
    | inr more ↦ ap v ((turned L d q r s).rest x more) ∙ col.rest x l h
  ]
    where
      twice_not : (b : Bool) → not b ≡ false → b ≡ true
      twice_not true e = refl
      twice_not false e = sym e

  input_output : (x : ℕ) → input_colour (q x) ≡ v x
  unfolding input_colour
  input_output x = ap v (s.back x)

  -- what the stages within have to bring
  unfoldable pub within : ℕ → ℕ
  within x = sorted d input_colour (q (sorted d v x))

  unfoldable pub within_back : ℕ → ℕ
  within_back x = sorted d v (r (sorted d input_colour x))

  pub within_is : IsShuffle L (suc d) within within_back
  unfolding within within_back
  within_is = record {
    there = λ x.
        ap (λ y. sorted d input_colour (q y)) (sorted_back d v (r (sorted d input_colour x)))
        ∙ ap (λ y. sorted d input_colour y) (s.there (sorted d input_colour x))
        ∙ sorted_back d input_colour x;
    back = λ x.
        ap (λ y. sorted d v (r y)) (sorted_back d input_colour (q (sorted d v x))) ∙ ap (λ y. sorted d v y) (s.back (sorted d v x)) ∙ sorted_back d v x;
    rest = λ x h.
        ap (λ y. sorted d input_colour (q y)) (sorted_rest d v L col.rest x h) ∙ ap (λ y. sorted d input_colour y) (s.rest x h)
        ∙ sorted_rest d input_colour L inputs_rest x h;
    class = λ x. class_next d (sorted d input_colour (q (sorted d v x))) x
        (sorted_mod d input_colour (q (sorted d v x)) ∙ s.class (sorted d v x) ∙ sorted_mod d v x)
        (sorted_low d input_colour inputs_across (q (sorted d v x)) ∙ input_output (sorted d v x) ∙ sorted_colour d v col.outputs x);
  }

  -- the stage before, those within and the stage after bring what is asked
  pub within_made : (x : ℕ) → sorted d input_colour (within (sorted d v x)) ≡ q x
  unfolding within
  within_made x = sorted_back d input_colour (q (sorted d v (sorted d v x))) ∙ ap q (sorted_back d v x)

  within_bit : (x : ℕ) → is_low d (within x) ≡ is_low d x
  unfolding within
  within_bit x =
      sorted_low d input_colour inputs_across (q (sorted d v x)) ∙ input_output (sorted d v x) ∙ sorted_colour d v col.outputs x

  within_pair : (x : ℕ) → low d (within x) ≡ low d (q (sorted d v x))
  unfolding within
  within_pair x = sorted_pair d input_colour (q (sorted d v x))

  -- the input that goes to the slot, with bit d as the slot has it
  pub within_narrowed : (x : ℕ) → within x ≡ (if is_low d x then low d (q (sorted d v x)) else low d (q (sorted d v x)) + 2 ^ d)
  within_narrowed x =
      let z = low d (q (sorted d v x)) in
      elim (cases_Bool (is_low d x)) [
        | inl e ↦ sym (low_low d (within x) (within_bit x ∙ e)) ∙ within_pair x ∙ sym (ap (λ (b : Bool). if b then z else z + 2 ^ d) e)
        | inr e ↦
            let h = within_bit x ∙ e in
            let l = low_high d (within x) h in
            let f = flip_high d (within x) h in
            let m = high_more d (within x) h in
            let is : within x ≡ z + 2 ^ d = omega (arith, within_pair x) in
            is ∙ sym (ap (λ (b : Bool). if b then z else z + 2 ^ d) e)
      ]
