-- A wire that is 0 or 1 times a difference, as numbers, and wires in lists.
use Rattle.tv_core.proofs.Common.{◌≡◌, ℕ, zero, suc, ◌+◌, ◌-◌, ◌*◌, ◌%◌, ◌<◌, List, [], ◌∷◌, length, get_or, inl, inr, ◌∙◌, ap, ap₂, arith, slice_index}
use Rattle.tv_core.proofs.Common.{cases_lt, value-less, value-wire, wire, less, value, Assigns, InField}
use Rattle.std.proofs.lemmas.List.{get_or-map, get_or_past}
use Rattle.std.proofs.lemmas.List.Elements.{All-get_or}
use Rattle.tv_core.specs.declared.field.TheConstants.{P}
use Rattle.tv_bits.specs.Wires.{words_at, wires_top}

-- a number less itself, any number of times
pub times_itself : (g w x : ℕ) → w ≡ x → x < P → g * ((w + (P - x)) % P) % P ≡ 0
times_itself g w x e h = let none : (w + (P - x)) % P ≡ 0 = omega arith in ap (λ n. g * n % P) none ∙ omega arith

-- a register's word
pub word_of : (z : List ℕ) (regs : List ℕ) (i : ℕ) → i < length regs → slice_index (words_at z regs) i ≡ slice_index z (slice_index regs i)
word_of z regs i h = get_or-map (λ w. slice_index z w) regs i 0 0 h

module _ (z : List ℕ) (assigns : Assigns z) where
  pub difference_value : (w r : ℕ) → value (less (wire w) (wire r)) z ≡ (slice_index z w + (P - slice_index z r)) % P
  difference_value w r = value-less (wire w) (wire r) z ∙ ap₂ (λ m n. (m + (P - n)) % P) (value-wire assigns w) (value-wire assigns r)

  pub product_value : (s w r : ℕ) → value (wire s) z * value (less (wire w) (wire r)) z % P
      ≡ slice_index z s * ((slice_index z w + (P - slice_index z r)) % P) % P
  product_value s w r = ap₂ (λ m n. m * n % P) (value-wire assigns s) (difference_value w r)

pub wires_top-at : (ws : List ℕ) (i d : ℕ) → i < length ws → get_or ws i d < wires_top ws
wires_top-at [] i d h = absurd (omega arith)
wires_top-at (w ∷ ws) zero d h = omega arith
wires_top-at (w ∷ ws) (suc i) d h = omega (arith, wires_top-at ws i d (omega arith))

-- a number of a list of numbers of the field, or the 0 that stands for one that isn't there
pub word_below : (words : List ℕ) (i : ℕ) → InField words → slice_index words i < P
word_below words i small = elim (cases_lt i (length words)) [
  | inl within ↦ All-get_or (λ v. v < P) words i 0 within small
  | inr past ↦ omega (arith, get_or_past words i 0 past)
]
