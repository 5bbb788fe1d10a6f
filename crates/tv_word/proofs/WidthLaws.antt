-- Laws of the two widths of a word.
use Rattle.std.proofs.Common.{◌≡◌, ℕ, ◌/◌, ◌^◌, ◌<◌, ◌≤◌, inl, inr, refl, sym, subst, arith}
use Rattle.tv_word.specs.Widths.{IsWidth}

-- a word has at most 32 bits
pub width_short : (w : ℕ) → IsWidth w → w ≤ 32
width_short w width = omega arith

-- what holds at both widths holds at a width
pub for_widths : (P : ℕ → Type 0) → P 16 → P 32 → (w : ℕ) → IsWidth w → P w
for_widths P p q w (inl e) = subst P (sym e) p
for_widths P p q w (inr e) = subst P (sym e) q

-- the bytes of a word give all its bits
pub word_bits : (w : ℕ) → IsWidth w → 256 ^ (w / 8) ≡ 2 ^ w
word_bits = for_widths (λ w. 256 ^ (w / 8) ≡ 2 ^ w) refl refl

-- a word is one of 32 bits
pub word_small : (w : ℕ) → IsWidth w → (v : ℕ) → v < 2 ^ w → v < 2 ^ 32
word_small w width = for_widths (λ w. (v : ℕ) → v < 2 ^ w → v < 2 ^ 32) (λ v h. omega arith) (λ v h. h) w width
