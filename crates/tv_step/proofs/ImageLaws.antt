-- Memory with the first words of an image.
use Rattle.tv_core.proofs.Common.{◌≡◌, ◌≢◌, ◌<◌, ◌≤◌, ℕ, ◌+◌, ◌*◌, ◌/◌, ◌%◌, ◌^◌, List, length, take, cond, ap, ap₂, sym, ◌∙◌, inl, inr, arith, slice_index}
use Rattle.tv_core.proofs.Common.{for_widths, IsWidth}
use Rattle.std.proofs.Math.Nat.{zero-div}
use Rattle.std.proofs.lemmas.Bool.Decides.{eqb_tells, leb_tells}
use Rattle.std.proofs.lemmas.List.{get_or-take, get_or_past, length-take-le, take_all}
use Rattle.tv_mem.proofs.WordLaws.{same_word}
use Rattle.tv_mem.specs.Bytes.{Bytes, byte_of, with_word, word_in}
use Rattle.tv_step.proofs.RangeLaws.{word_at}
use Rattle.tv_step.specs.Range.{AreWords}
use Rattle.tv_step.specs.Machine.{image_bytes}

-- after the first words of a list there is nothing
past : (image : List ℕ) (i j : ℕ) → i ≤ length image → i ≤ j → slice_index (take i image) j ≡ 0
past image i j within following = get_or_past (take i image) j 0 (omega (arith, length-take-le i image within, following))

-- one word more changes no other
elsewhere : (image : List ℕ) (i j : ℕ) → i < length image → j ≢ i → slice_index (take i image) j ≡ slice_index (take (i + 1) image) j
elsewhere image i j within other = elim (leb_tells i j) [
  | inr before ↦ get_or-take i image j 0 before.1 ∙ sym (get_or-take (i + 1) image j 0 (omega (arith, before)))
  | inl following ↦
      let beyond : i + 1 ≤ j = grind (arith, following, other) in
      past image i j (omega arith) following.1 ∙ sym (past image (i + 1) j (omega arith) beyond)
]

-- once the next word is stored
pub image_grows : (w : ℕ) (memory : Bytes) (image : List ℕ) (i : ℕ) → i < length image → memory ≡ image_bytes w (take i image)
    → with_word w memory i (slice_index image i) ≡ image_bytes w (take (i + 1) image)
image_grows w memory image i within same = λ k x. at_each x k
  where
    at_each : (x : ℕ) → with_word w memory i (slice_index image i) x ≡ image_bytes w (take (i + 1) image) x
    at_each x = elim (eqb_tells (x / (w / 8)) i) [
      | inl here ↦
          ap (λ found. cond found (byte_of (slice_index image i) (x % (w / 8))) (memory x)) here.0
          ∙ ap (λ j. byte_of (slice_index image j) (x % (w / 8))) (sym here.1)
          ∙ ap (λ v. byte_of v (x % (w / 8))) (sym (get_or-take (i + 1) image (x / (w / 8)) 0 (omega (arith, here))))
      | inr other ↦
          ap (λ found. cond found (byte_of (slice_index image i) (x % (w / 8))) (memory x)) other.0
          ∙ ap (λ m. m x) same
          ∙ ap (λ v. byte_of v (x % (w / 8))) (elsewhere image i (x / (w / 8)) within other.1)
    ]

-- an image without words is 0 everywhere
pub image_begins : (w : ℕ) (memory : Bytes) (image : List ℕ) → ((at : ℕ) → memory at ≡ 0) → memory ≡ image_bytes w (take 0 image)
image_begins w memory image zeros = λ k x. at_each x k
  where
    none : (n : ℕ) → 0 / n % 256 ≡ 0
    none n = ap (λ m. m % 256) (zero-div n)

    at_each : (x : ℕ) → memory x ≡ image_bytes w (take 0 image) x
    at_each x = zeros x ∙ sym (ap (λ v. byte_of v (x % (w / 8))) (past image 0 (x / (w / 8)) (omega arith) (omega arith)) ∙ none (256 ^ (x % (w / 8))))

-- all words
pub image_whole : (w : ℕ) (memory : Bytes) (image : List ℕ) (i : ℕ) → length image ≤ i → memory ≡ image_bytes w (take i image) → memory ≡ image_bytes w image
image_whole w memory image i all same = same ∙ ap (image_bytes w) (take_all i image all)

-- a word of the image
pub word_of_image : (w : ℕ) → IsWidth w → (image : List ℕ) (c : ℕ) → AreWords w image → word_in w (image_bytes w image) c ≡ slice_index image c
word_of_image w width image c words = same_word w width (image_bytes w image) c (slice_index image c) (word_at w width image c words)
    (λ k h. image_byte w width image c k h)
  where
    place : (w : ℕ) → IsWidth w → (c k : ℕ) → k < w / 8 → ((c * (w / 8) + k) / (w / 8) ≡ c) × ((c * (w / 8) + k) % (w / 8) ≡ k)
    place w width c k = for_widths (λ w. k < w / 8 → ((c * (w / 8) + k) / (w / 8) ≡ c) × ((c * (w / 8) + k) % (w / 8) ≡ k)) (λ h. (omega arith, omega arith))
        (λ h. (omega arith, omega arith)) w width

    image_byte : (w : ℕ) → IsWidth w → (image : List ℕ) (c k : ℕ) → k < w / 8 → image_bytes w image (c * (w / 8) + k) ≡ byte_of (slice_index image c) k
    image_byte w width image c k h = let here = place w width c k h in ap₂ (λ a b. byte_of (slice_index image a) b) here.0 here.1
