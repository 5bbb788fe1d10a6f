-- Words of memory, byte by byte.
use Rattle.std.proofs.Common.{◌≡◌, ℕ, zero, suc, ◌+◌, ◌*◌, ◌/◌, ◌%◌, ◌^◌, ◌<◌, ◌==◌, cond, ◌∷◌, refl, sym, ap, ap₂, subst, ◌∙◌, arith, add-zero}
use Rattle.std.proofs.Math.Nat.{div-div-eq-div-mul, pow-succ', pow-zero}
use Rattle.std.proofs.lemmas.Bool.{eq-eqb, ne_eqb, cond_both}
use Rattle.tv_word.proofs.WidthLaws.{for_widths, word_bits}
use Rattle.tv_word.specs.Widths.{IsWidth}
use Rattle.tv_word.specs.Word.{little_endian, low_bytes}
use Rattle.tv_mem.specs.Bytes.{Bytes, byte_of, with_byte, with_word, bytes_from, word_in}
use Rattle.tv_mem.specs.Words.{AreBytes, WordsAreSmall, ByteOfWord, WordAfterByte, WordAfterWord, OthersAfterByte, OthersAfterWord, BytesAfterByte}
use Rattle.tv_mem.specs.Words.{BytesAfterWord}
use Rattle.tv_word.proofs.ByteLaws.{little_endian-low_bytes}

-- ---- n bytes from an address on
bytes_below : (m : Bytes) → AreBytes m → (at n : ℕ) → little_endian (bytes_from m at n) < 256 ^ n
bytes_below m small at zero = omega arith
bytes_below m small at (suc n) = rw (pow-succ' 256 n) (omega (arith, small at, bytes_below m small (at + 1) n))

byte_from : (m : Bytes) → AreBytes m → (at n k : ℕ) → k < n → byte_of (little_endian (bytes_from m at n)) k ≡ m (at + k)
byte_from m small at zero k h = absurd (omega arith)
byte_from m small at (suc n) zero h = rw (add-zero at) (omega (arith, small at))
byte_from m small at (suc n) (suc k) h =
    let rest : ℕ = little_endian (bytes_from m (at + 1) n) in
    let above : (m at + 256 * rest) / 256 ≡ rest = omega (arith, small at) in
    let place : at + suc k ≡ at + 1 + k = omega arith in
    ap (λ p. (m at + 256 * rest) / p % 256) (pow-succ' 256 k)
    ∙ ap (λ q. q % 256) (sym (div-div-eq-div-mul (m at + 256 * rest) 256 (256 ^ k)))
    ∙ ap (λ q. q / 256 ^ k % 256) above
    ∙ byte_from m small (at + 1) n k (omega arith)
    ∙ ap m (sym place)

same_from : (m other : Bytes) (at n : ℕ) → ((k : ℕ) → k < n → m (at + k) ≡ other (at + k)) → bytes_from m at n ≡ bytes_from other at n
same_from m other at zero same = refl
same_from m other at (suc n) same =
    ap₂ (λ b bs. b ∷ bs) (rw (add-zero at) at (same 0 (omega arith)))
    (same_from m other (at + 1) n (λ k h. let place : at + suc k ≡ at + 1 + k = omega arith in rw place at (same (suc k) (omega arith))))

-- a byte before one that was written
stored_after : (old new rest after byte v k : ℕ) → new ≡ old → after + byte * 256 ^ k ≡ rest + v * 256 ^ k
    → new + 256 * after + byte * 256 ^ suc k ≡ old + 256 * rest + v * 256 ^ suc k
stored_after old new rest after byte v k same behind =
    rw (same, pow-succ' 256 k) (grind (arith, behind))

stored_from : (m : Bytes) (at n k v : ℕ) → k < n
    → little_endian (bytes_from (with_byte m (at + k) v) at n) + m (at + k) * 256 ^ k ≡ little_endian (bytes_from m at n) + v * 256 ^ k
stored_from m at zero k v h = absurd (omega arith)
stored_from m at (suc n) zero v h =
    let here : with_byte m (at + 0) v at ≡ v = ap (λ t. cond t v (m at)) (eq-eqb at (at + 0) (omega arith)) in
    let rest : bytes_from (with_byte m (at + 0) v) (at + 1) n ≡ bytes_from m (at + 1) n =
    same_from (with_byte m (at + 0) v) m (at + 1) n (λ k h. ap (λ t. cond t v (m (at + 1 + k))) (ne_eqb (at + 1 + k) (at + 0) (λ e. omega arith))) in
    let old : m (at + 0) ≡ m at = ap m (add-zero at) in
    let one : 256 ^ 0 ≡ 1 = pow-zero 256 in
    rw (here, rest, old, one) (omega arith)
stored_from m at (suc n) (suc k) v h =
    let place : at + suc k ≡ at + 1 + k = omega arith in
    subst (λ p. little_endian (bytes_from (with_byte m p v) at (suc n)) + m p * 256 ^ suc k ≡ little_endian (bytes_from m at (suc n)) + v * 256 ^ suc k)
    (sym place)
    (stored_after (m at) (with_byte m (at + 1 + k) v at) _ _ (m (at + 1 + k)) v k
    (ap (λ t. cond t v (m at)) (ne_eqb at (at + 1 + k) (λ e. omega arith))) (stored_from m (at + 1) n k v (omega arith)))

written_from : (m : Bytes) (at n v : ℕ) → ((k : ℕ) → k < n → m (at + k) ≡ byte_of v k) → bytes_from m at n ≡ low_bytes n v
written_from m at zero v bytes = refl
written_from m at (suc n) v bytes =
    let first : m at ≡ v % 256 = rw (add-zero at) at (bytes 0 (omega arith)) ∙ omega arith in
    ap₂ (λ b bs. b ∷ bs) first
    (written_from m (at + 1) n (v / 256) (λ k h.
    let place : at + suc k ≡ at + 1 + k = omega arith in
    (rw place at (bytes (suc k) (omega arith))) ∙ ap (λ p. v / p % 256) (pow-succ' 256 k) ∙ ap (λ q. q % 256) (sym (div-div-eq-div-mul v 256 (256 ^ k)))))

place_in : (w : ℕ) → IsWidth w → (at : ℕ) → at ≡ at / (w / 8) * (w / 8) + at % (w / 8)
place_in w width at = for_widths (λ w. at ≡ at / (w / 8) * (w / 8) + at % (w / 8)) (omega arith) (omega arith) w width

pub rest_in : (w : ℕ) → IsWidth w → (at : ℕ) → at % (w / 8) < w / 8
rest_in w width at = for_widths (λ w. at % (w / 8) < w / 8) (omega arith) (omega arith) w width

word_of : (w : ℕ) → IsWidth w → (j k : ℕ) → k < w / 8 → ((j * (w / 8) + k) / (w / 8) ≡ j) × ((j * (w / 8) + k) % (w / 8) ≡ k)
word_of w width j k = for_widths (λ w. k < w / 8 → ((j * (w / 8) + k) / (w / 8) ≡ j) × ((j * (w / 8) + k) % (w / 8) ≡ k)) (λ h. (omega arith, omega arith))
    (λ h. (omega arith, omega arith)) w width

pub words_are_small : WordsAreSmall
words_are_small w width m small j = rw (sym (word_bits w width)) (bytes_below m small (j * (w / 8)) (w / 8))

pub byte_of_word : ByteOfWord
byte_of_word w width m small at =
    byte_from m small (at / (w / 8) * (w / 8)) (w / 8) (at % (w / 8)) (rest_in w width at) ∙ ap m (sym (place_in w width at))

pub word_after_byte : WordAfterByte
word_after_byte w width m at v =
    let place = place_in w width at in
    let from = stored_from m (at / (w / 8) * (w / 8)) (w / 8) (at % (w / 8)) v (rest_in w width at) in
    ap (λ x. word_in w (with_byte m x v) (at / (w / 8)) + m x * 256 ^ (at % (w / 8))) place ∙ from

-- bytes that are those of a word represent it
pub same_word : (w : ℕ) → IsWidth w → (m : Bytes) (j v : ℕ) → v < 2 ^ w → ((k : ℕ) → k < w / 8 → m (j * (w / 8) + k) ≡ byte_of v k) → word_in w m j ≡ v
same_word w width m j v small bytes =
    let fits : v < 256 ^ (w / 8) = rw (word_bits w width) small in
    ap little_endian (written_from m (j * (w / 8)) (w / 8) v bytes) ∙ little_endian-low_bytes (w / 8) v fits

pub word_after_word : WordAfterWord
word_after_word w width m j v small =
    same_word w width (with_word w m j v) j v small (λ k h.
    let here = word_of w width j k h in
    ap (λ t. cond t (byte_of v ((j * (w / 8) + k) % (w / 8))) (m (j * (w / 8) + k))) (eq-eqb ((j * (w / 8) + k) / (w / 8)) j here.0) ∙ ap (byte_of v) here.1)

pub others_after_byte : OthersAfterByte
others_after_byte w width m at v j other =
    ap little_endian (same_from (with_byte m at v) m (j * (w / 8)) (w / 8) (λ k h.
    let here = word_of w width j k h in
    ap (λ t. cond t v (m (j * (w / 8) + k))) (ne_eqb (j * (w / 8) + k) at (λ e. other (sym here.0 ∙ ap (λ x. x / (w / 8)) e)))))

pub others_after_word : OthersAfterWord
others_after_word w width m i v j other =
    ap little_endian (same_from (with_word w m i v) m (j * (w / 8)) (w / 8) (λ k h.
    let here = word_of w width j k h in
    ap (λ t. cond t (byte_of v ((j * (w / 8) + k) % (w / 8))) (m (j * (w / 8) + k))) (ne_eqb ((j * (w / 8) + k) / (w / 8)) i (λ e. other (sym here.0 ∙ e)))))

pub bytes_after_byte : BytesAfterByte
bytes_after_byte m at v small byte = λ x. cond_both (x == at) v (m x) (λ b. b < 256) (λ e. byte) (λ e. small x)

pub bytes_after_word : BytesAfterWord
bytes_after_word w m j v small = λ x. cond_both (x / (w / 8) == j) (byte_of v (x % (w / 8))) (m x) (λ b. b < 256) (λ e. omega arith) (λ e. small x)
