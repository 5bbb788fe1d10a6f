-- Memory after bytes were written into a page.
use Rattle.std.proofs.Common.{◌≡◌, ◌≢◌, ◌⊎◌, inl, inr, ℕ, ◌+◌, ◌-◌, ◌/◌, ◌%◌, ◌^◌, ◌<◌, ◌≤◌, List, [], ◌∷◌, ◌++◌, length, take, drop, replicate, Bool, true}
use Rattle.std.proofs.Common.{false, cond, nat_eq, Option, Some, None, ap, sym, refl, ◌∙◌, arith}
use Rattle.std.specs.Prelude.{◌*◌, ◌||◌, ◌==◌, zero, suc, is_some, slice_index}
use Rattle.std.proofs.Math.Nat.{eq-or-lt_of_le, div-div-eq-div-mul, pow-succ'}
use Rattle.std.proofs.lemmas.Bool.{eq-eqb}
use Rattle.std.proofs.lemmas.Bool.Decides.{eqb_tells, leb_tells}
use Rattle.std.proofs.lemmas.List.{get_or_append_left, get_or-append_right, get_or-take, get_or-drop, get_or-replicate, get_or_past, length-take-le}
use Rattle.std.proofs.lemmas.List.{length-append, length-replicate}
use Rattle.tv_word.proofs.WidthLaws.{for_widths}
use Rattle.tv_word.specs.Widths.{IsWidth}
use Rattle.tv_word.specs.Word.{word_bytes, low_bytes}
use Rattle.tv_mem.specs.Bytes.{byte_of, with_byte, with_word}
use Rattle.tv_mem.specs.Pages.{Found, page_bytes, page_with, byte_in, byte_at, Same, Writes}

-- where the parts of a page that was written to begin
first_length : (page : List ℕ) (place : ℕ) (bytes : List ℕ) → place ≤ length page → length (take place page ++ bytes) ≡ place + length bytes
first_length page place bytes within = length-append (take place page) bytes ∙ ap (λ n. n + length bytes) (length-take-le place page within)

-- its bytes: before the place, there, and after it
below : (page : List ℕ) (place : ℕ) (bytes : List ℕ) (i : ℕ) → place ≤ length page → i < place → slice_index (page_with page place bytes) i ≡ slice_index page i
below page place bytes i within before =
    let taken : length (take place page) ≡ place = length-take-le place page within in
    let first : length (take place page ++ bytes) ≡ place + length bytes = first_length page place bytes within in
    get_or_append_left (take place page ++ bytes) (drop (place + length bytes) page) 0 i (omega (arith, first, before))
    ∙ get_or_append_left (take place page) bytes 0 i (omega (arith, taken, before))
    ∙ get_or-take place page i 0 before

there : (page : List ℕ) (place : ℕ) (bytes : List ℕ) (j : ℕ) → place ≤ length page → j < length bytes
    → slice_index (page_with page place bytes) (place + j) ≡ slice_index bytes j
there page place bytes j within inside =
    let taken : length (take place page) ≡ place = length-take-le place page within in
    let first : length (take place page ++ bytes) ≡ place + length bytes = first_length page place bytes within in
    get_or_append_left (take place page ++ bytes) (drop (place + length bytes) page) 0 (place + j) (omega (arith, first, inside))
    ∙ get_or-append_right (take place page) bytes place (place + j) 0 taken (omega arith)
    ∙ ap (λ n. slice_index bytes n) (omega arith)

above : (page : List ℕ) (place : ℕ) (bytes : List ℕ) (i : ℕ) → place ≤ length page → place + length bytes ≤ i
    → slice_index (page_with page place bytes) i ≡ slice_index page i
above page place bytes i within after =
    get_or-append_right (take place page ++ bytes) (drop (place + length bytes) page) (place + length bytes) i 0 (first_length page place bytes within) after
    ∙ get_or-drop (place + length bytes) page (i - (place + length bytes)) 0
    ∙ ap (λ n. slice_index page n) (omega (arith, after))

-- a page's bytes, held or not
held_bytes : (page : Option (List ℕ)) (i : ℕ) → slice_index (page_bytes page) i ≡ byte_in page i
held_bytes None i = zero_bytes 4096 i
  where
    zero_bytes : (n i : ℕ) → slice_index (replicate n 0) i ≡ 0
    zero_bytes n i = elim (leb_tells n i) [
      | inl past ↦ get_or_past (replicate n 0) i 0 (omega (arith, length-replicate {A = ℕ} n 0, past.1))
      | inr inside ↦ get_or-replicate n i 0 0 inside.1
    ]
held_bytes (Some page) i = refl

-- the byte at an address, by whether it lies in the page that was written to
read_after : (old new : Found) (at x : ℕ) (bytes : List ℕ) (here : Bool) → Writes old new at bytes → nat_eq (x / 4096) (at / 4096) ≡ here →
    byte_at new x ≡ byte_in (cond here (Some (page_with (page_bytes (old (at / 4096))) (at % 4096) bytes)) (old (x / 4096))) (x % 4096)
read_after old new at x bytes here writes is =
    let page : Option (List ℕ) = Some (page_with (page_bytes (old (at / 4096))) (at % 4096) bytes) in
    ap (λ found. byte_in found (x % 4096)) (writes.changes (x / 4096) ∙ ap (λ here. cond here page (old (x / 4096))) is)

-- what was written is there
pub written_there : (old new : Found) (at j : ℕ) (bytes : List ℕ) → Writes old new at bytes → j < length bytes → byte_at new (at + j) ≡ slice_index bytes j
written_there old new at j bytes writes inside =
    let same : (at + j) / 4096 ≡ at / 4096 = omega (arith, writes.within, inside) in
    let place : (at + j) % 4096 ≡ at % 4096 + j = omega (arith, writes.within, inside) in
    read_after old new at (at + j) bytes true writes (eq-eqb ((at + j) / 4096) (at / 4096) same)
    ∙ ap (λ n. slice_index (page_with (page_bytes (old (at / 4096))) (at % 4096) bytes) n) place
    ∙ there (page_bytes (old (at / 4096))) (at % 4096) bytes j (omega (arith, writes.whole, writes.within)) inside

-- and nothing else has changed
pub kept_elsewhere : (old new : Found) (at x : ℕ) (bytes : List ℕ) → Writes old new at bytes → (x < at) ⊎ (at + length bytes ≤ x)
    → byte_at new x ≡ byte_at old x
kept_elsewhere old new at x bytes writes outside =
    elim (eqb_tells (x / 4096) (at / 4096)) [
      | inr other ↦ read_after old new at x bytes false writes other.0
      | inl same ↦
          let page : List ℕ = page_bytes (old (at / 4096)) in
          let fits : at % 4096 ≤ length page = omega (arith, writes.whole, writes.within) in
          read_after old new at x bytes true writes same.0
          ∙ elim outside [
            | inl before ↦ below page (at % 4096) bytes (x % 4096) fits (omega (arith, same.1, before))
            | inr behind ↦ above page (at % 4096) bytes (x % 4096) fits (omega (arith, same.1, behind))
          ]
          ∙ held_bytes (old (at / 4096)) (x % 4096)
          ∙ ap (λ n. byte_in (old n) (x % 4096)) (sym same.1)
    ]

apart : (a b : ℕ) → a ≢ b → (a < b) ⊎ (b < a)
apart a b other = elim (leb_tells b a) [
  | inr before ↦ inl before.1
  | inl behind ↦ elim (eq-or-lt_of_le behind.1) [
    | inl same ↦ absurd (other (sym same))
    | inr after ↦ inr after
  ]
]

outside : (w : ℕ) → IsWidth w → (x at : ℕ) → x / (w / 8) ≢ at / (w / 8) → (x < at / (w / 8) * (w / 8)) ⊎ (at / (w / 8) * (w / 8) + w / 8 ≤ x)
outside w width x at other = elim (apart (x / (w / 8)) (at / (w / 8)) other) [
  | inl before ↦ inl (grind (arith, before))
  | inr behind ↦ inr (grind (arith, behind))
]

length-low_bytes : (n v : ℕ) → length (low_bytes n v) ≡ n
length-low_bytes zero v = refl
length-low_bytes (suc n) v = omega (arith, length-low_bytes n (v / 256))

-- the bytes of a word
byte_of_low : (n v i : ℕ) → i < n → slice_index (low_bytes n v) i ≡ byte_of v i
byte_of_low zero v i small = absurd (omega arith)
byte_of_low (suc n) v zero small = omega arith
byte_of_low (suc n) v (suc i) small = byte_of_low n (v / 256) i (omega arith)
    ∙ ap (λ k. k % 256) (div-div-eq-div-mul v 256 (256 ^ i) ∙ ap (λ k. v / k) (sym (pow-succ' 256 i)))

-- a byte was written
pub byte_stored : (old new : Found) (at v : ℕ) → Writes old new at (v ∷ []) → byte_at new ≡ with_byte (byte_at old) at v
byte_stored old new at v writes = λ i x. at_each x i
  where
    at_each : (x : ℕ) → byte_at new x ≡ with_byte (byte_at old) at v x
    at_each x = elim (eqb_tells x at) [
      | inl here ↦
          ap (byte_at new) (here.1 ∙ omega arith)
          ∙ written_there old new at 0 (v ∷ []) writes (omega arith)
          ∙ sym (ap (λ found. cond found v (byte_at old x)) here.0)
      | inr other ↦
          kept_elsewhere old new at x (v ∷ []) writes (elim (apart x at other.1) [ inl before ↦ inl before | inr behind ↦ inr (omega (arith, behind)) ])
          ∙ sym (ap (λ found. cond found v (byte_at old x)) other.0)
    ]

-- a word was written
pub word_stored : (w : ℕ) → IsWidth w → (old new : Found) (at word : ℕ) → Writes old new (at / (w / 8) * (w / 8)) (word_bytes w word)
    → byte_at new ≡ with_word w (byte_at old) (at / (w / 8)) word
word_stored w width old new at word writes = λ i x. at_each x i
  where
    long : length (word_bytes w word) ≡ w / 8
    long = length-low_bytes (w / 8) word

    at_each : (x : ℕ) → byte_at new x ≡ with_word w (byte_at old) (at / (w / 8)) word x
    at_each x = elim (eqb_tells (x / (w / 8)) (at / (w / 8))) [
      | inl here ↦
          let place : x ≡ at / (w / 8) * (w / 8) + x % (w / 8) = grind (arith, here.1) in
          let inside : x % (w / 8) < w / 8 = grind arith in
          ap (byte_at new) place
          ∙ written_there old new (at / (w / 8) * (w / 8)) (x % (w / 8)) (word_bytes w word) writes (omega (arith, long, inside))
          ∙ byte_of_low (w / 8) word (x % (w / 8)) inside
          ∙ sym (ap (λ found. cond found (byte_of word (x % (w / 8))) (byte_at old x)) here.0)
      | inr other ↦
          kept_elsewhere old new (at / (w / 8) * (w / 8)) x (word_bytes w word) writes (ends x other.1)
          ∙ sym (ap (λ found. cond found (byte_of word (x % (w / 8))) (byte_at old x)) other.0)
    ]
      where
        ends : (x : ℕ) → x / (w / 8) ≢ at / (w / 8) → (x < at / (w / 8) * (w / 8)) ⊎ (at / (w / 8) * (w / 8) + length (word_bytes w word) ≤ x)
        ends x other = elim (outside w width x at other) [ inl before ↦ inl before | inr behind ↦ inr (omega (arith, long, behind)) ]

-- the pages that are held then
pub page_held : (old new : Found) (at : ℕ) (bytes : List ℕ) → Writes old new at bytes → (q : ℕ) → is_some (new q) ≡ (q == at / 4096 || is_some (old q))
page_held old new at bytes writes q = ap is_some (writes.changes q)
    ∙ by_number (q == at / 4096) (page_with (page_bytes (old (at / 4096))) (at % 4096) bytes) (old q)
  where
    by_number : (here : Bool) (page : List ℕ) (other : Option (List ℕ)) → is_some (cond here (Some page) other) ≡ (here || is_some other)
    by_number true page other = refl
    by_number false page other = refl

-- and where nothing has changed
pub bytes_unchanged : (old new : Found) → Same old new → byte_at new ≡ byte_at old
bytes_unchanged old new same = λ i x. ap (λ found. byte_in found (x % 4096)) (same (x / 4096)) i

pub held_unchanged : (old new : Found) → Same old new → (q : ℕ) → is_some (new q) ≡ is_some (old q)
held_unchanged old new same q = ap is_some (same q)

-- the word in which an address lies is in the address's page
pub word_page : (w : ℕ) → IsWidth w → (at : ℕ) → at / (w / 8) * (w / 8) / 4096 ≡ at / 4096
word_page w width at = for_widths (λ w. at / (w / 8) * (w / 8) / 4096 ≡ at / 4096) (omega arith) (omega arith) w width

pub word_within : (w : ℕ) → IsWidth w → (at word : ℕ) (bytes : List ℕ) → bytes ≡ word_bytes w word
    → at / (w / 8) * (w / 8) % 4096 + length bytes ≤ 4096
word_within w width at word bytes same =
    let long : length bytes ≡ w / 8 = ap length same ∙ length-low_bytes (w / 8) word in
    rw long (for_widths (λ w. at / (w / 8) * (w / 8) % 4096 + w / 8 ≤ 4096) (omega arith) (omega arith) w width)
