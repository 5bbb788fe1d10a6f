-- A text of lines, and the image that it assembles to.
use Rattle.std.proofs.Common.{◌≡◌, ℕ, zero, suc, ◌+◌, ◌-◌, ◌*◌, ◌/◌, ◌%◌, ◌^◌, ◌<◌, ◌≤◌, ◌==◌, Bool, true, false, not, List, [], ◌∷◌, ◌++◌, length, take}
use Rattle.std.proofs.Common.{drop, map, slice_index, codes, slice_index_or, Option, Ok, inl, inr, refl, sym, ap, ◌∙◌, arith, zero-mul, suc-mul}
use Rattle.std.proofs.Math.Nat.{one-le-pow, pow-succ'}
use Rattle.std.proofs.lemmas.Bool.{le-leb, not-true}
use Rattle.std.proofs.lemmas.List.{append-nil, append_assoc, drop-drop, drop-take, length-append, length-drop, nil_from_length, take-append-drop, take-take}
use Rattle.std.proofs.lemmas.List.Elements.{All-drop, All-head, All-tail, All-take}
use Rattle.std.proofs.lemmas.List.Splits.{length-slice_split, slice_split_at}
use Rattle.std.specs.List.{All, AllByRecursion, flat_map, slice_split}
use Rattle.std.specs.Simd.{first_chunks}
use Rattle.std.specs.Str.Lines.{strip_carriage_return}
use Rattle.tv_asm.proofs.TextLemmas.{is_line_feed, lines-nil, text_lines-cons}
use Rattle.tv_asm.specs.Assembly.{Context, assembled, context_after, image_of, line_words, with_line}
use Rattle.tv_asm.specs.Header.{is_good_header, is_header_of_16, width_of}
use Rattle.tv_asm.specs.Labels.{address, is_defined}
use Rattle.tv_asm.specs.Line.{code_says}
use Rattle.tv_asm.specs.Text.{lines, text_lines, trimmed}
use Rattle.tv_word.proofs.WidthLaws.{for_widths, word_bits}
use Rattle.tv_word.specs.Widths.{IsWidth}
use Rattle.tv_word.specs.Word.{low_bytes, little_endian, word_at}
use Rattle.tv_disasm.specs.Disassembly.{disassembly_of, header_of, two_words_text}
use Rattle.tv_disasm.specs.Laws.{DisassemblyAssembles, DisassemblyFixesWidth, WordsSpellImage}
use Rattle.tv_disasm.proofs.InstructionLemmas.{IsLineOf, two_words-IsLineOf}
use Rattle.tv_disasm.proofs.LineLemmas.{IsTextLine, last-word, line_words-line}
use Rattle.tv_disasm.proofs.WordLemmas.{apart, apart_from, is_line_byte, is_word_byte, none_passes}

no_return : (line : List ℕ) → IsTextLine line → strip_carriage_return line ≡ line
no_return line h =
    rw (apart is_word_byte (slice_index line (length line - 1)) 13 (last-word line h.ended) refl) refl

-- a line without line feeds, and its end, come off the front of a text
lines-cons : (line rest : List ℕ) → All (λ c. is_line_feed c ≡ false) line → strip_carriage_return line ≡ line → lines (line ++ 10 ∷ rest) ≡ line ∷ lines rest
unfolding lines
lines-cons line rest whole same =
    let pieces = slice_split is_line_feed rest in
    let some : 0 < length pieces = omega (arith, length-slice_split is_line_feed rest) in
    ap text_lines (slice_split_at is_line_feed line 10 rest whole refl)
    ∙ text_lines-cons line pieces some
    ∙ ap (λ l. l ∷ text_lines pieces) same

lines-line : (line rest : List ℕ) → IsTextLine line → lines (line ++ 10 ∷ rest) ≡ line ∷ lines rest
lines-line line rest h =
    lines-cons line rest (none_passes is_line_byte is_line_feed (λ c e. apart is_line_byte c 10 e refl) line h.bytes) (no_return line h)

-- a text made of lines is cut into them
pub lines-flat_map : {X : Type 0} (f : X → List ℕ) (xs : List X) → AllByRecursion (λ x. IsTextLine (f x)) xs
    → lines (flat_map (λ x. f x ++ codes "\n") xs) ≡ map f xs
lines-flat_map f [] h = lines-nil
lines-flat_map f (x ∷ xs) h =
    let rest = flat_map (λ y. f y ++ codes "\n") xs in
    ap lines (append_assoc (f x) (codes "\n") rest) ∙ lines-line (f x) rest h.0 ∙ ap (λ ls. f x ∷ ls) (lines-flat_map f xs h.1)

-- the bytes of two words, and their line
abbrev two_words : ℕ → List ℕ → List ℕ
two_words w two = word_at w two 0 ∷ word_at w two (w / 8) ∷ []

abbrev pub text_of : ℕ → List ℕ → List ℕ
text_of w two = two_words_text w (word_at w two 0) (word_at w two (w / 8))

pub record IsTwo (w : ℕ) (two : List ℕ) : Type 0 where
  pub first : word_at w two 0 < 2 ^ w
  pub second : word_at w two (w / 8) < 2 ^ w

IsTwo-IsLineOf : (w : ℕ) → IsWidth w → (two : List ℕ) → IsTwo w two → IsLineOf w (word_at w two 0) (word_at w two (w / 8)) (text_of w two)
IsTwo-IsLineOf w width two h = two_words-IsLineOf w width (word_at w two 0) (word_at w two (w / 8)) h.first h.second

texts-lines : (w : ℕ) → IsWidth w → (pairs : List (List ℕ)) → AllByRecursion (IsTwo w) pairs → AllByRecursion (λ two. IsTextLine (text_of w two)) pairs
texts-lines w width [] h = tt
texts-lines w width (two ∷ more) h = ((IsTwo-IsLineOf w width two h.0).line, texts-lines w width more h.1)

with_line-two : (w : ℕ) → IsWidth w → (most : ℕ) (context : Context) (words two : List ℕ) → IsTwo w two
    → length words + 2 ≤ most → with_line w most context words (text_of w two) ≡ Ok (words ++ two_words w two)
with_line-two w width most context words two h room =
    let line = IsTwo-IsLineOf w width two h in
    let said : line_words w (context.number == 1) context.earlier context.address (text_of w two) ≡ Ok (two_words w two) =
    line_words-line w (context.number == 1) context.earlier context.address (text_of w two) line.line ∙ line.words context.address in
    rw (said, le-leb (length words + 2) most room) refl

-- lines of two words each assemble to these words
image_of-texts : (w : ℕ) → IsWidth w → (most : ℕ) (all before : List (List ℕ)) (words : List ℕ) (pairs : List (List ℕ)) → AllByRecursion (IsTwo w) pairs
    → length words + 2 * length pairs ≤ most → image_of w most all before words (map (text_of w) pairs) ≡ Ok (words ++ flat_map (two_words w) pairs)
image_of-texts w width most all before words [] h room = ap (λ l. Ok l) (sym (append-nil words))
image_of-texts w width most all before words (two ∷ more) h room =
    let next = words ++ two_words w two in
    let rest : length next + 2 * length more ≤ most = omega (arith, length-append words (two_words w two)) in
    rw (with_line-two w width most (context_after w all before) words two h.0 (omega arith))
    (image_of-texts w width most all (before ++ text_of w two ∷ []) next more h.1 rest
    ∙ ap (λ l. Ok l) (append_assoc words (two_words w two) (flat_map (two_words w) more)))

-- n bytes represent a number below 256 ^ n
little_endian-below : (n : ℕ) (bytes : List ℕ) → All (λ b. b < 256) bytes → little_endian (take n bytes) < 256 ^ n
little_endian-below zero bytes h = one-le-pow zero 256 (omega arith)
little_endian-below (suc n) [] h = one-le-pow (suc n) 256 (omega arith)
little_endian-below (suc n) (b ∷ bs) h =
    let byte = All-head (λ c. c < 256) b bs h in
    let more = little_endian-below n bs (All-tail (λ c. c < 256) b bs h) in
    rw (pow-succ' 256 n) (omega arith)

take-IsTwo : (w : ℕ) → IsWidth w → (bytes : List ℕ) → All (λ b. b < 256) bytes → IsTwo w (take (w / 4) bytes)
take-IsTwo w width bytes h =
    let two = All-take (λ b. b < 256) (w / 4) bytes h in
    let behind = All-drop (λ b. b < 256) (w / 8) (take (w / 4) bytes) two in
    record {
      first = rw (word_bits w width) at (little_endian-below (w / 8) (take (w / 4) bytes) two);
      second = rw (word_bits w width) at (little_endian-below (w / 8) (drop (w / 8) (take (w / 4) bytes)) behind);
    }

pub chunks-IsTwo : (w : ℕ) → IsWidth w → (k : ℕ) (bytes : List ℕ) → All (λ b. b < 256) bytes → AllByRecursion (IsTwo w) (first_chunks (w / 4) k bytes)
chunks-IsTwo w width zero bytes h = tt
chunks-IsTwo w width (suc k) bytes h =
    (take-IsTwo w width bytes h, chunks-IsTwo w width k (drop (w / 4) bytes) (All-drop (λ b. b < 256) (w / 4) bytes h))

pub length-chunks : (n k : ℕ) (bytes : List ℕ) → length (first_chunks n k bytes) ≡ k
length-chunks n zero bytes = refl
length-chunks n (suc k) bytes = ap suc (length-chunks n k (drop n bytes))

twice : ℕ → ℕ
twice zero = zero
twice (suc k) = suc (suc (twice k))

twice-is : (k : ℕ) → twice k ≡ 2 * k
unfolding twice
twice-is zero = refl
twice-is (suc k) = omega (arith, twice-is k)

halves : (w : ℕ) → IsWidth w → w / 8 + w / 8 ≡ w / 4
halves = for_widths (λ w. w / 8 + w / 8 ≡ w / 4) refl refl

-- the words of each two words' bytes are the words of all bytes
chunks-words : (w : ℕ) → IsWidth w → (k : ℕ) (bytes : List ℕ)
    → flat_map (two_words w) (first_chunks (w / 4) k bytes) ≡ map little_endian (first_chunks (w / 8) (twice k) bytes)
unfolding twice
chunks-words w width zero bytes = refl
chunks-words w width (suc k) bytes =
    let n = w / 8 in
    let both : n + n ≡ w / 4 = halves w width in
    let first : take n (take (w / 4) bytes) ≡ take n bytes = take-take n (w / 4) bytes (omega arith) in
    let second : take n (drop n (take (w / 4) bytes)) ≡ take n (drop n bytes) =
    ap (λ m. take n (drop n (take m bytes))) (sym both) ∙ ap (take n) (drop-take n n bytes) ∙ take-take n n (drop n bytes) (omega arith) in
    let rest : drop n (drop n bytes) ≡ drop (w / 4) bytes = drop-drop n n bytes ∙ ap (λ m. drop m bytes) both in
    rw (first, second, chunks-words w width k (drop (w / 4) bytes), rest) refl

-- the line of the header, without its end
abbrev header_line : List ℕ
header_line = codes "; TinyRAM W=16 K=16"

is_no_line_feed : ℕ → Bool
is_no_line_feed c = not (c == 10)

header-whole : All (λ c. is_line_feed c ≡ false) header_line
unfolding is_no_line_feed
header-whole = none_passes is_no_line_feed is_line_feed (λ c e. not-true (c == 10) e) header_line refl

lines-header : (rest : List ℕ) → lines (header_of 16 ++ rest) ≡ header_line ∷ lines rest
lines-header rest = lines-cons header_line rest header-whole refl

-- the header has no words
header-words : (earlier : List ℕ → Bool) (place : List ℕ → Option ℕ) → line_words 16 true earlier place header_line ≡ Ok []
unfolding line_words is_good_header code_says trimmed
header-words earlier place = refl

header-none : (most : ℕ) (all more : List (List ℕ)) → image_of 16 most all [] [] (header_line ∷ more) ≡ image_of 16 most all (header_line ∷ []) [] more
header-none most all more = rw (header-words (is_defined []) (address 16 all), le-leb 0 most (omega arith)) refl

assembled-lines : (w most : ℕ) (text : List ℕ) (ls : List (List ℕ)) → lines text ≡ ls → assembled w most text ≡ image_of w most ls [] [] ls
unfolding assembled
assembled-lines w most text ls e = ap (λ l. image_of w most l [] [] l) e

-- the text of lines of two words each, after the header, assembles to these words
abbrev Assembles : ℕ → Type 0
Assembles w = (most : ℕ) (pairs : List (List ℕ)) → AllByRecursion (IsTwo w) pairs → 0 + 2 * length pairs ≤ most
    → assembled w most (header_of w ++ flat_map (λ two. text_of w two ++ codes "\n") pairs) ≡ Ok (flat_map (two_words w) pairs)

assembles_16 : Assembles 16
assembles_16 most pairs are room =
    let ls = header_line ∷ map (text_of 16) pairs in
    let rest = flat_map (λ two. text_of 16 two ++ codes "\n") pairs in
    let width : IsWidth 16 = inl refl in
    let cut : lines (header_of 16 ++ rest) ≡ ls = lines-header rest
    ∙ ap (λ l. header_line ∷ l) (lines-flat_map (text_of 16) pairs (texts-lines 16 width pairs are)) in
    assembled-lines 16 most (header_of 16 ++ rest) ls cut
    ∙ header-none most ls (map (text_of 16) pairs)
    ∙ image_of-texts 16 width most ls (header_line ∷ []) [] pairs are room

assembles_32 : Assembles 32
assembles_32 most pairs are room =
    let ls = map (text_of 32) pairs in
    let width : IsWidth 32 = inr refl in
    assembled-lines 32 most (flat_map (λ two. text_of 32 two ++ codes "\n") pairs) ls (lines-flat_map (text_of 32) pairs (texts-lines 32 width pairs are))
    ∙ image_of-texts 32 width most ls [] [] pairs are room

-- how many words an image has
abbrev Counts : ℕ → Type 0
Counts w = (n most : ℕ) → n % (w / 4) ≡ 0 → n ≤ w / 8 * most → (0 + 2 * (n / (w / 4)) ≤ most) × (2 * (n / (w / 4)) ≡ n / (w / 8))

counts : (w : ℕ) → IsWidth w → Counts w
counts = for_widths Counts (λ n most whole within. (omega arith, omega arith)) (λ n most whole within. (omega arith, omega arith))

pub text_assembles : DisassemblyAssembles
unfolding disassembly_of
text_assembles w width image most bytes whole within =
    let k = length image / (w / 4) in
    let pairs = first_chunks (w / 4) k image in
    let are = chunks-IsTwo w width k image bytes in
    let numbers = counts w width (length image) most whole within in
    let room : 0 + 2 * length pairs ≤ most = rw (length-chunks (w / 4) k image) numbers.0 in
    let count : twice k ≡ length image / (w / 8) = twice-is k ∙ numbers.1 in
    for_widths Assembles assembles_16 assembles_32 w width most pairs are room
    ∙ ap (λ l. Ok l) (chunks-words w width k image ∙ ap (λ n. map little_endian (first_chunks (w / 8) n image)) count)

-- a text of lines of two words each determines the width
abbrev Tells : ℕ → Type 0
Tells w = (pairs : List (List ℕ)) → AllByRecursion (IsTwo w) pairs → width_of (header_of w ++ flat_map (λ two. text_of w two ++ codes "\n") pairs) ≡ w

width_of_16 : Tells 16
unfolding width_of is_header_of_16
width_of_16 pairs are = rw (lines-header (flat_map (λ two. text_of 16 two ++ codes "\n") pairs)) refl

no_header : (line : List ℕ) → is_word_byte (slice_index line 0) ≡ true → is_header_of_16 line ≡ false
unfolding is_header_of_16
no_header [] h = cc
no_header (c ∷ cs) h = rw (apart_from is_word_byte c 59 h refl) refl

first_no_header : (pairs : List (List ℕ)) → AllByRecursion (λ two. IsTextLine (text_of 32 two)) pairs
    → is_header_of_16 (slice_index_or (map (text_of 32) pairs) 0 []) ≡ false
unfolding is_header_of_16
first_no_header [] are = refl
first_no_header (two ∷ more) are = no_header (text_of 32 two) are.0.first

width_of_32 : Tells 32
unfolding width_of
width_of_32 pairs are =
    let lines_are = texts-lines 32 (inr refl) pairs are in
    rw (lines-flat_map (text_of 32) pairs lines_are, first_no_header pairs lines_are) refl

pub text_fixes_width : DisassemblyFixesWidth
unfolding disassembly_of
text_fixes_width w width image bytes =
    let k = length image / (w / 4) in
    for_widths Tells width_of_16 width_of_32 w width (first_chunks (w / 4) k image) (chunks-IsTwo w width k image bytes)

-- bytes are the lowest bytes of the number that they represent
low_bytes-little_endian : (n : ℕ) (bytes : List ℕ) → All (λ b. b < 256) bytes → n ≤ length bytes → low_bytes n (little_endian (take n bytes)) ≡ take n bytes
low_bytes-little_endian zero bytes h fits = refl
low_bytes-little_endian (suc n) [] h fits = absurd (omega arith)
low_bytes-little_endian (suc n) (b ∷ bs) h fits =
    let byte = All-head (λ c. c < 256) b bs h in
    let low : (b + 256 * little_endian (take n bs)) % 256 ≡ b = omega arith in
    let high : (b + 256 * little_endian (take n bs)) / 256 ≡ little_endian (take n bs) = omega arith in
    rw (low, high)
    (ap (λ l. b ∷ l) (low_bytes-little_endian n bs (All-tail (λ c. c < 256) b bs h) (omega arith)))

chunks-bytes : (n k : ℕ) (bytes : List ℕ) → All (λ b. b < 256) bytes → length bytes ≡ k * n
    → flat_map (low_bytes n) (map little_endian (first_chunks n k bytes)) ≡ bytes
chunks-bytes n zero bytes h l = sym (nil_from_length bytes (l ∙ zero-mul n))
chunks-bytes n (suc k) bytes h l =
    let more : length bytes ≡ k * n + n = l ∙ suc-mul k n in
    let rest : length (drop n bytes) ≡ k * n = omega (arith, length-drop n bytes) in
    ap (λ front. front ++ flat_map (low_bytes n) (map little_endian (first_chunks n k (drop n bytes)))) (low_bytes-little_endian n bytes h (omega arith))
    ∙ ap (λ back. take n bytes ++ back) (chunks-bytes n k (drop n bytes) (All-drop (λ b. b < 256) n bytes h) rest)
    ∙ take-append-drop n bytes

whole_words : (w : ℕ) → IsWidth w → (n : ℕ) → n % (w / 8) ≡ 0 → n ≡ n / (w / 8) * (w / 8)
whole_words = for_widths (λ w. (n : ℕ) → n % (w / 8) ≡ 0 → n ≡ n / (w / 8) * (w / 8)) (λ n h. omega arith) (λ n h. omega arith)

pub words_read_back : WordsSpellImage
words_read_back w width image bytes whole =
    chunks-bytes (w / 8) (length image / (w / 8)) image bytes (whole_words w width (length image) whole)
