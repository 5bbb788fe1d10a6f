-- A line made of words: how it is cut.
use Rattle.std.proofs.Common.{◌≡◌, ℕ, suc, ◌-◌, ◌<◌, ◌==◌, Bool, true, false, not, ◌||◌, if◌then◌else◌, List, [], ◌∷◌, ◌++◌, length, map, slice_index, codes}
use Rattle.std.proofs.Common.{Option, Some, None, refl, ap, ◌∙◌, arith}
use Rattle.std.proofs.Math.Seq.{drop-append_seam}
use Rattle.std.proofs.lemmas.Bool.{and_parts, and_from, or_right}
use Rattle.std.proofs.lemmas.List.{append-nil, append_assoc, take_all}
use Rattle.std.proofs.lemmas.List.Folds.{list_all-append, list_any_none}
use Rattle.std.proofs.lemmas.List.Splits.{slice_split_at, slice_split_none}
use Rattle.std.proofs.lemmas.List.Sums.{position_or_len_is, suffix_len_is}
use Rattle.std.specs.List.{All, before_first, list_any, list_all, position_or_len, prefix_len, slice_split, suffix_len}
use Rattle.std.specs.Str.{bytes_eq}
use Rattle.tv_asm.proofs.FirstLemmas.{before_first-append_none}
use Rattle.tv_asm.proofs.OperandLemmas.{is_comma}
use Rattle.tv_asm.specs.Assembly.{line_words, part_words}
use Rattle.tv_asm.specs.Instruction.{raw_words, table_words, words_of}
use Rattle.tv_asm.specs.Header.{is_good_header}
use Rattle.tv_asm.specs.Line.{code_of, code_says, is_text}
use Rattle.tv_asm.specs.Text.{is_blank, trimmed, trimmed_end}
use Rattle.tv_word.proofs.DecimalLemmas.{all_weaker}
use Rattle.tv_disasm.specs.Disassembly.{comma_separated}
use Rattle.tv_disasm.proofs.WordLemmas.{is_word_byte, is_line_byte, IsWord, AreWords, apart, apart_from, none_passes, word-not_blank, line-is_text, word-line}
use Rattle.tv_disasm.proofs.WordLemmas.{first-word}

-- a text that ends in a byte of a word
abbrev pub is_ended : List ℕ → Bool
is_ended [] = false
is_ended (x ∷ []) = is_word_byte x
is_ended (x ∷ y ∷ ys) = is_ended (y ∷ ys)

pub is_ended-append : (xs ys : List ℕ) → is_ended ys ≡ true → is_ended (xs ++ ys) ≡ true
is_ended-append [] ys h = h
is_ended-append (x ∷ []) [] h = cc
is_ended-append (x ∷ []) (y ∷ ys) h = h
is_ended-append (x ∷ x' ∷ xs) ys h = is_ended-append (x' ∷ xs) ys h

is_ended-all : (xs : List ℕ) → 0 < length xs → list_all is_word_byte xs ≡ true → is_ended xs ≡ true
is_ended-all [] some h = absurd (omega arith)
is_ended-all (x ∷ []) some h = (and_parts (is_word_byte x) true h).0
is_ended-all (x ∷ y ∷ ys) some h =
    is_ended-all (y ∷ ys) (omega arith) (and_parts (is_word_byte x) (list_all is_word_byte (y ∷ ys)) h).1

pub is_ended-word : (text : List ℕ) → IsWord text → is_ended text ≡ true
is_ended-word text h = is_ended-all text h.some h.bytes

less_one : (n : ℕ) → suc (suc n) - 1 ≡ suc (suc n - 1)
less_one n = omega arith

pub last-word : (xs : List ℕ) → is_ended xs ≡ true → is_word_byte (slice_index xs (length xs - 1)) ≡ true
last-word [] h = cc
last-word (x ∷ []) h = h
last-word (x ∷ y ∷ ys) h = rw (less_one (length ys)) (last-word (y ∷ ys) h)

prefix_len-none : (text : List ℕ) → is_word_byte (slice_index text 0) ≡ true → prefix_len is_blank text ≡ 0
prefix_len-none [] h = refl
prefix_len-none (c ∷ cs) h = rw (word-not_blank c h) refl

suffix_len-none : (text : List ℕ) → is_ended text ≡ true → suffix_len is_blank text ≡ 0
suffix_len-none text h =
    let all : suffix_len is_blank text ≡ length text - length text =
    suffix_len_is is_blank text (length text) 0 (omega arith) (λ k low high. absurd (omega arith))
    (λ some. word-not_blank (slice_index text (length text - 1)) (last-word text h)) in
    omega (arith, all)

trimmed_end-ended : (text : List ℕ) → is_ended text ≡ true → trimmed_end text ≡ text
trimmed_end-ended text h =
    take_all (length text - suffix_len is_blank text) text (omega (arith, suffix_len-none text h))

-- blanks are dropped at the ends alone
pub trimmed-ended : (text : List ℕ) → is_word_byte (slice_index text 0) ≡ true → is_ended text ≡ true → trimmed text ≡ text
unfolding trimmed
trimmed-ended text first last = rw (prefix_len-none text first) (trimmed_end-ended text last)

pub trimmed-space : (text : List ℕ) → is_word_byte (slice_index text 0) ≡ true → is_ended text ≡ true → trimmed (32 ∷ text) ≡ text
unfolding trimmed
trimmed-space text first last = rw (prefix_len-none text first) (trimmed_end-ended text last)

abbrev is_spaced : ℕ → Bool
is_spaced c = c == 32 || is_word_byte c

spaced-no_comma : (text : List ℕ) → list_all is_word_byte text ≡ true → All (λ c. is_comma c ≡ false) (32 ∷ text)
spaced-no_comma text h =
    none_passes is_spaced is_comma (λ c e. apart is_spaced c 44 e refl) (32 ∷ text)
    (all_weaker is_word_byte is_spaced (λ c e. or_right (c == 32) (is_word_byte c) e) text h)

-- operands that are words are cut where they were joined
operands-split : (operand : List ℕ) (more : List (List ℕ)) → AreWords (operand ∷ more)
    → map trimmed (slice_split is_comma (32 ∷ comma_separated (operand ∷ more))) ≡ operand ∷ more
operands-split operand [] h =
    rw (append-nil operand, slice_split_none is_comma (32 ∷ operand) (spaced-no_comma operand h.0.bytes))
    (ap (λ text. text ∷ []) (trimmed-space operand (first-word operand h.0) (is_ended-word operand h.0)))
operands-split operand (next ∷ more) h =
    ap (map trimmed) (slice_split_at is_comma (32 ∷ operand) 44 (32 ∷ comma_separated (next ∷ more)) (spaced-no_comma operand h.0.bytes) refl)
    ∙ ap (λ text. text ∷ map trimmed (slice_split is_comma (32 ∷ comma_separated (next ∷ more))))
    (trimmed-space operand (first-word operand h.0) (is_ended-word operand h.0))
    ∙ ap (λ texts. operand ∷ texts) (operands-split next more h.1)

-- an instruction's name, and its operands
abbrev pub printed_line : List ℕ → List (List ℕ) → List ℕ
printed_line name operands = name ++ codes " " ++ comma_separated operands

name-no_blank : (name : List ℕ) → IsWord name → list_any is_blank name ≡ false
name-no_blank name h =
    list_any_none is_blank name (none_passes is_word_byte is_blank word-not_blank name h.bytes)

pub record AreOperands (operands : List (List ℕ)) : Type 0 where
  pub some : 0 < length operands
  pub words : AreWords operands

-- an instruction is read by its name and operands
pub words_of-line : (w : ℕ) (address : List ℕ → Option ℕ) (name : List ℕ) (operands : List (List ℕ)) → IsWord name → AreOperands operands
    → words_of w address (printed_line name operands) ≡ (if bytes_eq name (codes ".raw") then raw_words w operands else table_words w address name operands)
unfolding words_of
words_of-line w address name [] n h = absurd (omega (arith, h.some))
words_of-line w address name (operand ∷ more) n h =
    let rest = comma_separated (operand ∷ more) in
    rw (
      append_assoc name (codes " ") rest,
      before_first-append_none is_blank name 32 rest (name-no_blank name n) refl,
      drop-append_seam name (32 ∷ rest),
      operands-split operand more h.words,
    ) refl

-- a line is made of bytes of lines, and ends in a word
pub comma_separated-bytes : (operand : List ℕ) (more : List (List ℕ)) → AreWords (operand ∷ more)
    → list_all is_line_byte (comma_separated (operand ∷ more)) ≡ true
comma_separated-bytes operand [] h =
    rw (append-nil operand) (all_weaker is_word_byte is_line_byte word-line operand h.0.bytes)
comma_separated-bytes operand (next ∷ more) h =
    let front = all_weaker is_word_byte is_line_byte word-line operand h.0.bytes in
    list_all-append is_line_byte operand (44 ∷ 32 ∷ comma_separated (next ∷ more))
    ∙ and_from (list_all is_line_byte operand) (list_all is_line_byte (comma_separated (next ∷ more))) front (comma_separated-bytes next more h.1)

pub comma_separated-ended : (operand : List ℕ) (more : List (List ℕ)) → AreWords (operand ∷ more) → is_ended (comma_separated (operand ∷ more)) ≡ true
comma_separated-ended operand [] h = rw (append-nil operand) (is_ended-word operand h.0)
comma_separated-ended operand (next ∷ more) h =
    is_ended-append operand (44 ∷ 32 ∷ comma_separated (next ∷ more)) (is_ended-append (44 ∷ 32 ∷ []) (comma_separated (next ∷ more))
    (comma_separated-ended next more h.1))

pub record IsTextLine (line : List ℕ) : Type 0 where
  pub first : is_word_byte (slice_index line 0) ≡ true
  pub bytes : list_all is_line_byte line ≡ true
  pub ended : is_ended line ≡ true

first-append : (name rest : List ℕ) → IsWord name → is_word_byte (slice_index (name ++ rest) 0) ≡ true
first-append [] rest h = absurd (omega (arith, h.some))
first-append (c ∷ cs) rest h = first-word (c ∷ cs) h

pub spelled-IsTextLine : (name : List ℕ) (operands : List (List ℕ)) → IsWord name → AreOperands operands → IsTextLine (printed_line name operands)
spelled-IsTextLine name [] n h = absurd (omega (arith, h.some))
spelled-IsTextLine name (operand ∷ more) n h =
    let rest = comma_separated (operand ∷ more) in
    let front = all_weaker is_word_byte is_line_byte word-line name n.bytes in
    let whole : IsTextLine (name ++ 32 ∷ rest) = record {
      first = first-append name (32 ∷ rest) n;
      bytes =
          list_all-append is_line_byte name (32 ∷ rest)
          ∙ and_from (list_all is_line_byte name) (list_all is_line_byte rest) front (comma_separated-bytes operand more h.words);
      ended = is_ended-append name (32 ∷ rest) (is_ended-append (32 ∷ []) rest (comma_separated-ended operand more h.words));
    } in
    rw (append_assoc name (codes " ") rest) whole

-- where none passes, all stands before the first that does
before_first-none : (p : ℕ → Bool) (xs : List ℕ) → All (λ c. p c ≡ false) xs → before_first p xs ≡ xs
before_first-none p xs h =
    take_all (position_or_len p xs) xs (omega (arith, position_or_len_is p xs (length xs) 0 (omega arith) (λ k l. h k 0 l) (λ l. absurd (omega arith))))

-- nothing of such a line is a comment
code_of-line : (line : List ℕ) → list_all is_line_byte line ≡ true → code_of line ≡ line
code_of-line line h =
    before_first-none (λ c. c == 59) line (none_passes is_line_byte (λ c. c == 59) (λ c e. apart is_line_byte c 59 e refl) line h)

good_header : (w : ℕ) (line : List ℕ) → is_word_byte (slice_index line 0) ≡ true → is_good_header w line ≡ true
unfolding is_good_header
good_header w [] h = refl
good_header w (c ∷ cs) h = rw (apart_from is_word_byte c 59 h refl) refl

code_says-line : (line : List ℕ) → IsTextLine line → code_says line ≡ Some (record { label = None; instruction = line })
unfolding code_says
code_says-line line h =
    rw (trimmed-ended line h.first h.ended, apart is_word_byte (slice_index line 0) 95 h.first refl) refl

part_words-some : (w : ℕ) (address : List ℕ → Option ℕ) (line : List ℕ) → is_ended line ≡ true → part_words w address line ≡ words_of w address line
part_words-some w address [] h = cc
part_words-some w address (c ∷ cs) h = refl

-- such a line has the words of its instruction
pub line_words-line : (w : ℕ) (first : Bool) (earlier : List ℕ → Bool) (address : List ℕ → Option ℕ) (line : List ℕ) → IsTextLine line
    → line_words w first earlier address line ≡ words_of w address line
unfolding line_words
line_words-line w first earlier address line h =
    let text = all_weaker is_line_byte is_text line-is_text line h.bytes in
    let header = or_right (not first) (is_good_header w line) (good_header w line h.first) in
    rw (code_of-line line h.bytes, text, header, code_says-line line h) (part_words-some w address line h.ended)
