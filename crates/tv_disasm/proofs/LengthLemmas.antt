-- How long the lines of a text are.
use Rattle.std.proofs.Common.{◌≡◌, ℕ, ◌+◌, ◌*◌, ◌/◌, ◌^◌, ◌<◌, ◌≤◌, Bool, true, false, if◌then◌else◌, List, [], ◌∷◌, ◌++◌, length, codes, decimal, Option}
use Rattle.std.proofs.Common.{Some, None, inl, inr, refl, arith}
use Rattle.std.proofs.lemmas.Fmt.{length-decimal-le}
use Rattle.std.proofs.lemmas.List.{length-append}
use Rattle.std.specs.List.{All, AllByRecursion, flat_map}
use Rattle.std.specs.Simd.{first_chunks}
use Rattle.tv_isa.specs.Instruction.{decode}
use Rattle.tv_isa.specs.Table.{TableRow, with_opcode}
use Rattle.tv_isa.specs.declared.instr.Instr.{Instr}
use Rattle.tv_isa.specs.declared.operation.Shape.{Shape}
use Rattle.tv_isa.specs.declared.operation.Shape.TheVariants.{DestSourceA, DestA, SourceA, OnlyA, ADest, Unused}
use Rattle.tv_word.proofs.WidthLaws.{for_widths}
use Rattle.tv_word.specs.Widths.{IsWidth}
use Rattle.tv_word.specs.Word.{word_at}
use Rattle.tv_asm.specs.Instruction.{operand_count}
use Rattle.tv_disasm.specs.Disassembly.{disassembly_of, text_line_of, instruction_text, last_text, raw_text, register_text, row_text}
use Rattle.tv_disasm.specs.Disassembly.{shows_all_bits, two_words_text}
use Rattle.tv_disasm.specs.Laws.{DisassemblyIsShort, DisassemblyOf32IsShorter}
use Rattle.tv_disasm.proofs.InstructionLemmas.{with_opcode-IsRow}
use Rattle.tv_disasm.proofs.NumberLemmas.{IsHexadecimal-hexadecimal}
use Rattle.tv_disasm.proofs.TextLemmas.{chunks-IsTwo, IsTwo, length-chunks, text_of}

length-register : (n : ℕ) → n < 16 → length (register_text n) ≤ 3
length-register n h = omega (arith, length-decimal-le 2 n (omega arith) (omega arith) (omega arith))

-- a word has at most this many decimal digits
abbrev HasDigits : ℕ → Type 0
HasDigits w = (a : ℕ) → a < 2 ^ w → length (decimal a) ≤ 5 * (w / 16)

length-word : (w : ℕ) → IsWidth w → HasDigits w
length-word = for_widths HasDigits (λ a h. length-decimal-le 5 a (omega arith) (omega arith) (omega arith))
    (λ a h. length-decimal-le 10 a (omega arith) (omega arith) (omega arith))

length-last_at : (w : ℕ) → IsWidth w → (imm : Bool) (a : ℕ) → a < 2 ^ w → length (if imm then decimal a else register_text a) ≤ 1 + 5 * (w / 16)
length-last_at w width true a h = omega (arith, length-word w width a h)
length-last_at w width false a h = omega (arith, length-word w width a h)

-- fields that fit their places
record IsFitting (w : ℕ) (i : Instr) : Type 0 where
  dest : length (register_text i.dest) ≤ 3
  source : length (register_text i.source) ≤ 3
  last : length (last_text i) ≤ 1 + 5 * (w / 16)

length-instruction : (w : ℕ) → IsWidth w → (name : List ℕ) (shape : Shape) (i : Instr) → length name + 5 * operand_count shape ≤ 20 → IsFitting w i
    → length (instruction_text name shape i) ≤ 17 + 5 * (w / 16)
length-instruction w width name DestSourceA i h f = simp length-append (omega (arith, f.dest, f.source, f.last))
length-instruction w width name DestA i h f = simp length-append (omega (arith, f.dest, f.last))
length-instruction w width name SourceA i h f = simp length-append (omega (arith, f.source, f.last))
length-instruction w width name OnlyA i h f = simp length-append (omega (arith, f.last))
length-instruction w width name ADest i h f = simp length-append (omega (arith, f.dest, f.last))
length-instruction w width name Unused i h f = simp length-append (omega (arith, width))

length-raw : (w : ℕ) → IsWidth w → (h a : ℕ) → a < 2 ^ w → length (raw_text w h a) ≤ 17 + 5 * (w / 16)
length-raw w width h a below =
    let x = IsHexadecimal-hexadecimal (w / 4) h in
    let short : w / 4 ≤ 8 = omega (arith, width) in
    simp length-append (omega (arith, x.count, length-word w width a below))

decode-fitting : (w : ℕ) → IsWidth w → (h a : ℕ) → a < 2 ^ w → IsFitting w (decode w h a)
decode-fitting w width h a below =
    let i = decode w h a in
    record { dest = length-register i.dest (omega arith); source = length-register i.source (omega arith); last = length-last_at w width i.imm a below }

length-by_name : (w : ℕ) → IsWidth w → (h a : ℕ) (row : TableRow) (b : Bool) → a < 2 ^ w → length row.name + 5 * operand_count row.shape ≤ 20
    → length (if b then instruction_text row.name row.shape (decode w h a) else raw_text w h a) ≤ 17 + 5 * (w / 16)
length-by_name w width h a row true below name =
    length-instruction w width row.name row.shape (decode w h a) name (decode-fitting w width h a below)
length-by_name w width h a row false below name = length-raw w width h a below

length-row_text : (w : ℕ) → IsWidth w → (h a : ℕ) (row : Option TableRow) → a < 2 ^ w → with_opcode (decode w h a).op ≡ row
    → length (row_text w h a row) ≤ 17 + 5 * (w / 16)
length-row_text w width h a None below e = length-raw w width h a below
length-row_text w width h a (Some row) below e =
    length-by_name w width h a row (shows_all_bits w h row.shape (decode w h a)) below (with_opcode-IsRow (decode w h a).op row e).short

length-two_words : (w : ℕ) → IsWidth w → (h a : ℕ) → a < 2 ^ w → length (two_words_text w h a) ≤ 17 + 5 * (w / 16)
unfolding two_words_text
length-two_words w width h a below =
    length-row_text w width h a (with_opcode (decode w h a).op) below refl

length-texts : (w : ℕ) → IsWidth w → (pairs : List (List ℕ)) → AllByRecursion (IsTwo w) pairs
    → length (flat_map (λ two. text_of w two ++ codes "\n") pairs) ≤ (18 + 5 * (w / 16)) * length pairs
length-texts w width [] h = omega arith
length-texts w width (two ∷ more) h =
    let line = length-two_words w width (word_at w two 0) (word_at w two (w / 8)) h.0.second in
    simp length-append (omega (arith, length-texts w width more h.1))

-- the lines of an image of n bytes
lines_short : (w : ℕ) → IsWidth w → (image : List ℕ) → All (λ b. b < 256) image
    → length (flat_map (text_line_of w) (first_chunks (w / 4) (length image / (w / 4)) image)) ≤ (18 + 5 * (w / 16)) * (length image / (w / 4))
lines_short w width image bytes =
    let k = length image / (w / 4) in
    rw (length-chunks (w / 4) k image) at (length-texts w width (first_chunks (w / 4) k image) (chunks-IsTwo w width k image bytes))

pub text_shorter : DisassemblyOf32IsShorter
unfolding disassembly_of
text_shorter image bytes = omega (arith, lines_short 32 (inr refl) image bytes)

short_16 : (image : List ℕ) → All (λ b. b < 256) image → length (disassembly_of 16 image) ≤ 6 * length image + 20
unfolding disassembly_of
short_16 image bytes = simp length-append (omega (arith, lines_short 16 (inl refl) image bytes))

short_32 : (image : List ℕ) → All (λ b. b < 256) image → length (disassembly_of 32 image) ≤ 6 * length image + 20
short_32 image bytes = omega (arith, text_shorter image bytes)

pub text_short : DisassemblyIsShort
text_short = for_widths (λ w. (image : List ℕ) → All (λ b. b < 256) image → length (disassembly_of w image) ≤ 6 * length image + 20) short_16 short_32

pub ruleset text_lengths = (text_short, text_shorter)
