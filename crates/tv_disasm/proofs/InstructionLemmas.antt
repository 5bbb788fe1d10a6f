-- Two words and their line: by name, and as they are.
use Rattle.std.proofs.Common.{◌≡◌, ℕ, ◌+◌, ◌-◌, ◌*◌, ◌/◌, ◌%◌, ◌^◌, ◌<◌, ◌≤◌, ◌==◌, nat_le, nat_lt, Bool, true, false, not, ◌&&◌, ◌||◌, cond, if◌then◌else◌}
use Rattle.std.proofs.Common.{List, [], ◌∷◌, ◌++◌, length, map, slice_index, codes, decimal, Option, Some, None, Ok, refl, sym, ap, ◌∙◌, arith}
use Rattle.std.proofs.lemmas.Bool.{and_parts, eqb-true, leb-true, ltb-true, not-true}
use Rattle.std.proofs.lemmas.Bool.Decides.{nat_tests}
use Rattle.std.proofs.lemmas.List.{append-nil, append_assoc}
use Rattle.std.specs.List.{find, list_all}
use Rattle.std.specs.Str.{bytes_eq}
use Rattle.tv_asm.specs.Instruction.{counted, fields, operand_at, operand_count, raw_words, table_words, words_of}
use Rattle.tv_asm.specs.Operand.{operand}
use Rattle.tv_isa.proofs.TableLemmas.{find-all}
use Rattle.tv_isa.specs.Instruction.{decode, encode}
use Rattle.tv_isa.specs.Table.{TableRow, instructions, with_name, with_opcode}
use Rattle.tv_isa.specs.declared.instr.Instr.{Instr}
use Rattle.tv_isa.specs.declared.operation.Shape.{Shape}
use Rattle.tv_isa.specs.declared.operation.Shape.TheVariants.{DestSourceA, DestA, SourceA, OnlyA, ADest, Unused}
use Rattle.tv_word.proofs.DecimalLemmas.{is_decimal_byte, IsDecimal-decimal}
use Rattle.tv_word.proofs.WidthLaws.{for_widths}
use Rattle.tv_word.specs.Widths.{IsWidth}
use Rattle.tv_disasm.specs.Disassembly.{hexadecimal, instruction_text, last_text, leaves_zero, operand_texts, raw_text, register_text, row_text, shows_all_bits}
use Rattle.tv_disasm.specs.Disassembly.{two_words_text}
use Rattle.tv_disasm.proofs.LineLemmas.{AreOperands, IsTextLine, printed_line, spelled-IsTextLine, words_of-line}
use Rattle.tv_disasm.proofs.NumberLemmas.{first-decimal, IsDecimal-IsWord, IsHexadecimal-hexadecimal, number-decimal, number-hexadecimal}
use Rattle.tv_disasm.proofs.NumberLemmas.{register-register_text, register-word, word_wide}
use Rattle.tv_disasm.proofs.WordLemmas.{apart, is_word_byte, IsWord}

step_passes : {A : Type 0} (p : A → Bool) (x y : A) (b : Bool) (rest : Option A) → p y ≡ b → cond b (Some y) rest ≡ Some x → (rest ≡ Some x → p x ≡ true)
    → p x ≡ true
step_passes p x y true rest e f more = cc
step_passes p x y false rest e f more = more f

-- the element that is found passes
find-passes : {A : Type 0} (p : A → Bool) (xs : List A) (x : A) → find p xs ≡ Some x → p x ≡ true
find-passes p [] x f = cc
find-passes p (y ∷ ys) x f = step_passes p x y (p y) (find p ys) refl f (find-passes p ys x)

step_same : {A B : Type 0} (f g : A → B) (x y : A) (b : Bool) (rest : Option A) → f y ≡ g y → cond b (Some y) rest ≡ Some x → (rest ≡ Some x → f x ≡ g x)
    → f x ≡ g x
step_same f g x y true rest e found more = cc
step_same f g x y false rest e found more = more found

-- functions that are the same along a list are so at the element that is found
find-same : {A B : Type 0} (p : A → Bool) (f g : A → B) (xs : List A) (x : A) → map f xs ≡ map g xs → find p xs ≡ Some x → f x ≡ g x
find-same p f g [] x e found = cc
find-same p f g (y ∷ ys) x e found =
    let here : f y ≡ g y = cc in
    let behind : map f ys ≡ map g ys = cc in
    step_same f g x y (p y) (find p ys) here found (find-same p f g ys x behind)

-- a row of the table: what its name is looked up to
pub record IsRow (opcode : ℕ) (row : TableRow) : Type 0 where
  pub op : row.op ≡ opcode
  pub found : with_name row.name ≡ Some row
  pub name : IsWord row.name
  pub short : length row.name + 5 * operand_count row.shape ≤ 20
  pub not_raw : bytes_eq row.name (codes ".raw") ≡ false

-- each name is looked up to its own row
names_found : map (λ row. with_name row.name) instructions ≡ map (λ row. Some row) instructions
unfolding instructions with_name
names_found = refl

names_words : list_all (λ row. nat_lt 0 (length row.name) && list_all is_word_byte row.name) instructions ≡ true
unfolding instructions
names_words = refl

names_short : list_all (λ row. nat_le (length row.name + 5 * operand_count row.shape) 20) instructions ≡ true
unfolding instructions
names_short = refl

names_not_raw : list_all (λ row. not (bytes_eq row.name (codes ".raw"))) instructions ≡ true
unfolding instructions
names_not_raw = refl

pub with_opcode-IsRow : (op : ℕ) (row : TableRow) → with_opcode op ≡ Some row → IsRow op row
unfolding with_opcode
with_opcode-IsRow op row h =
    let p = λ (r : TableRow). r.op == op in
    let word = and_parts (nat_lt 0 (length row.name)) (list_all is_word_byte row.name)
    (find-all p (λ r. nat_lt 0 (length r.name) && list_all is_word_byte r.name) instructions row names_words h) in
    record {
      op = eqb-true row.op op (find-passes p instructions row h);
      found = find-same p (λ r. with_name r.name) (λ r. Some r) instructions row names_found h;
      name = record { some = ltb-true 0 (length row.name) word.0; bytes = word.1 };
      short = leb-true (length row.name + 5 * operand_count row.shape) 20
          (find-all p (λ r. nat_le (length r.name + 5 * operand_count r.shape) 20) instructions row names_short h);
      not_raw = not-true (bytes_eq row.name (codes ".raw")) (find-all p (λ r. not (bytes_eq r.name (codes ".raw"))) instructions row names_not_raw h);
    }

-- the operand A, read back
operand-text : (w : ℕ) → IsWidth w → (address : List ℕ → Option ℕ) (imm : Bool) (a : ℕ) → (imm || nat_lt a 16) ≡ true → a < 2 ^ w
    → operand w address (if imm then decimal a else register_text a) ≡ Ok (record { imm = imm; a = a })
unfolding operand
operand-text w width address true a h below =
    let wide = word_wide w width a below in
    let first = first-decimal a (decimal a) (IsDecimal-decimal a wide) in
    rw (
      apart is_decimal_byte (slice_index (decimal a) 0) 114 first refl,
      apart is_decimal_byte (slice_index (decimal a) 0) 95 first refl,
      number-decimal w a below wide,
    ) refl
operand-text w width address false a h below = rw (register-register_text a (ltb-true a 16 h)) refl

-- an instruction whose text determines all of it
pub record IsTold (w : ℕ) (shape : Shape) (i : Instr) : Type 0 where
  pub dest : i.dest < 16
  pub source : i.source < 16
  pub zeros : leaves_zero shape i ≡ true
  pub last : (i.imm || nat_lt i.a 16) ≡ true
  pub a : i.a < 2 ^ w

last-word : (w : ℕ) → IsWidth w → (i : Instr) → i.a < 2 ^ w → (b : Bool) → i.imm ≡ b → IsWord (last_text i)
last-word w width i h true e =
    rw e (IsDecimal-IsWord i.a (decimal i.a) (IsDecimal-decimal i.a (word_wide w width i.a h)))
last-word w width i h false e = rw e (register-word i.a (word_wide w width i.a h))

-- its operands are words
pub operand_texts-words : (w : ℕ) → IsWidth w → (shape : Shape) (i : Instr) → IsTold w shape i → AreOperands (operand_texts shape i)
operand_texts-words w width DestSourceA i h =
    record {
      some = omega arith;
      words = (register-word i.dest (omega (arith, h.dest)), (register-word i.source (omega (arith, h.source)), (last-word w width i h.a i.imm refl, tt)));
    }
operand_texts-words w width DestA i h =
    record { some = omega arith; words = (register-word i.dest (omega (arith, h.dest)), (last-word w width i h.a i.imm refl, tt)) }
operand_texts-words w width SourceA i h =
    record { some = omega arith; words = (register-word i.source (omega (arith, h.source)), (last-word w width i h.a i.imm refl, tt)) }
operand_texts-words w width OnlyA i h =
    record { some = omega arith; words = (last-word w width i h.a i.imm refl, tt) }
operand_texts-words w width ADest i h =
    record { some = omega arith; words = (last-word w width i h.a i.imm refl, (register-word i.dest (omega (arith, h.dest)), tt)) }
operand_texts-words w width Unused i h = cc (h.zeros)

-- there are as many as wanted
texts-counted : (shape : Shape) (i : Instr) → counted (operand_texts shape i) (operand_count shape) ≡ Ok tt
texts-counted DestSourceA i = refl
texts-counted DestA i = refl
texts-counted SourceA i = refl
texts-counted OnlyA i = refl
texts-counted ADest i = refl
texts-counted Unused i = refl

-- its fields are read back
fields-texts : (w : ℕ) → IsWidth w → (address : List ℕ → Option ℕ) (shape : Shape) (i : Instr) → IsTold w shape i
    → fields w address i.op shape (operand_at (operand_texts shape i)) ≡ Ok i
fields-texts w width address DestSourceA i h =
    rw (register-register_text i.dest h.dest, register-register_text i.source h.source, operand-text w width address i.imm i.a h.last h.a) refl
fields-texts w width address DestA i h =
    let zero = eqb-true i.source 0 h.zeros in
    rw (register-register_text i.dest h.dest, operand-text w width address i.imm i.a h.last h.a)
    (ap (λ source. Ok (record { op = i.op; imm = i.imm; dest = i.dest; source = source; a = i.a })) (sym zero))
fields-texts w width address SourceA i h =
    let zero = eqb-true i.dest 0 h.zeros in
    rw (register-register_text i.source h.source, operand-text w width address i.imm i.a h.last h.a)
    (ap (λ dest. Ok (record { op = i.op; imm = i.imm; dest = dest; source = i.source; a = i.a })) (sym zero))
fields-texts w width address OnlyA i h =
    let zeros = and_parts (i.dest == 0) (i.source == 0) h.zeros in
    rw (operand-text w width address i.imm i.a h.last h.a)
    (ap (λ dest. Ok (record { op = i.op; imm = i.imm; dest = dest; source = 0; a = i.a })) (sym (eqb-true i.dest 0 zeros.0))
    ∙ ap (λ source. Ok (record { op = i.op; imm = i.imm; dest = i.dest; source = source; a = i.a })) (sym (eqb-true i.source 0 zeros.1)))
fields-texts w width address ADest i h =
    let zero = eqb-true i.source 0 h.zeros in
    rw (operand-text w width address i.imm i.a h.last h.a, register-register_text i.dest h.dest)
    (ap (λ source. Ok (record { op = i.op; imm = i.imm; dest = i.dest; source = source; a = i.a })) (sym zero))
fields-texts w width address Unused i h = cc (h.zeros)

bit-value : (b high : ℕ) → b < 2 → cond (b == 1) high 0 ≡ b * high
bit-value b high h = grind (arith, nat_tests)

-- the fields put together again
abbrev IsWhole : ℕ → Type 0
IsWhole w = (h : ℕ) → h < 2 ^ w → h % 2 ^ (w - 14) ≡ 0
    → h / 2 ^ (w - 5) % 2 ^ 5 * 2 ^ (w - 5) + h / 2 ^ (w - 6) % 2 * 2 ^ (w - 6) + h / 2 ^ (w - 10) % 2 ^ 4 * 2 ^ (w - 10) + h / 2 ^ (w - 14) % 2 ^ 4 * 2 ^
    (w - 14) ≡ h

whole-word : (w : ℕ) → IsWidth w → IsWhole w
whole-word = for_widths IsWhole (λ h below low. omega arith) (λ h below low. omega arith)

encode-decode : (w : ℕ) → IsWidth w → (h a : ℕ) → h < 2 ^ w → h % 2 ^ (w - 14) ≡ 0 → encode w (decode w h a) ≡ h ∷ a ∷ []
encode-decode w width h a below low =
    let bit : cond (h / 2 ^ (w - 6) % 2 == 1) (2 ^ (w - 6)) 0
    ≡ h / 2 ^ (w - 6) % 2 * 2 ^ (w - 6) = bit-value (h / 2 ^ (w - 6) % 2) (2 ^ (w - 6)) (omega arith) in
    rw bit (ap (λ word. word ∷ a ∷ []) (whole-word w width h below low))

-- a line of two words: what it is made of, and what it says
pub record IsLineOf (w h a : ℕ) (text : List ℕ) : Type 0 where
  pub line : IsTextLine text
  pub words : (address : List ℕ → Option ℕ) → words_of w address text ≡ Ok (h ∷ a ∷ [])

table_words-known : (w : ℕ) → IsWidth w → (address : List ℕ → Option ℕ) (row : TableRow) (i : Instr) → IsRow i.op row → IsTold w row.shape i
    → table_words w address row.name (operand_texts row.shape i) ≡ Ok (encode w i)
table_words-known w width address row i r t =
    rw (r.found, texts-counted row.shape i, r.op, fields-texts w width address row.shape i t) refl

-- an instruction by its name
instruction-IsLineOf : (w : ℕ) → IsWidth w → (h a : ℕ) (row : TableRow) → h < 2 ^ w → h % 2 ^ (w - 14) ≡ 0 → IsRow (decode w h a).op row
    → IsTold w row.shape (decode w h a) → IsLineOf w h a (instruction_text row.name row.shape (decode w h a))
instruction-IsLineOf w width h a row below low r t =
    let i = decode w h a in
    let operands = operand_texts row.shape i in
    let are : AreOperands operands = operand_texts-words w width row.shape i t in
    record {
      line = spelled-IsTextLine row.name operands r.name are;
      words = λ address.
          words_of-line w address row.name operands r.name are
          ∙ rw r.not_raw (table_words-known w width address row i r t ∙ ap (λ words. Ok words) (encode-decode w width h a below low));
    }

-- two words as they are, as a name and operands
raw_operands : ℕ → ℕ → ℕ → List (List ℕ)
raw_operands w h a = (codes "0x" ++ hexadecimal (w / 4) h) ∷ decimal a ∷ []

raw-spelled : (w h a : ℕ) → raw_text w h a ≡ printed_line (codes ".raw") (raw_operands w h a)
unfolding raw_operands
raw-spelled w h a =
    rw (append-nil (decimal a), append_assoc (hexadecimal (w / 4) h) (codes ", ") (decimal a)) refl

raw-operands : (w : ℕ) → IsWidth w → (h a : ℕ) → a < 2 ^ w → AreOperands (raw_operands w h a)
unfolding raw_operands
raw-operands w width h a below =
    let x = IsHexadecimal-hexadecimal (w / 4) h in
    record {
      some = omega arith;
      words = (
        record { some = omega arith; bytes = x.bytes },
        (IsDecimal-IsWord a (decimal a) (IsDecimal-decimal a (word_wide w width a below)), tt),
      );
    }

raw-words : (w : ℕ) → IsWidth w → (h a : ℕ) → h < 2 ^ w → a < 2 ^ w → raw_words w (raw_operands w h a) ≡ Ok (h ∷ a ∷ [])
unfolding raw_operands
raw-words w width h a high below =
    rw (number-hexadecimal w width h high, number-decimal w a below (word_wide w width a below)) refl

raw-IsLineOf : (w : ℕ) → IsWidth w → (h a : ℕ) → h < 2 ^ w → a < 2 ^ w → IsLineOf w h a (raw_text w h a)
raw-IsLineOf w width h a high below =
    let operands = raw_operands w h a in
    let name : IsWord (codes ".raw") = record { some = omega arith; bytes = refl } in
    let are = raw-operands w width h a below in
    let whole : IsLineOf w h a (printed_line (codes ".raw") operands) = record {
      line = spelled-IsTextLine (codes ".raw") operands name are;
      words = λ address.
          words_of-line w address (codes ".raw") operands name are ∙ raw-words w width h a high below;
    } in
    rw (raw-spelled w h a) whole

known : (w h a : ℕ) (shape : Shape) → a < 2 ^ w → leaves_zero shape (decode w h a) ≡ true → ((decode w h a).imm || nat_lt a 16) ≡ true
    → IsTold w shape (decode w h a)
known w h a shape below zeros last =
    record { dest = omega arith; source = omega arith; zeros = zeros; last = last; a = below }

by_name_or_raw : (w : ℕ) → IsWidth w → (h a : ℕ) (row : TableRow) (b : Bool) → h < 2 ^ w → a < 2 ^ w → IsRow (decode w h a).op row
    → shows_all_bits w h row.shape (decode w h a) ≡ b
    → IsLineOf w h a (if b then instruction_text row.name row.shape (decode w h a) else raw_text w h a)
by_name_or_raw w width h a row true high below r e =
    let i = decode w h a in
    let parts = and_parts (h % 2 ^ (w - 14) == 0 && leaves_zero row.shape i) (i.imm || nat_lt i.a 16) e in
    let first = and_parts (h % 2 ^ (w - 14) == 0) (leaves_zero row.shape i) parts.0 in
    instruction-IsLineOf w width h a row high (eqb-true (h % 2 ^ (w - 14)) 0 first.0) r (known w h a row.shape below first.1 parts.1)
by_name_or_raw w width h a row false high below r e = raw-IsLineOf w width h a high below

row_text-IsLineOf : (w : ℕ) → IsWidth w → (h a : ℕ) (row : Option TableRow) → h < 2 ^ w → a < 2 ^ w → with_opcode (decode w h a).op ≡ row
    → IsLineOf w h a (row_text w h a row)
row_text-IsLineOf w width h a None high below e = raw-IsLineOf w width h a high below
row_text-IsLineOf w width h a (Some row) high below e =
    by_name_or_raw w width h a row (shows_all_bits w h row.shape (decode w h a)) high below (with_opcode-IsRow (decode w h a).op row e) refl

-- the line of two words says these words
pub two_words-IsLineOf : (w : ℕ) → IsWidth w → (h a : ℕ) → h < 2 ^ w → a < 2 ^ w → IsLineOf w h a (two_words_text w h a)
unfolding two_words_text
two_words-IsLineOf w width h a high below =
    row_text-IsLineOf w width h a (with_opcode (decode w h a).op) high below refl
