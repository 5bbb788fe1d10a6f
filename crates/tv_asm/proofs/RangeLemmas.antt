-- An image has no more words than it may have, and they are numbers of as many bits as words have.
use Rattle.std.proofs.Common.{◌≡◌, ℕ, ◌+◌, ◌-◌, ◌*◌, ◌/◌, ◌%◌, ◌^◌, ◌<◌, ◌≤◌, ◌==◌, Bool, true, false, ltb, leb, not, ◌&&◌, ◌||◌, cond, if◌then◌else◌, List}
use Rattle.std.proofs.Common.{[], ◌∷◌, ◌++◌, length, drop, slice_index, codes, Option, Some, None, Result, Ok, Err, All, refl, ap, arith}
use Rattle.std.specs.Prelude.{IfOk, nat_eq}
use Rattle.std.proofs.lemmas.Bool.{and_parts, cond_both, leb-true, ltb-true}
use Rattle.std.proofs.lemmas.List.{length-append}
use Rattle.std.proofs.lemmas.List.Elements.{All-from_recursion}
use Rattle.std.specs.List.{AllByRecursion, before_first, count_by, list_all, starts_with}
use Rattle.std.specs.Option.{IfSome, ok_or, option_map_or}
use Rattle.std.specs.Str.{bytes_eq}
use Rattle.tv_isa.proofs.TableLemmas.{find-all}
use Rattle.tv_isa.specs.Instruction.{IsInstruction, encode}
use Rattle.tv_isa.specs.Table.{TableRow, instructions, with_name}
use Rattle.tv_isa.specs.declared.instr.Instr.{Instr}
use Rattle.tv_isa.specs.declared.operation.Shape.{Shape}
use Rattle.tv_isa.specs.declared.operation.Shape.TheVariants.{DestSourceA, DestA, SourceA, OnlyA, ADest, Unused}
use Rattle.tv_word.proofs.WidthLaws.{for_widths}
use Rattle.tv_word.specs.Numeral.{is_numeral, numeral, positional}
use Rattle.tv_word.specs.Widths.{IsWidth}
use Rattle.tv_asm.specs.Assembly.{Context, at_line, assembled, context_after, image_of, line_words, part_words, with_line}
use Rattle.tv_asm.specs.Header.{is_good_header}
use Rattle.tv_asm.specs.Instruction.{counted, fields, name_of, operand_at, operand_count, operands_in, raw_words, table_words, words_of}
use Rattle.tv_asm.specs.Labels.{address, defines, has_instruction, is_defined}
use Rattle.tv_asm.specs.Laws.{ImagesAreShort, ImagesAreWords}
use Rattle.tv_asm.specs.Line.{code_of, is_text, said}
use Rattle.tv_asm.specs.Operand.{number, operand, register}
use Rattle.tv_asm.specs.Steps.{◌>>=◌, check}
use Rattle.tv_asm.specs.Text.{lines}
use Rattle.tv_asm.specs.declared.fault.AsmFault.TheVariants.{TooMany}
use Rattle.tv_asm.specs.declared.fault.AsmWhy.{AsmWhy}
use Rattle.tv_asm.specs.declared.operand.Operand.{Operand}
use Rattle.tv_asm.specs.declared.fault.AsmWhy.TheVariants.{NotText, BadHeader, BadLabel, DoubledLabel, UnknownName, BadRegister, BadNumber, UnknownLabel}

bind_if : {A B E : Type 0} (read : Result A E) (f : A → Result B E) (P : B → Type 0) → ((x : A) → read ≡ Ok x → IfOk (f x) P) → IfOk (read >>= f) P
bind_if (Ok x) f P h = h x refl
bind_if (Err fault) f P h = tt

check_if : {B E : Type 0} (test : Bool) (fault : E) (f : Unit {0} → Result B E) (P : B → Type 0) → (test ≡ true → IfOk (f tt) P)
    → IfOk (check test fault >>= f) P
check_if true fault f P h = h refl
check_if false fault f P h = tt

known : {A E : Type 0} (read : Result A E) (P : A → Type 0) (x : A) → read ≡ Ok x → IfOk read P → P x
known (Ok y) P x is h = let same : y ≡ x = cc in rw (← same) h
known (Err fault) P x is h = cc

some_if : {A E : Type 0} (found : Option A) (fault : E) (P : A → Type 0) → IfSome found P → IfOk (ok_or found fault) P
some_if (Some x) fault P h = h
some_if None fault P h = tt

found_some : {A E : Type 0} (found : Option A) (fault : E) (x : A) → ok_or found fault ≡ Ok x → found ≡ Some x
found_some (Some y) fault x is = let same : y ≡ x = cc in ap (λ z. Some z) same
found_some None fault x is = cc

-- no more words than there may be
line_fits : (w most : ℕ) (context : Context) (words line : List ℕ) → IfOk (with_line w most context words line) (λ next. length next ≤ most)
line_fits w most context words line =
    bind_if (at_line context.number (line_words w (context.number == 1) context.earlier context.address line)) _ (λ next. length next ≤ most) (λ two _.
    check_if (leb (length words + length two) most) (TooMany context.number most) _ (λ next. length next ≤ most) (λ test.
    rw (length-append words two) (leb-true (length words + length two) most test)))

lines_fit : (w most : ℕ) (all before : List (List ℕ)) (words : List ℕ) (more : List (List ℕ)) → length words ≤ most
    → IfOk (image_of w most all before words more) (λ words. length words ≤ most)
lines_fit w most all before words [] room = room
lines_fit w most all before words (line ∷ more) room =
    bind_if (with_line w most (context_after w all before) words line) _ (λ words. length words ≤ most) (λ next is.
    lines_fit w most all (before ++ line ∷ []) next more
    (known _ (λ words. length words ≤ most) next is (line_fits w most (context_after w all before) words line)))

pub images_short : ImagesAreShort
unfolding assembled
images_short w most text = lines_fit w most (lines text) [] [] (lines text) (omega arith)

-- words of w bits
abbrev AreSmall : ℕ → List ℕ → Type 0
AreSmall w words = AllByRecursion (λ word. word < 2 ^ w) words

both : (w : ℕ) (xs ys : List ℕ) → AreSmall w xs → AreSmall w ys → AreSmall w (xs ++ ys)
both w [] ys h k = k
both w (x ∷ xs) ys h k = (h.0, both w xs ys h.1 k)

numeral_small : (base bound : ℕ) (text : List ℕ) → IfSome (numeral base bound text) (λ n. n < bound)
numeral_small base bound text =
    cond_both (is_numeral base text && ltb (positional base text) bound) (Some (positional base text)) None (λ found. IfSome found (λ n. n < bound))
    (λ test. ltb-true (positional base text) bound (and_parts (is_numeral base text) (ltb (positional base text) bound) test).1) (λ _. tt)

number_small : (w : ℕ) (text : List ℕ) → IfOk (number w text) (λ n. n < 2 ^ w)
unfolding number
number_small w text =
    some_if (if starts_with nat_eq text (codes "0x") then numeral 16 (2 ^ w) (drop 2 text) else numeral 10 (2 ^ w) text) BadNumber (λ n. n < 2 ^ w)
    (cond_both (starts_with nat_eq text (codes "0x")) _ _ (λ (found : Option ℕ). IfSome found (λ n. n < 2 ^ w)) (λ _. numeral_small 16 (2 ^ w) (drop 2 text))
    (λ _. numeral_small 10 (2 ^ w) text))

register_small : (text : List ℕ) → IfOk (register text) (λ r. r < 16)
unfolding register
register_small text =
    cond_both (slice_index text 0 == 114 && (length (drop 1 text) == 1 || not (slice_index (drop 1 text) 0 == 48))) _ _
    (λ (read : Result ℕ AsmWhy). IfOk read (λ r. r < 16))
    (λ _. some_if (numeral 10 16 (drop 1 text)) BadRegister (λ r. r < 16) (numeral_small 10 16 (drop 1 text))) (λ _. tt)

-- addresses are words of w bits
record HasSmall (w : ℕ) (address : List ℕ → Option ℕ) : Type 0 where
  each : (name : List ℕ) → IfSome (address name) (λ a. a < 2 ^ w)

below_power : (w : ℕ) → IsWidth w → (n : ℕ) → n % 2 ^ w < 2 ^ w
below_power = for_widths (λ w. (n : ℕ) → n % 2 ^ w < 2 ^ w) (λ n. omega arith) (λ n. omega arith)

register_below : (w : ℕ) → IsWidth w → (r : ℕ) → r < 16 → r < 2 ^ w
register_below = for_widths (λ w. (r : ℕ) → r < 16 → r < 2 ^ w) (λ r h. omega arith) (λ r h. omega arith)

address_small : (w : ℕ) → IsWidth w → (all : List (List ℕ)) → HasSmall w (address w all)
address_small w width all = record {
  each = λ name. cond_both (is_defined all name) (Some _) None (λ found. IfSome found (λ a. a < 2 ^ w))
      (λ _. below_power w width (2 * (w / 8) * count_by has_instruction (before_first (defines name) all))) (λ _. tt);
}

operand_small : (w : ℕ) → IsWidth w → (place : List ℕ → Option ℕ) → HasSmall w place → (text : List ℕ) → IfOk (operand w place text) (λ o. o.a < 2 ^ w)
unfolding operand
operand_small w width place small text =
    cond_both (slice_index text 0 == 114) _ _ (λ (read : Result Operand AsmWhy). IfOk read (λ o. o.a < 2 ^ w))
    (λ _. bind_if (register text) _ (λ o. o.a < 2 ^ w) (λ r is. register_below w width r (known (register text) (λ r. r < 16) r is (register_small text))))
    (λ _. cond_both (slice_index text 0 == 95) _ _ (λ (read : Result Operand AsmWhy). IfOk read (λ o. o.a < 2 ^ w))
    (λ _. bind_if (ok_or (place text) UnknownLabel) _ (λ o. o.a < 2 ^ w)
    (λ a is. known (ok_or (place text) UnknownLabel) (λ a. a < 2 ^ w) a is (some_if (place text) UnknownLabel (λ a. a < 2 ^ w) (small.each text))))
    (λ _. bind_if (number w text) _ (λ o. o.a < 2 ^ w) (λ n is. known (number w text) (λ n. n < 2 ^ w) n is (number_small w text))))

-- an instruction's fields, its second word of w bits
record IsSmall (w : ℕ) (i : Instr) : Type 0 where
  fields : IsInstruction i
  a : i.a < 2 ^ w

fields_small : (w : ℕ) → IsWidth w → (place : List ℕ → Option ℕ) → HasSmall w place → (op : ℕ) → op < 32 → (shape : Shape) (text : ℕ → List ℕ)
    → IfOk (fields w place op shape text) (IsSmall w)
fields_small w width place small op used DestSourceA text =
    bind_if (register (text 0)) _ (IsSmall w) (λ dest d.
    bind_if (register (text 1)) _ (IsSmall w) (λ source s.
    bind_if (operand w place (text 2)) _ (IsSmall w) (λ last l. record {
      fields = record {
        op = used;
        dest = known _ (λ r. r < 16) dest d (register_small (text 0));
        source = known _ (λ r. r < 16) source s (register_small (text 1));
      };
      a = known _ (λ o. o.a < 2 ^ w) last l (operand_small w width place small (text 2));
    })))
fields_small w width place small op used DestA text =
    bind_if (register (text 0)) _ (IsSmall w) (λ dest d.
    bind_if (operand w place (text 1)) _ (IsSmall w) (λ last l. record {
      fields = record { op = used; dest = known _ (λ r. r < 16) dest d (register_small (text 0)); source = omega arith };
      a = known _ (λ o. o.a < 2 ^ w) last l (operand_small w width place small (text 1));
    }))
fields_small w width place small op used SourceA text =
    bind_if (register (text 0)) _ (IsSmall w) (λ source s.
    bind_if (operand w place (text 1)) _ (IsSmall w) (λ last l. record {
      fields = record { op = used; dest = omega arith; source = known _ (λ r. r < 16) source s (register_small (text 0)) };
      a = known _ (λ o. o.a < 2 ^ w) last l (operand_small w width place small (text 1));
    }))
fields_small w width place small op used OnlyA text =
    bind_if (operand w place (text 0)) _ (IsSmall w) (λ last l. record {
      fields = record { op = used; dest = omega arith; source = omega arith };
      a = known _ (λ o. o.a < 2 ^ w) last l (operand_small w width place small (text 0));
    })
fields_small w width place small op used ADest text =
    bind_if (operand w place (text 0)) _ (IsSmall w) (λ first f.
    bind_if (register (text 1)) _ (IsSmall w) (λ dest d. record {
      fields = record { op = used; dest = known _ (λ r. r < 16) dest d (register_small (text 1)); source = omega arith };
      a = known _ (λ o. o.a < 2 ^ w) first f (operand_small w width place small (text 0));
    }))
fields_small w width place small op used Unused text = tt

-- the first word of such fields
abbrev FirstWordFits : ℕ → Type 0
FirstWordFits w = (op dest source : ℕ) (imm : Bool) → op < 32 → dest < 16 → source < 16
    → op * 2 ^ (w - 5) + cond imm (2 ^ (w - 6)) 0 + dest * 2 ^ (w - 10) + source * 2 ^ (w - 14) < 2 ^ w

first_word_16 : FirstWordFits 16
first_word_16 op dest source true o d s = omega arith
first_word_16 op dest source false o d s = omega arith

first_word_32 : FirstWordFits 32
first_word_32 op dest source true o d s = omega arith
first_word_32 op dest source false o d s = omega arith

encode_small : (w : ℕ) → IsWidth w → (i : Instr) → IsSmall w i → AreSmall w (encode w i)
encode_small w width i h =
    (for_widths FirstWordFits first_word_16 first_word_32 w width i.op i.dest i.source i.imm h.fields.op h.fields.dest h.fields.source, (h.a, tt))

opcodes : list_all (λ r. ltb r.op 32) instructions ≡ true
unfolding instructions
opcodes = refl

named_used : (name : List ℕ) (row : TableRow) → with_name name ≡ Some row → row.op < 32
unfolding with_name
named_used name row is =
    ltb-true row.op 32 (find-all (λ r. bytes_eq r.name name) (λ r. ltb r.op 32) instructions row opcodes is)

table_small : (w : ℕ) → IsWidth w → (place : List ℕ → Option ℕ) → HasSmall w place → (name : List ℕ) (operands : List (List ℕ))
    → IfOk (table_words w place name operands) (AreSmall w)
table_small w width place small name operands =
    bind_if (ok_or (with_name name) UnknownName) _ (AreSmall w) (λ row r.
    bind_if (counted operands (operand_count row.shape)) _ (AreSmall w) (λ _ _.
    bind_if (fields w place row.op row.shape (operand_at operands)) _ (AreSmall w) (λ instr i.
    let used = named_used name row (found_some (with_name name) UnknownName row r) in
    encode_small w width instr (known _ (IsSmall w) instr i (fields_small w width place small row.op used row.shape (operand_at operands))))))

raw_small : (w : ℕ) (operands : List (List ℕ)) → IfOk (raw_words w operands) (AreSmall w)
raw_small w operands =
    bind_if (counted operands 2) _ (AreSmall w) (λ _ _.
    bind_if (number w (operand_at operands 0)) _ (AreSmall w) (λ h is.
    bind_if (number w (operand_at operands 1)) _ (AreSmall w) (λ a are.
    (known _ (λ n. n < 2 ^ w) h is (number_small w (operand_at operands 0)), (known _ (λ n. n < 2 ^ w) a are (number_small w (operand_at operands 1)), tt)))))

words_small : (w : ℕ) → IsWidth w → (place : List ℕ → Option ℕ) → HasSmall w place → (text : List ℕ) → IfOk (words_of w place text) (AreSmall w)
unfolding words_of
words_small w width place small text =
    let name = name_of text in
    let operands = operands_in (drop (length name) text) in
    cond_both (bytes_eq name (codes ".raw")) _ _ (λ (read : Result (List ℕ) AsmWhy). IfOk read (AreSmall w)) (λ _. raw_small w operands)
    (λ _. table_small w width place small name operands)

part_small : (w : ℕ) → IsWidth w → (place : List ℕ → Option ℕ) → HasSmall w place → (text : List ℕ) → IfOk (part_words w place text) (AreSmall w)
part_small w width place small [] = tt
part_small w width place small (c ∷ cs) = words_small w width place small (c ∷ cs)

line_small : (w : ℕ) → IsWidth w → (first : Bool) (earlier : List ℕ → Bool) (place : List ℕ → Option ℕ) → HasSmall w place → (line : List ℕ)
    → IfOk (line_words w first earlier place line) (AreSmall w)
unfolding line_words
line_small w width first earlier place small line =
    check_if (list_all is_text (code_of line)) NotText _ (AreSmall w) (λ _.
    check_if (not first || is_good_header w line) BadHeader _ (AreSmall w) (λ _.
    bind_if (ok_or (said line) BadLabel) _ (AreSmall w) (λ s _.
    check_if (not (option_map_or earlier s.label false)) DoubledLabel _ (AreSmall w) (λ _.
    part_small w width place small s.instruction))))

at_line_small : {A : Type 0} (number : ℕ) (read : Result A AsmWhy) (P : A → Type 0) → IfOk read P → IfOk (at_line number read) P
at_line_small number (Ok x) P h = h
at_line_small number (Err why) P h = tt

next_small : (w : ℕ) → IsWidth w → (most : ℕ) (context : Context) → HasSmall w context.address → (words line : List ℕ)
    → AreSmall w words → IfOk (with_line w most context words line) (AreSmall w)
next_small w width most context small words line so_far =
    let said_words = line_words w (context.number == 1) context.earlier context.address line in
    bind_if (at_line context.number said_words) _ (AreSmall w) (λ two is.
    check_if (leb (length words + length two) most) (TooMany context.number most) _ (AreSmall w) (λ _.
    both w words two so_far (known _ (AreSmall w) two is
    (at_line_small context.number said_words (AreSmall w) (line_small w width (context.number == 1) context.earlier context.address small line)))))

image_small : (w : ℕ) → IsWidth w → (most : ℕ) (all before : List (List ℕ)) (words : List ℕ) (more : List (List ℕ)) → AreSmall w words
    → IfOk (image_of w most all before words more) (AreSmall w)
image_small w width most all before words [] so_far = so_far
image_small w width most all before words (line ∷ more) so_far =
    bind_if (with_line w most (context_after w all before) words line) _ (AreSmall w) (λ next is.
    image_small w width most all (before ++ line ∷ []) next more
    (known _ (AreSmall w) next is (next_small w width most (context_after w all before)
    (address_small w width all) words line so_far)))

by_index : {E : Type 0} (w : ℕ) (read : Result (List ℕ) E) → IfOk read (AreSmall w) → IfOk read (All (λ word. word < 2 ^ w))
by_index w (Ok words) h = All-from_recursion (λ word. word < 2 ^ w) words h
by_index w (Err fault) h = tt

pub images_words : ImagesAreWords
unfolding assembled
images_words w width most text =
    by_index w (image_of w most (lines text) [] [] (lines text)) (image_small w width most (lines text) [] [] (lines text) tt)
