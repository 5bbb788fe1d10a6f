-- A program text is its lines: the addresses of labels, the faults of a line in their order, and the image.
use Rattle.std.proofs.Common.{◌≡◌, ℕ, suc, ◌+◌, ◌*◌, ◌/◌, ◌<◌, ◌≤◌, ◌==◌, Bool, true, false, leb, not, ◌||◌, if◌then◌else◌, List}
use Rattle.std.proofs.Common.{[], ◌∷◌, ◌++◌, length, take, drop, codes, Option, Some, None, Result, Ok, Err, refl, sym, ap, ◌∙◌, subst, arith, inl, inr}
use Rattle.std.specs.Prelude.{slice_get}
use Rattle.std.proofs.Math.Seq.{take-append_seam, take-length}
use Rattle.std.proofs.lemmas.Bool.{eqb-true, eqb-false, leb-true, leb-false}
use Rattle.std.proofs.lemmas.Grind.{flat_map-append}
use Rattle.std.proofs.lemmas.List.{length-append, append_assoc, append-nil}
use Rattle.std.specs.List.{before_first, list_all, position_or_len}
use Rattle.std.specs.Option.{ok_or, option_map_or}
use Rattle.std.specs.Str.{bytes_eq}
use Rattle.tv_isa.proofs.TableLemmas.{find-all}
use Rattle.tv_isa.specs.Instruction.{encode}
use Rattle.tv_isa.specs.Table.{TableRow, instructions, with_name}
use Rattle.tv_isa.specs.declared.operation.Shape.{Shape}
use Rattle.tv_isa.specs.declared.operation.Shape.TheVariants.{DestSourceA, DestA, SourceA, OnlyA, ADest, Unused}
use Rattle.tv_word.specs.Widths.{IsWidth}
use Rattle.tv_asm.specs.Assembly.{assembled, image_of, line_words, part_words}
use Rattle.tv_asm.specs.Header.{is_good_header}
use Rattle.tv_asm.specs.Instruction.{counted, fields, name_of, operand_at, operand_count, operands_in, raw_words, table_words, words_of}
use Rattle.tv_asm.specs.Labels.{address, defines, is_defined}
use Rattle.tv_asm.specs.Language.{LabelsCountInstructions, unless, fault_in, Kind, kinds, operand_faults, form_faults, row_faults, named_faults}
use Rattle.tv_asm.specs.Language.{instruction_faults, said_faults, line_faults, faults_at, instruction_in, words_in, line_image, lines_image}
use Rattle.tv_asm.specs.Language.{AreGood, FaultIs, IsTooMany, Means, TextsMeanTheirLines}
use Rattle.tv_asm.specs.Line.{Said, code_of, is_text, said}
use Rattle.tv_asm.specs.Operand.{number, operand, register}
use Rattle.tv_asm.specs.Steps.{◌>>=◌, check}
use Rattle.tv_asm.specs.Text.{lines}
use Rattle.tv_asm.specs.declared.fault.AsmWhy.{AsmWhy}
use Rattle.tv_asm.specs.declared.fault.AsmWhy.TheVariants.{NotText, BadHeader, BadLabel, DoubledLabel, UnknownName, Operands}

-- ---- labels
-- the first line that defines a label stands after those that don't
first_defining : (name : List ℕ) (before after : List (List ℕ)) (line : List ℕ) → is_defined before name ≡ false → defines name line ≡ true
    → before_first (defines name) (before ++ line ∷ after) ≡ before
first_defining name [] after line none here = rw here refl
first_defining name (l ∷ ls) after line none here = by_test (defines name l) refl (λ rest. first_defining name ls after line rest here)
  where
    by_test : (b : Bool) → defines name l ≡ b → (is_defined ls name ≡ false → before_first (defines name) (ls ++ line ∷ after) ≡ ls)
        → before_first (defines name) ((l ∷ ls) ++ line ∷ after) ≡ l ∷ ls
    by_test true e rest = absurd (let never : true ≡ false = rw e at none in cc)
    by_test false e rest =
        let n = position_or_len (defines name) (ls ++ line ∷ after) in
        let one : 1 + n ≡ suc n = omega arith in
        rw (e, one) (ap (λ front. l ∷ front) (rest (rw e at none)))

is_defined_there : (name : List ℕ) (before after : List (List ℕ)) (line : List ℕ) → defines name line ≡ true → is_defined (before ++ line ∷ after) name ≡ true
is_defined_there name [] after line here = rw here refl
is_defined_there name (l ∷ ls) after line here = by_test (defines name l) refl (is_defined_there name ls after line here)
  where
    by_test : (b : Bool) → defines name l ≡ b → is_defined (ls ++ line ∷ after) name ≡ true → is_defined ((l ∷ ls) ++ line ∷ after) name ≡ true
    by_test true e rest = rw e refl
    by_test false e rest = rw (e, rest) refl

bytes_are : (w : ℕ) → IsWidth w → 2 * (w / 8) ≡ w / 4
bytes_are w (inl is) = rw is refl
bytes_are w (inr is) = rw is refl

pub labels_count : LabelsCountInstructions
labels_count w width name = record {
  defined = λ before after line none here.
      rw (is_defined_there name before after line here, first_defining name before after line none here, bytes_are w width) refl;
  undefined = λ all none. rw none refl;
}

-- ---- the fault that is named is the first of a list
abbrev Named : {A : Type 0} → List AsmWhy → Result A AsmWhy → Type 0
Named [] (Ok x) = Unit {0}
Named [] (Err why) = ⊥
Named (fault ∷ others) (Ok x) = ⊥
Named (fault ∷ others) (Err why) = fault ≡ why

named_check : {A : Type 0} (test : Bool) (why : AsmWhy) (f : Unit {0} → Result A AsmWhy) (faults : List AsmWhy) → (test ≡ true → Named faults (f tt))
    → Named (unless test why ++ faults) (check test why >>= f)
named_check true why f faults named = named refl
named_check false why f faults named = refl

named_then : {A B : Type 0} (read : Result A AsmWhy) (f : A → Result B AsmWhy) (faults : List AsmWhy) → ((x : A) → Named faults (f x))
    → Named (fault_in read ++ faults) (read >>= f)
named_then (Ok x) f faults named = named x
named_then (Err why) f faults named = refl

-- a result that is only changed is refused alike
named_map : {A B : Type 0} (faults : List AsmWhy) (read : Result A AsmWhy) (f : A → B) → Named faults read → Named faults (read >>= λ x. Ok (f x))
named_map [] (Ok x) f named = tt
named_map [] (Err why) f named = named
named_map (fault ∷ others) (Ok x) f named = named
named_map (fault ∷ others) (Err why) f named = named

-- ---- operands
abbrev Address : Type 0
Address = List ℕ → Option ℕ

one_of : (texts : List (List ℕ)) → length texts ≡ 1 → (a : List ℕ) × (texts ≡ a ∷ [])
one_of (a ∷ []) is = (a, refl)
one_of [] is = absurd (omega (arith, is))
one_of (a ∷ b ∷ more) is = absurd (omega (arith, is))

two_of : (texts : List (List ℕ)) → length texts ≡ 2 → (a : List ℕ) × (b : List ℕ) × (texts ≡ a ∷ b ∷ [])
two_of (a ∷ b ∷ []) is = (a, b, refl)
two_of [] is = absurd (omega (arith, is))
two_of (a ∷ []) is = absurd (omega (arith, is))
two_of (a ∷ b ∷ c ∷ more) is = absurd (omega (arith, is))

three_of : (texts : List (List ℕ)) → length texts ≡ 3 → (a : List ℕ) × (b : List ℕ) × (c : List ℕ) × (texts ≡ a ∷ b ∷ c ∷ [])
three_of (a ∷ b ∷ c ∷ []) is = (a, b, c, refl)
three_of [] is = absurd (omega (arith, is))
three_of (a ∷ []) is = absurd (omega (arith, is))
three_of (a ∷ b ∷ []) is = absurd (omega (arith, is))
three_of (a ∷ b ∷ c ∷ d ∷ more) is = absurd (omega (arith, is))

-- what an instruction has of the fields that its operands are
abbrev FormIs : ℕ → Address → ℕ → Shape → List (List ℕ) → Type 0
FormIs w address op shape texts = Named (operand_faults w address (kinds shape) texts) (fields w address op shape (operand_at texts))

three_named : (w : ℕ) (address : Address) (op : ℕ) (a b c : List ℕ) → FormIs w address op DestSourceA (a ∷ b ∷ c ∷ [])
three_named w address op a b c =
    named_then (register a) _ _ (λ d. named_then (register b) _ _ (λ s. named_then (operand w address c) _ _ (λ l. tt)))

form_named : (w : ℕ) (address : Address) (op : ℕ) (shape : Shape) (texts : List (List ℕ)) → ¬ (shape ≡ Unused) → length texts ≡ length (kinds shape)
    → FormIs w address op shape texts
form_named w address op DestSourceA texts used many = let is = three_of texts many in rw is.3 (three_named w address op is.0 is.1 is.2)
form_named w address op DestA texts used many =
    let is = two_of texts many in
    rw is.2 (named_then (register is.0) _ _ (λ d. named_then (operand w address is.1) _ _ (λ l. tt)))
form_named w address op SourceA texts used many =
    let is = two_of texts many in
    rw is.2 (named_then (register is.0) _ _ (λ s. named_then (operand w address is.1) _ _ (λ l. tt)))
form_named w address op OnlyA texts used many = let is = one_of texts many in rw is.1 (named_then (operand w address is.0) _ _ (λ l. tt))
form_named w address op ADest texts used many =
    let is = two_of texts many in
    rw is.2 (named_then (operand w address is.0) _ _ (λ l. named_then (register is.1) _ _ (λ d. tt)))
form_named w address op Unused texts used many = absurd (used refl)

raw_named : (w : ℕ) (address : Address) (texts : List (List ℕ)) → Named (form_faults w address (Kind.Number ∷ Kind.Number ∷ []) texts) (raw_words w texts)
raw_named w address texts =
    named_check (length texts == 2) (Operands (length texts) 2) _ _ (λ test.
    let is = two_of texts (eqb-true (length texts) 2 test) in
    rw is.2 (named_then (number w is.0) _ _ (λ h. named_then (number w is.1) _ _ (λ a. tt))))

-- ---- an instruction
-- the rows of the table have operands
abbrev is_used : Shape → Bool
is_used Unused = false
is_used _ = true

all_used : list_all (λ r. is_used r.shape) instructions ≡ true
unfolding instructions
all_used = refl

used_is : (shape : Shape) → is_used shape ≡ true → ¬ (shape ≡ Unused)
used_is shape used is = let never : false ≡ true = rw is at used in cc

row_used : (name : List ℕ) (row : TableRow) → with_name name ≡ Some row → ¬ (row.shape ≡ Unused)
unfolding with_name
row_used name row is = used_is row.shape (find-all (λ r. bytes_eq r.name name) (λ r. is_used r.shape) instructions row all_used is)

counts_are : (shape : Shape) → operand_count shape ≡ length (kinds shape)
counts_are DestSourceA = refl
counts_are DestA = refl
counts_are SourceA = refl
counts_are OnlyA = refl
counts_are ADest = refl
counts_are Unused = refl

shape_named : (w : ℕ) (address : Address) (row : TableRow) (texts : List (List ℕ)) → ¬ (row.shape ≡ Unused)
    → Named (form_faults w address (kinds row.shape) texts)
    (counted texts (operand_count row.shape) >>= λ _. fields w address row.op row.shape (operand_at texts) >>= λ i. Ok (encode w i))
shape_named w address row texts used =
    rw (counts_are row.shape)
    (named_check (length texts == length (kinds row.shape)) (Operands (length texts) (length (kinds row.shape))) _ _ (λ test.
    named_map (operand_faults w address (kinds row.shape) texts) (fields w address row.op row.shape (operand_at texts)) (encode w)
    (form_named w address row.op row.shape texts used (eqb-true (length texts) (length (kinds row.shape)) test))))

table_named : (w : ℕ) (address : Address) (texts : List (List ℕ)) (found : Option TableRow) → ((row : TableRow) → found ≡ Some row → ¬ (row.shape ≡ Unused))
    → Named (row_faults w address found texts)
    (ok_or found UnknownName >>= λ row. counted texts (operand_count row.shape) >>= λ _. fields w address row.op row.shape (operand_at texts) >>= λ i.
    Ok (encode w i))
table_named w address texts None used = refl
table_named w address texts (Some row) used = shape_named w address row texts (used row refl)

words_named : (w : ℕ) (address : Address) (c : ℕ) (cs : List ℕ) → Named (instruction_faults w address (c ∷ cs)) (words_of w address (c ∷ cs))
unfolding words_of
words_named w address c cs =
    let name = name_of (c ∷ cs) in
    let texts = operands_in (drop (length name) (c ∷ cs)) in
    by_test name texts (bytes_eq name (codes ".raw")) refl
  where
    by_test : (name : List ℕ) (texts : List (List ℕ)) (b : Bool) → bytes_eq name (codes ".raw") ≡ b → Named (named_faults w address name texts)
        (if bytes_eq name (codes ".raw") then raw_words w texts else table_words w address name texts)
    by_test name texts true e = rw e (raw_named w address texts)
    by_test name texts false e = rw e (table_named w address texts (with_name name) (λ row is. row_used name row is))

part_named : (w : ℕ) (address : Address) (part : List ℕ) → Named (instruction_faults w address part) (part_words w address part)
part_named w address [] = tt
part_named w address (c ∷ cs) = words_named w address c cs

-- ---- a line
said_named : (w : ℕ) (earlier : List ℕ → Bool) (address : Address) (found : Option Said) → Named (said_faults w earlier address found)
    (ok_or found BadLabel >>= λ s. check (not (option_map_or earlier s.label false)) DoubledLabel >>= λ _. part_words w address s.instruction)
said_named w earlier address None = refl
said_named w earlier address (Some s) =
    named_check (not (option_map_or earlier s.label false)) DoubledLabel (λ _. part_words w address s.instruction) (instruction_faults w address s.instruction)
    (λ _. part_named w address s.instruction)

line_named : (w number : ℕ) (earlier : List ℕ → Bool) (address : Address) (line : List ℕ)
    → Named (line_faults w number earlier address line) (line_words w (number == 1) earlier address line)
unfolding line_words
line_named w number earlier address line =
    named_check (list_all is_text (code_of line)) NotText _ _ (λ _.
    named_check (not (number == 1) || is_good_header w line) BadHeader _ _ (λ _. said_named w earlier address (said line)))

-- the words that are found of a line are its instruction's
part_by : (w : ℕ) (address : Address) (c : Bool) (part words : List ℕ) → (check c DoubledLabel >>= λ _. part_words w address part) ≡ Ok words
    → words ≡ words_in (part_words w address part)
part_by w address false part words e = absurd cc
part_by w address true part words e = rw e refl

words_by : (w : ℕ) (address : Address) (a b : Bool) (c : Said → Bool) (found : Option Said) (words : List ℕ)
    → (check a NotText >>= λ _. check b BadHeader >>= λ _. ok_or found BadLabel >>= λ s. check (c s) DoubledLabel >>= λ _. part_words w address s.instruction)
    ≡ Ok words
    → words ≡ words_in (part_words w address (instruction_in found))
words_by w address false b c found words e = absurd cc
words_by w address true false c found words e = absurd cc
words_by w address true true c None words e = absurd cc
words_by w address true true c (Some s) words e = part_by w address (c s) s.instruction words e

words_are : (w number : ℕ) (earlier : List ℕ → Bool) (address : Address) (line words : List ℕ) → line_words w (number == 1) earlier address line ≡ Ok words
    → words ≡ line_image w address line
unfolding line_words
words_are w number earlier address line words e =
    words_by w address (list_all is_text (code_of line)) (not (number == 1) || is_good_header w line) (λ s. not (option_map_or earlier s.label false))
    (said line) words e

-- ---- lines
at_seam : (before more : List (List ℕ)) (line : List ℕ) → slice_get (before ++ line ∷ more) (length before) ≡ Some line
at_seam [] more line = refl
at_seam (l ∷ ls) more line = at_seam ls more line

-- what is known once the lines before some are read: they are good, and the words are theirs
record IsRead (w most : ℕ) (all before more : List (List ℕ)) (words : List ℕ) : Type 0 where
  whole : all ≡ before ++ more
  good : AreGood w most all (length before)
  words_are : words ≡ lines_image w all (take (length before) all)

front_is : (all before more : List (List ℕ)) → all ≡ before ++ more → take (length before) all ≡ before
front_is all before more whole = ap (take (length before)) whole ∙ take-append_seam before more

-- the next line
module _ (w most : ℕ) (all before more : List (List ℕ)) (line words : List ℕ) (so_far : IsRead w most all before (line ∷ more) words) where
  there : slice_get all (length before) ≡ Some line
  there = ap (λ l. slice_get l (length before)) so_far.whole ∙ at_seam before more line

  faults_are : faults_at w all (length before) line ≡ line_faults w (length before + 1) (is_defined before) (address w all) line
  faults_are = ap (λ front. line_faults w (length before + 1) (is_defined front) (address w all) line) (front_is all before (line ∷ more) so_far.whole)

  longer : take (length before + 1) all ≡ before ++ line ∷ []
  longer =
      let whole : all ≡ (before ++ line ∷ []) ++ more = so_far.whole ∙ sym (append_assoc before (line ∷ []) more) in
      let many : length (before ++ line ∷ []) ≡ length before + 1 = length-append before (line ∷ []) in
      subst (λ n. take n all ≡ before ++ line ∷ []) many (front_is all (before ++ line ∷ []) more whole)

  next_image : lines_image w all (take (length before + 1) all) ≡ words ++ line_image w (address w all) line
  next_image =
      ap (lines_image w all) longer ∙ flat_map-append (line_image w (address w all)) before (line ∷ [])
      ∙ ap (λ ws. ws ++ lines_image w all (line ∷ [])) (ap (lines_image w all) (sym (front_is all before (line ∷ more) so_far.whole)) ∙ sym so_far.words_are)
      ∙ ap (λ ws. words ++ ws) (append-nil (line_image w (address w all) line))

  -- it is at fault
  line_fails : (why : AsmWhy) → Named {A = List ℕ} (line_faults w (length before + 1) (is_defined before) (address w all) line) (Err why)
      → FaultIs w most all (length before) why
  line_fails why named = by_faults (line_faults w (length before + 1) (is_defined before) (address w all) line) refl named
    where
      by_faults : (faults : List AsmWhy) → line_faults w (length before + 1) (is_defined before) (address w all) line ≡ faults
          → Named {A = List ℕ} faults (Err why) → FaultIs w most all (length before) why
      by_faults [] is named = absurd named
      by_faults (fault ∷ others) is named = record {
        before = so_far.good;
        line = line;
        there = there;
        others = others;
        first = faults_are ∙ is ∙ ap (λ f. f ∷ others) named;
      }

  -- it isn't
  faultless : (two : List ℕ) → Named (line_faults w (length before + 1) (is_defined before) (address w all) line) (Ok two)
      → faults_at w all (length before) line ≡ []
  faultless two named = faults_are ∙ by_faults (line_faults w (length before + 1) (is_defined before) (address w all) line) named
    where
      by_faults : (faults : List AsmWhy) → Named faults (Ok two) → faults ≡ []
      by_faults [] named = refl
      by_faults (fault ∷ others) named = absurd named

  good_next : (two : List ℕ) → faults_at w all (length before) line ≡ [] → two ≡ line_image w (address w all) line → length words + length two ≤ most
      → IsRead w most all (before ++ line ∷ []) more (words ++ two)
  good_next two none is room =
      let many : length (before ++ line ∷ []) ≡ length before + 1 = length-append before (line ∷ []) in
      let image : words ++ two ≡ lines_image w all (take (length before + 1) all) = ap (λ ws. words ++ ws) is ∙ sym next_image in
      let short : length (lines_image w all (take (length before + 1) all)) ≤ most = rw (← image) (omega (arith, length-append words two, room)) in
      record {
        whole = so_far.whole ∙ sym (append_assoc before (line ∷ []) more);
        good = subst (AreGood w most all) (sym many) (record { faultless = each; short = short });
        words_are = image ∙ ap (λ n. lines_image w all (take n all)) (sym many);
      }
    where
      each : (j : ℕ) (l : List ℕ) → j < length before + 1 → slice_get all j ≡ Some l → faults_at w all j l ≡ []
      each j l within at = by_place (j == length before) refl
        where
          by_place : (b : Bool) → (j == length before) ≡ b → faults_at w all j l ≡ []
          by_place true same =
              let e : j ≡ length before = eqb-true j (length before) same in
              let is : Some line ≡ Some l = sym there ∙ ap (slice_get all) (sym e) ∙ at in
              let line_is : line ≡ l = cc in
              rw (e, ← line_is) none
          by_place false other = so_far.good.faultless j l (let apart = eqb-false j (length before) other in grind (arith, within, apart)) at

  -- what comes of it, given what comes of the lines after it
  abbrev read_line : Result (List ℕ) AsmWhy
  read_line = line_words w (length before + 1 == 1) (is_defined before) (address w all) line

  abbrev Rest : Type 0
  Rest = (two : List ℕ) → IsRead w most all (before ++ line ∷ []) more (words ++ two)
      → Means w most all (image_of w most all (before ++ line ∷ []) (words ++ two) more)

  image_is : (two : List ℕ) → read_line ≡ Ok two → two ≡ line_image w (address w all) line
  image_is two is = words_are w (length before + 1) (is_defined before) (address w all) line two is

  by_room : Rest → (two : List ℕ) → read_line ≡ Ok two → faults_at w all (length before) line ≡ [] → (b : Bool) → leb (length words + length two) most ≡ b
      → Means w most all (image_of w most all before words (line ∷ more))
  by_room rest two is none true room =
      rw (is, room) (rest two (good_next two none (image_is two is) (leb-true (length words + length two) most room)))
  by_room rest two is none false room =
      let long : most < length words + length two = leb-false (length words + length two) most room in
      let whole : lines_image w all (take (length before + 1) all) ≡ words ++ two = next_image ∙ ap (λ ws. words ++ ws) (sym (image_is two is)) in
      let many : IsTooMany w most all (length before) = record {
        before = so_far.good;
        line = line;
        there = there;
        faultless = none;
        long = rw whole (omega (arith, length-append words two, long));
      } in
      rw (is, room) (length before, refl, refl, many)

  by_line : Rest → (read : Result (List ℕ) AsmWhy) → read_line ≡ read → Named (line_faults w (length before + 1) (is_defined before) (address w all) line) read
      → Means w most all (image_of w most all before words (line ∷ more))
  by_line rest (Ok two) is named = by_room rest two is (faultless two named) (leb (length words + length two) most) refl
  by_line rest (Err why) is named = let fault : FaultIs w most all (length before) why = line_fails why named in rw is (length before, refl, fault)

-- ---- the text
texts_read : (w most : ℕ) (all before : List (List ℕ)) (words : List ℕ) (more : List (List ℕ)) → IsRead w most all before more words
    → Means w most all (image_of w most all before words more)
texts_read w most all before words [] so_far =
    let whole : all ≡ before = so_far.whole ∙ append-nil before in
    let many : length before ≡ length all = ap length (sym whole) in
    (subst (AreGood w most all) many so_far.good, so_far.words_are ∙ ap (λ n. lines_image w all (take n all)) many ∙ ap (lines_image w all) (take-length all))
texts_read w most all before words (line ∷ more) so_far =
    by_line w most all before more line words so_far (λ two next. texts_read w most all (before ++ line ∷ []) (words ++ two) more next)
    (line_words w (length before + 1 == 1) (is_defined before) (address w all) line) refl
    (line_named w (length before + 1) (is_defined before) (address w all) line)

pub texts_mean : TextsMeanTheirLines
unfolding assembled
texts_mean w most text =
    texts_read w most (lines text) [] [] (lines text) (record {
      whole = refl;
      good = record { faultless = λ j line before _. absurd (omega arith); short = omega arith };
      words_are = refl;
    })
