-- What a program text says, line by line: the addresses of its labels, the faults of a line in their order, and which
-- image it has, or which fault is named.
use Rattle.std.specs.Prelude.{◌≡◌, ℕ, ◌+◌, ◌*◌, ◌/◌, ◌%◌, ◌^◌, ◌<◌, ◌≤◌, ◌==◌, Bool, true, false, not}
use Rattle.std.specs.Prelude.{◌||◌, if◌then◌else◌, List, [], ◌∷◌, ◌++◌, length, take, drop}
use Rattle.std.specs.Prelude.{codes, slice_get, Option, Some, None, Result, Ok, Err}
use Rattle.std.specs.List.{count_by, flat_map, list_all}
use Rattle.std.specs.Option.{option_map_or}
use Rattle.std.specs.Str.{bytes_eq}
use Rattle.tv_isa.specs.Table.{TableRow, with_name}
use Rattle.tv_isa.specs.declared.operation.Shape.{Shape}
use Rattle.tv_isa.specs.declared.operation.Shape.TheVariants.{DestSourceA, DestA, SourceA, OnlyA, ADest, Unused}
use Rattle.tv_word.specs.Widths.{IsWidth}
use Rattle.tv_asm.specs.Assembly.{assembled, part_words}
use Rattle.tv_asm.specs.Header.{is_good_header}
use Rattle.tv_asm.specs.Instruction.{name_of, operands_in}
use Rattle.tv_asm.specs.Labels.{address, defines, has_instruction, is_defined}
use Rattle.tv_asm.specs.Line.{Said, code_of, is_text, said}
use Rattle.tv_asm.specs.Operand.{number, operand, register}
use Rattle.tv_asm.specs.Text.{lines}
use Rattle.tv_asm.specs.declared.fault.AsmFault.{AsmFault}
use Rattle.tv_asm.specs.declared.fault.AsmFault.TheVariants.{Bad, TooMany, Memory}
use Rattle.tv_asm.specs.declared.fault.AsmWhy.{AsmWhy}
use Rattle.tv_asm.specs.declared.fault.AsmWhy.TheVariants.{NotText, BadHeader, BadLabel, DoubledLabel, UnknownName, Operands}

-- ---- labels
-- The address of a label is the number of lines with an instruction before the first line that defines it, times the
-- bytes of an instruction, as a word; a label that no line defines has none.
pub record AddressesCount (w : ℕ) (name : List ℕ) : Type 0 where
  pub defined : (before after : List (List ℕ)) (line : List ℕ) → is_defined before name ≡ false → defines name line ≡ true
      → address w (before ++ line ∷ after) name ≡ Some (w / 4 * count_by has_instruction before % 2 ^ w)
  pub undefined : (all : List (List ℕ)) → is_defined all name ≡ false → address w all name ≡ None

abbrev pub LabelsCountInstructions : Type 0
LabelsCountInstructions = (w : ℕ) → IsWidth w → (name : List ℕ) → AddressesCount w name

-- ---- the faults of a line
-- a fault, unless a test holds
abbrev pub unless : Bool → AsmWhy → List AsmWhy
unless true why = []
unless false why = why ∷ []

-- the fault of what is refused
abbrev pub fault_in : {A : Type 0} → Result A AsmWhy → List AsmWhy
fault_in (Ok x) = []
fault_in (Err why) = why ∷ []

-- what an operand is to be: a register, a number, or any of these and a label
pub data Kind : Type 0 where
  Register : Kind
  Number : Kind
  Any : Kind

-- an instruction's operands, in the order of the text
abbrev pub kinds : Shape → List Kind
kinds DestSourceA = Register ∷ Register ∷ Any ∷ []
kinds DestA = Register ∷ Any ∷ []
kinds SourceA = Register ∷ Any ∷ []
kinds OnlyA = Any ∷ []
kinds ADest = Any ∷ Register ∷ []
kinds Unused = []

-- the fault of an operand, by the addresses of labels
abbrev pub operand_fault : ℕ → (List ℕ → Option ℕ) → Kind → List ℕ → List AsmWhy
operand_fault w address Register text = fault_in (register text)
operand_fault w address Number text = fault_in (number w text)
operand_fault w address Any text = fault_in (operand w address text)

-- those of operands, one after another
abbrev pub operand_faults : ℕ → (List ℕ → Option ℕ) → List Kind → List (List ℕ) → List AsmWhy
operand_faults w address (kind ∷ kinds) (text ∷ texts) = operand_fault w address kind text ++ operand_faults w address kinds texts
operand_faults w address _ _ = []

-- of an instruction with operands of these kinds: how many there are, and then each of them
abbrev pub form_faults : ℕ → (List ℕ → Option ℕ) → List Kind → List (List ℕ) → List AsmWhy
form_faults w address kinds operands =
    unless (length operands == length kinds) (Operands (length operands) (length kinds)) ++ operand_faults w address kinds operands

-- of an instruction whose name is this row's of the table, or no row's
abbrev pub row_faults : ℕ → (List ℕ → Option ℕ) → Option TableRow → List (List ℕ) → List AsmWhy
row_faults w address None operands = UnknownName ∷ []
row_faults w address (Some row) operands = form_faults w address (kinds row.shape) operands

-- of a named instruction; `.raw` has two numbers
abbrev pub named_faults : ℕ → (List ℕ → Option ℕ) → List ℕ → List (List ℕ) → List AsmWhy
named_faults w address name operands =
    if bytes_eq name (codes ".raw") then form_faults w address (Number ∷ Number ∷ []) operands else row_faults w address (with_name name) operands

-- of a line's instruction, which may be empty
abbrev pub instruction_faults : ℕ → (List ℕ → Option ℕ) → List ℕ → List AsmWhy
instruction_faults w address [] = []
instruction_faults w address (c ∷ cs) =
    named_faults w address (name_of (c ∷ cs)) (operands_in (drop (length (name_of (c ∷ cs))) (c ∷ cs)))

-- of what a line says: that its label is none, that an earlier line defines the label, and those of its instruction
abbrev pub said_faults : ℕ → (List ℕ → Bool) → (List ℕ → Option ℕ) → Option Said → List AsmWhy
said_faults w earlier address None = BadLabel ∷ []
said_faults w earlier address (Some s) = unless (not (option_map_or earlier s.label false)) DoubledLabel ++ instruction_faults w address s.instruction

-- All faults of a line, in their order: a byte outside comments that is no text, line 1 being a header with a bad field,
-- and those of what it says.
abbrev pub line_faults : ℕ → ℕ → (List ℕ → Bool) → (List ℕ → Option ℕ) → List ℕ → List AsmWhy
line_faults w number earlier address line =
    unless (list_all is_text (code_of line)) NotText
    ++ (unless (not (number == 1) || is_good_header w line) BadHeader ++ said_faults w earlier address (said line))

-- those of line i of a text's lines; its number is i + 1
abbrev pub faults_at : ℕ → List (List ℕ) → ℕ → List ℕ → List AsmWhy
faults_at w all i line = line_faults w (i + 1) (is_defined (take i all)) (address w all) line

-- ---- the image
-- a line's instruction, which is empty where it has none
abbrev pub instruction_in : Option Said → List ℕ
instruction_in s = option_map_or (λ s. s.instruction) s []

-- words that are found; what is refused has none
abbrev pub words_in : Result (List ℕ) AsmWhy → List ℕ
words_in (Ok words) = words
words_in (Err why) = []

-- the words of a line: those of its instruction
abbrev pub line_image : ℕ → (List ℕ → Option ℕ) → List ℕ → List ℕ
line_image w address line = words_in (part_words w address (instruction_in (said line)))

-- those of lines, one after another; labels have the addresses that all lines give them
abbrev pub lines_image : ℕ → List (List ℕ) → List (List ℕ) → List ℕ
lines_image w all some = flat_map (line_image w (address w all)) some

-- the first i lines have no fault, and no more words than there may be
pub record AreGood (w most : ℕ) (all : List (List ℕ)) (i : ℕ) : Type 0 where
  pub faultless : (j : ℕ) (line : List ℕ) → j < i → slice_get all j ≡ Some line → faults_at w all j line ≡ []
  pub short : length (lines_image w all (take i all)) ≤ most

-- Line i is the first at fault, and this its first fault.
pub record FaultIs (w most : ℕ) (all : List (List ℕ)) (i : ℕ) (why : AsmWhy) : Type 0 where
  pub before : AreGood w most all i
  pub line : List ℕ
  pub there : slice_get all i ≡ Some line
  pub others : List AsmWhy
  pub first : faults_at w all i line ≡ why ∷ others

-- Line i is the first at fault, and all that is wrong is that with its words there are more than there may be.
pub record IsTooMany (w most : ℕ) (all : List (List ℕ)) (i : ℕ) : Type 0 where
  pub before : AreGood w most all i
  pub line : List ℕ
  pub there : slice_get all i ≡ Some line
  pub faultless : faults_at w all i line ≡ []
  pub long : most < length (lines_image w all (take (i + 1) all))

-- What comes of a text's lines: an image, where no line is at fault, which is the words of the lines, one after another;
-- or the number of the first line at fault, from 1, and its first fault.
abbrev pub Means : ℕ → ℕ → List (List ℕ) → Result (List ℕ) AsmFault → Type 0
Means w most all (Ok image) = AreGood w most all (length all) × (image ≡ lines_image w all all)
Means w most all (Err (Bad number why)) = (i : ℕ) × (number ≡ i + 1) × FaultIs w most all i why
Means w most all (Err (TooMany number limit)) = (i : ℕ) × (number ≡ i + 1) × (limit ≡ most) × IsTooMany w most all i
Means w most all (Err Memory) = ⊥

-- and that is what is assembled of each text
abbrev pub TextsMeanTheirLines : Type 0
TextsMeanTheirLines = (w most : ℕ) (text : List ℕ) → Means w most (lines text) (assembled w most text)
