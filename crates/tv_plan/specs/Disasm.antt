-- `disasm IMAGE TEXT` and `disasm IMAGE TEXT 16`: the program text of an image.
use Rattle.std.specs.Prelude.{◌≡◌, ◌≢◌, ℕ, codes, Option, Some, None, ◌%◌, ◌/◌, ◌==◌, List, [], ◌∷◌, length, Result, Ok, Err, if◌then◌else◌, option_map}
use Rattle.std.specs.Str.{bytes_eq}
use Rattle.tv_disasm.specs.Disassembly.{disassembly_of}
use Rattle.tv_disasm.specs.declared.fault.DisFault.{DisFault}
use Rattle.tv_disasm.specs.declared.fault.DisFault.TheVariants as dis
use Rattle.tv_files.specs.Outside.{Names, WhereKnown}
use Rattle.tv_plan.specs.declared.disasm.DisasmArgs.{DisasmArgs}
use Rattle.tv_plan.specs.declared.programs.Width.{Width}
use Rattle.tv_plan.specs.declared.programs.Width.TheVariants.{Bits16, Bits32}
use Rattle.tv_plan.specs.declared.refusal.Bad.{Bad}
use Rattle.tv_plan.specs.declared.refusal.Bad.TheVariants as bad
use Rattle.tv_plan.specs.declared.refusal.What.TheVariants.{ImageBytes}
use Rattle.tv_plan.specs.declared.refusal.Stop.{Stop}
use Rattle.tv_plan.specs.declared.refusal.Stop.TheVariants.{Contents, Memory}
use Rattle.tv_plan.specs.Claims.{Call, Holds, AnswersOrStops}
use Rattle.tv_plan.specs.Flaws.{Flaw, Flaw.{OfImage, OverLimit}}
use Rattle.tv_plan.specs.Kinds.{is_quiet}
use Rattle.tv_plan.specs.Programs.{bits, image_bytes_most}
use Rattle.tv_plan.specs.Plan.{Named, Plan, named, within, input, outcome_by, one_name, writes_bytes, name_at}

-- what a fault of an image is
abbrev pub dis_stop : DisFault → Stop
dis_stop (dis.Ragged len) = Contents (bad.Image len)
dis_stop dis.Memory = Memory

-- the program text of an image of words of w bits, whose bytes are whole instructions of two words
unfoldable pub text_of : ℕ → List ℕ → Result (List ℕ) Bad
text_of w image = if length image % (w / 4) == 0 then Ok (disassembly_of w image) else Err (bad.Image (length image))

-- the file of an image, which may have this many bytes: its program text
abbrev pub text_in : Width → List ℕ → Result (List ℕ) Bad
text_in width = within ImageBytes (image_bytes_most width) (text_of (bits width))

-- what the file of an image may be refused for
abbrev pub image_flaws : List Flaw
image_flaws = OverLimit ImageBytes ∷ OfImage ∷ []

-- the width that the word after those of the command names: none is 32, and `16` is 16
abbrev pub width_word : List (List ℕ) → Option Width
width_word [] = Some Bits32
width_word (word ∷ []) = if bytes_eq word (codes "16") then Some Bits16 else None
width_word _ = None

abbrev pub disasm_plan : Width → Named → Named → Plan
disasm_plan width image text = record {
  reads = image ∷ [];
  writes = text ∷ [];
  amounts = [];
  flaws = image_flaws;
  ends_by = is_quiet;
  leads_to = λ files. outcome_by writes_bytes (input image (text_in width) files);
}

-- the plan that the command's words ask for
abbrev pub disasm_asks : DisasmArgs → Plan
disasm_asks args = disasm_plan args.width (named args.image) (named args.text)

-- the plan of the words after the command's name, where they have its form
abbrev pub disasm_form : List (List ℕ) → Option Plan
disasm_form (image ∷ text ∷ last) = option_map (λ width. disasm_plan width (name_at 1 image) (name_at 2 text)) (width_word last)
disasm_form _ = None

-- What `disasm` promises over files whose contents are known, the two names being different: IMAGE holds an image of
-- words of this width with this program text, which TEXT then holds, or it is refused for this.
abbrev pub Disasms : Width → Names → List ℕ → List ℕ → Call → Type 0
Disasms width files image text = AnswersOrStops (one_name 2 text) writes_bytes (Holds (text_in width) (files image)) files

-- What a call promises that has these words, where they are those of `disasm`.
abbrev pub OnDisasm : List (List ℕ) → Call → Type 0
OnDisasm words call = (image text : List ℕ) (last : List (List ℕ)) (width : Width)
    → words ≡ codes "disasm" ∷ image ∷ text ∷ last → width_word last ≡ Some width → image ≢ text
    → WhereKnown call.before (λ files. Disasms width files image text call)
