-- What is made of contents is refused for.
use Rattle.tv_core.proofs.Common.{cond_both, ◌≡◌, ℕ, ◌+◌, ◌%◌, ◌/◌, ◌==◌, List, [], ◌∷◌, length, Result, Ok, Err, inl, inr, refl}
use Rattle.tv_asm.specs.Assembly.{assembled}
use Rattle.tv_asm.specs.declared.fault.AsmFault.{AsmFault}
use Rattle.tv_asm.specs.declared.fault.AsmFault.TheVariants as asm
use Rattle.tv_disasm.specs.Disassembly.{disassembly_of}
use Rattle.tv_tape.specs.Tape.{tape_of}
use Rattle.tv_tape.specs.declared.items.TapeFault.{TapeFault}
use Rattle.tv_tape.specs.declared.items.TapeFault.TheVariants as tape
use Rattle.tv_plan.proofs.Common.{Width, What, bits, image_words, width_of_text, image_bytes, program_result, program_by, program_of, image_of}
use Rattle.tv_plan.specs.declared.refusal.Bad.TheVariants.{Limit, Image, Program, Tape}
use Rattle.tv_plan.specs.declared.refusal.What.TheVariants.{ImageWords}
use Rattle.tv_plan.specs.Disasm.{text_of}
use Rattle.tv_plan.specs.Finds.{made_by, IsOneOf}
use Rattle.tv_plan.specs.Flaws.{Flaw.{OfImage, OfProgram, OfTape, OverLimit}, flaw_of}
use Rattle.tv_plan.specs.Tapes.{tape_stop, numbers_of}
use Rattle.tv_plan.proofs.LookLaws.{IsFlawed, same_err}

program_result_flawed : (width : Width) (found : Result (List ℕ) AsmFault) → IsFlawed (program_result width found) (OverLimit ImageWords ∷ OfProgram ∷ [])
program_result_flawed width (Ok words) why e = cc
program_result_flawed width (Err (asm.Bad line reason)) why e = let same : Program line reason ≡ why = cc in rw (← same) (inr (inl refl))
program_result_flawed width (Err (asm.TooMany line many)) why e = let same : Limit ImageWords (many + 2) many ≡ why = cc in rw (← same) (inl refl)
program_result_flawed width (Err asm.Memory) why e = let same : Limit ImageWords 0 0 ≡ why = cc in rw (← same) (inl refl)

pub program_flawed : (text : List ℕ) → IsFlawed (program_of text) (OverLimit ImageWords ∷ OfProgram ∷ [])
unfolding program_by
program_flawed text = program_result_flawed (width_of_text text) (assembled (bits (width_of_text text)) (image_words (width_of_text text)) text)

pub image_flawed : (text : List ℕ) → IsFlawed (image_of text) (OverLimit ImageWords ∷ OfProgram ∷ [])
unfolding image_of
image_flawed text why e = program_flawed text why (same_err image_bytes (program_of text) why e)

pub text_flawed : (w : ℕ) (image : List ℕ) → IsFlawed (text_of w image) (OfImage ∷ [])
unfolding text_of
text_flawed w image why =
    cond_both (length image % (w / 4) == 0) (Ok (disassembly_of w image)) (Err (Image (length image)))
    (λ made. made ≡ Err why → IsOneOf (flaw_of why) (OfImage ∷ []))
    (λ _ e. cc) (λ _ e. let same : Image (length image) ≡ why = cc in rw (← same) (inl refl))

tape_flawed : (word : ℕ) (what : What) (found : Result (List ℕ) TapeFault)
    → IsFlawed (made_by what (tape_stop word what) found) (OverLimit what ∷ OfTape word ∷ [])
tape_flawed word what (Ok words) why e = cc
tape_flawed word what (Err (tape.BadItem at)) why e = let same : Tape word at ≡ why = cc in rw (← same) (inr (inl refl))
tape_flawed word what (Err (tape.TooBig at)) why e = let same : Tape word at ≡ why = cc in rw (← same) (inr (inl refl))
tape_flawed word what (Err (tape.TooMany many)) why e = let same : Limit what (many + 1) many ≡ why = cc in rw (← same) (inl refl)
tape_flawed word what (Err tape.Memory) why e = let same : Limit what 0 0 ≡ why = cc in rw (← same) (inl refl)

pub numbers_flawed : (word : ℕ) (what : What) (below most : ℕ) (text : List ℕ)
    → IsFlawed (numbers_of word what below most text) (OverLimit what ∷ OfTape word ∷ [])
unfolding numbers_of
numbers_flawed word what below most text = tape_flawed word what (tape_of text below most)
