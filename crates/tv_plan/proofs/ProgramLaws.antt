-- What holds of a program and of tapes that files hold.
use Rattle.tv_core.proofs.Common.{◌≡◌, ◌≤◌, ◌^◌, ℕ, ◌+◌, List, length, Option, Result, Ok, Err, inl, inr, refl, cond_both, IsWidth}
use Rattle.std.proofs.Common.{nat_le}
use Rattle.std.specs.Prelude.{IfOk}
use Rattle.tv_asm.proofs.RangeLemmas.{images_short, images_words}
use Rattle.tv_asm.specs.Assembly.{assembled}
use Rattle.tv_asm.specs.declared.fault.AsmFault.{AsmFault}
use Rattle.tv_core.specs.declared.limits.TheConstants.{TAPE_WORDS, AUX_WORDS, TEXT_BYTES}
use Rattle.tv_step.specs.Range.{AreWords}
use Rattle.tv_tape.proofs.Narrow.{numbers_below, numbers_few}
use Rattle.tv_tape.specs.Tape.{tape_of}
use Rattle.tv_tape.specs.declared.items.TapeFault.{TapeFault}
use Rattle.tv_plan.specs.Inputs.{AreInputs, HasInputs}
use Rattle.tv_plan.specs.Finds.{made_by}
use Rattle.tv_plan.specs.Tapes.{tape_stop, numbers_of, numbers_in}
use Rattle.tv_plan.proofs.Common.{Names, Inputs, Program, Width, Bits16, Bits32, Bad, What, Holds}
use Rattle.tv_plan.proofs.Common.{within, HasImage, bits, image_words, width_of_text, program_result, program_by, program_of, program_in}
use Rattle.tv_plan.specs.declared.refusal.Bad.TheVariants as bad
use Rattle.tv_plan.specs.declared.refusal.What.TheVariants.{TapeWords, AuxWords, TextBytes}

pub is_width : (width : Width) → IsWidth (bits width)
is_width Bits16 = inl refl
is_width Bits32 = inr refl

-- what is found of a file that may have this many bytes is found of its bytes
pub within_ok : {A : Type 0} (what : What) (most : ℕ) (read : List ℕ → Result A Bad) (bytes : List ℕ) (x : A) → within what most read bytes ≡ Ok x
    → read bytes ≡ Ok x
within_ok what most read bytes x e =
    cond_both (nat_le (length bytes) most) (read bytes) (Err (bad.Limit what (most + 1) most)) (λ made. made ≡ Ok x → read bytes ≡ Ok x) (λ _ e. e)
    (λ _ e. cc) e

image_by : (width : Width) (found : Result (List ℕ) AsmFault) (program : Program) → IfOk found (λ words. length words ≤ image_words width)
    → IfOk found (AreWords (bits width)) → program_result width found ≡ Ok program → HasImage program
image_by width (Ok words) program short small e = let same : record { width = width; words = words } ≡ program = cc in
    rw (← same) (record { short = short; words = small })
image_by width (Err fault) program short small e = cc

-- a program that a file holds has words of its width, and no more of them than are allowed
pub has_image : (file : Option (List ℕ)) (program : Program) → Holds program_in file (Ok program) → HasImage program
unfolding program_by
has_image file program holds =
    let text = holds.bytes in
    let width = width_of_text text in
    image_by width (assembled (bits width) (image_words width) text) program (images_short (bits width) (image_words width) text)
    (images_words (bits width) (is_width width) (image_words width) text)
    (within_ok TextBytes TEXT_BYTES program_of text program holds.reads)

-- ---- tapes that files hold

tape_read : (word : ℕ) (what : What) (read : Result (List ℕ) TapeFault) (numbers : List ℕ) → made_by what (tape_stop word what) read ≡ Ok numbers
    → read ≡ Ok numbers
tape_read word what (Ok words) numbers e = cc
tape_read word what (Err fault) numbers e = cc

-- the words of a tape
pub numbers_are : (word : ℕ) (what : What) (w most : ℕ) (file : Option (List ℕ)) (numbers : List ℕ)
    → Holds (numbers_in word what (2 ^ w) most) file (Ok numbers) → AreWords w numbers × (length numbers ≤ most)
unfolding numbers_of
numbers_are word what w most file numbers holds =
    let is = tape_read word what (tape_of holds.bytes (2 ^ w) most) numbers
    (within_ok TextBytes TEXT_BYTES (numbers_of word what (2 ^ w) most) holds.bytes numbers holds.reads) in
    (numbers_below holds.bytes numbers (2 ^ w) most is, numbers_few holds.bytes numbers (2 ^ w) most is)

pub inputs_are : (text tape aux : List ℕ) (files : Names) (inputs : Inputs) → HasInputs files text tape aux (Ok inputs) → AreInputs inputs
inputs_are text tape aux files inputs (inl (program, text_holds, inl (primary, tape_holds, inl (auxiliary, aux_holds, e)))) =
    let first = numbers_are 2 TapeWords (bits program.width) TAPE_WORDS (files tape) primary tape_holds in
    let second = numbers_are 3 AuxWords (bits program.width) AUX_WORDS (files aux) auxiliary aux_holds in
    let same : record { program = program; tape = primary; aux = auxiliary } ≡ inputs = cc in
    rw (← same) (record { image = has_image (files text) program text_holds; tape = first.0; tape_fits = first.1; aux = second.0; aux_fits = second.1 })
inputs_are text tape aux files inputs (inl (program, text_holds, inl (primary, tape_holds, inr (bad, refused, e)))) = cc
inputs_are text tape aux files inputs (inl (program, text_holds, inr (bad, refused, e))) = cc
inputs_are text tape aux files inputs (inr (bad, refused, e)) = cc
