-- An image that is disassembled and assembled again is the same.
use Rattle.tv_core.proofs.Common.{◌≡◌, ◌≤◌, ◌%◌, ◌/◌, ◌*◌, ◌+◌, ℕ, List, length, Ok, refl, ap, ◌∙◌, arith}
use Rattle.tv_asm.specs.Header.{width_of}
use Rattle.tv_core.specs.declared.limits.TheConstants.{TEXT_BYTES}
use Rattle.tv_disasm.specs.Disassembly.{disassembly_of}
use Rattle.tv_disasm.proofs.TextLemmas.{text_assembles, text_fixes_width, words_read_back}
use Rattle.tv_disasm.proofs.LengthLemmas.{text_short}
use Rattle.tv_plan.proofs.Common.{Width, Bits16, Bits32, map_ok, bits, image_words, image_bytes, program_result, program_by, image_of}
use Rattle.tv_plan.specs.ComesBack.{ImageComesBack}
use Rattle.tv_plan.specs.Programs.{image_bytes_most}
use Rattle.tv_plan.proofs.ProgramLaws.{is_width}

known : (width : Width) (text image : List ℕ) → width_of text ≡ bits width → image_of text ≡ map_ok image_bytes (program_by width text)
unfolding image_of
known Bits16 text image is = rw is refl
known Bits32 text image is = rw is refl

fits : (width : Width) (image : List ℕ) → length image ≤ image_bytes_most width → 6 * length image + 20 ≤ TEXT_BYTES
fits Bits16 image most = omega arith
fits Bits32 image most = omega arith

whole : (width : Width) (image : List ℕ) → length image % (bits width / 4) ≡ 0 → length image % (bits width / 8) ≡ 0
whole Bits16 image even = omega arith
whole Bits32 image even = omega arith

pub image_comes_back : ImageComesBack
unfolding program_by
image_comes_back width image bytes even most =
    let room = fits width image most in
    let short = text_short (bits width) (is_width width) image bytes in (
      omega (arith, short, room),
      known width (disassembly_of (bits width) image) image (text_fixes_width (bits width) (is_width width) image bytes)
          ∙ ap (λ read. map_ok image_bytes (program_result width read)) (text_assembles (bits width) (is_width width) image (image_words width) bytes even most)
          ∙ ap (λ same. Ok same) (words_read_back (bits width) (is_width width) image bytes (whole width image even)),
    )
