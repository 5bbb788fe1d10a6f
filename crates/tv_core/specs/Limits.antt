-- The numbers of the limits.
use Rattle.std.specs.Prelude.{◌≡◌, ◌+◌, ◌-◌, ◌^◌}
use Rattle.tv_core.specs.declared.combination.TheConstants.{TERMS}
use Rattle.tv_core.specs.declared.field.TheConstants.{P}
use Rattle.tv_core.specs.declared.limits.TheConstants.{STEPS, IMAGE_WORDS, IMAGE_WORDS_16, TAPE_WORDS, AUX_WORDS, CHECK_WORDS}
use Rattle.tv_core.specs.declared.limits.TheConstants.{TEXT_BYTES, DRAWS, TIME_BITS, CELL_BITS, TAPE_CELLS, NULL_CELL}

-- of steps, images, tapes, texts and drawn instructions
pub record LimitsAre : Type 0 where
  pub steps : STEPS ≡ 262144
  pub image_words : IMAGE_WORDS ≡ 131072
  pub image_words_of_16_bits : IMAGE_WORDS_16 ≡ 32768
  pub tape_words : TAPE_WORDS ≡ 131072
  pub aux_words : AUX_WORDS ≡ 262144
  pub check_words : CHECK_WORDS ≡ 262144
  pub text_bytes : TEXT_BYTES ≡ 4194304
  pub draws : DRAWS ≡ 8191

-- of a line's time and cell
pub record LinesAre : Type 0 where
  pub time_bits : TIME_BITS ≡ 20
  pub cell_bits : CELL_BITS ≡ 31
  pub first_tape_cell : TAPE_CELLS ≡ 2 ^ 30
  pub null_cell : NULL_CELL ≡ 2 ^ 30 + 2 ^ 29

-- of a combination's terms, and of the field
pub record FieldIs : Type 0 where
  pub terms : TERMS ≡ 128
  pub prime : P ≡ 2 ^ 64 - 2 ^ 32 + 1
