-- Laws of a program text and its image.
use Rattle.std.specs.Prelude.{◌≡◌, ℕ, ◌^◌, ◌<◌, ◌≤◌, List, length, Err, IfOk}
use Rattle.std.specs.List.{All}
use Rattle.tv_asm.specs.Assembly.{assembled}
use Rattle.tv_asm.specs.Header.{width_of}
use Rattle.tv_asm.specs.declared.fault.AsmFault.TheVariants.{Bad}
use Rattle.tv_asm.specs.declared.fault.AsmWhy.TheVariants.{BadHeader}
use Rattle.tv_word.specs.Widths.{IsWidth}

-- an image has at most as many words as are allowed
abbrev pub ImagesAreShort : Type 0
ImagesAreShort = (w most : ℕ) (text : List ℕ) → IfOk (assembled w most text) (λ words. length words ≤ most)

-- its words are numbers of w bits
abbrev pub ImagesAreWords : Type 0
ImagesAreWords = (w : ℕ) → IsWidth w → (most : ℕ) (text : List ℕ) → IfOk (assembled w most text) (All (λ word. word < 2 ^ w))

-- a text for words of 16 bits has no image of words of 32: its header is refused
abbrev pub TextsOf16AreRefused : Type 0
TextsOf16AreRefused = (most : ℕ) (text : List ℕ) → width_of text ≡ 16 → assembled 32 most text ≡ Err (Bad 1 BadHeader)
