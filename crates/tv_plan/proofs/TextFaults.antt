-- What is found of a program text is never an allocation failure.
use Rattle.tv_core.proofs.Common.{◌≢◌, ◌==◌, ◌+◌, ℕ, Bool, true, false, List, [], ◌∷◌, ◌++◌, length, Result, Ok, Err}
use Rattle.std.proofs.Common.{nat_le}
use Rattle.tv_asm.specs.Assembly.{assembled, at_line, context_after, image_of, line_words, with_line}
use Rattle.tv_asm.specs.Labels.{address, is_defined}
use Rattle.tv_asm.specs.Steps.{◌>>=◌, check}
use Rattle.tv_asm.specs.Text.{lines}
use Rattle.tv_asm.specs.declared.fault.AsmFault.{AsmFault}
use Rattle.tv_asm.specs.declared.fault.AsmFault.TheVariants.{TooMany, Memory}
use Rattle.tv_asm.specs.declared.fault.AsmWhy.{AsmWhy}

line_wants : (most number : ℕ) (words : List ℕ) (two : Result (List ℕ) AsmWhy) (fits : List ℕ → Bool)
    → (at_line number two >>= λ two. check (fits two) (TooMany number most) >>= λ _. Ok (words ++ two)) ≢ Err Memory
line_wants most number words (Err why) fits e = cc
line_wants most number words (Ok two) fits e = by (fits two) e
  where
    by : (test : Bool) → (check test (TooMany number most) >>= λ _. Ok (words ++ two)) ≢ Err Memory
    by true e = cc
    by false e = cc

then_wants : (first : Result (List ℕ) AsmFault) (next : List ℕ → Result (List ℕ) AsmFault) → first ≢ Err Memory → ((words : List ℕ) → next words ≢ Err Memory)
    → (first >>= next) ≢ Err Memory
then_wants (Ok words) next one other e = other words e
then_wants (Err fault) next one other e = one e

lines_want : (w most : ℕ) (all before : List (List ℕ)) (words : List ℕ) (more : List (List ℕ)) → image_of w most all before words more ≢ Err Memory
lines_want w most all before words [] = λ e. cc
lines_want w most all before words (line ∷ more) =
    then_wants (with_line w most (context_after w all before) words line)
    (λ next. image_of w most all (before ++ line ∷ []) next more)
    (line_wants most (length before + 1) words (line_words w ((length before + 1) == 1) (is_defined before) (address w all) line)
    (λ two. nat_le (length words + length two) most))
    (λ next. lines_want w most all (before ++ line ∷ []) next more)

pub text_wants : (w most : ℕ) (text : List ℕ) → assembled w most text ≢ Err Memory
unfolding assembled
text_wants w most text = lines_want w most (lines text) [] [] (lines text)
