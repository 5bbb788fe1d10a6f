-- The text of a tape's words is read as them.
use Rattle.tv_core.proofs.Common.{◌≡◌, ℕ, ◌*◌, ◌^◌, ◌<◌, ◌≤◌, List, [], ◌∷◌, length, All, Ok, refl, arith, length-append}
use Rattle.std.proofs.lemmas.Bool.{le-leb}
use Rattle.std.proofs.lemmas.Fmt.{length-decimal-le}
use Rattle.std.proofs.lemmas.List.Elements.{All-head, All-tail, All-weaker}
use Rattle.tv_core.specs.declared.field.TheConstants.{P}
use Rattle.tv_core.specs.declared.limits.TheConstants.{TAPE_WORDS, AUX_WORDS, CHECK_WORDS, TEXT_BYTES}
use Rattle.tv_step.specs.Range.{AreWords}
use Rattle.tv_tape.proofs.Texts.{comes_back}
use Rattle.tv_tape.specs.Tape.{text_of}
use Rattle.tv_plan.proofs.Common.{Width, Bits16, Bits32, What, bits}
use Rattle.tv_plan.specs.declared.refusal.What.TheVariants.{TapeWords, AuxWords}
use Rattle.tv_plan.specs.ComesBack.{TapeTextsFit, TapesComeBack}
use Rattle.tv_plan.specs.Inputs.{primary_in, aux_in}
use Rattle.tv_plan.specs.Tapes.{numbers_of, numbers_in, publics_in}

-- words have at most 32 bits
word_small : (width : Width) (word : ℕ) → word < 2 ^ bits width → word < 2 ^ 32
word_small Bits16 word small = omega arith
word_small Bits32 word small = small

words_small : (width : Width) (words : List ℕ) → AreWords (bits width) words → AreWords 32 words
words_small width words small = All-weaker (λ word. word < 2 ^ bits width) (λ word. word < 2 ^ 32) (word_small width) words small

-- such words have at most ten digits each
lines_short : (words : List ℕ) → AreWords 32 words → length (text_of words) ≤ 11 * length words
lines_short [] small = omega arith
lines_short (word ∷ more) small =
    let below : word < 2 ^ 32 = All-head (λ v. v < 2 ^ 32) word more small in
    let digits = length-decimal-le 10 word (omega arith) (omega arith) (omega arith) in
    simp length-append (omega (arith, digits, lines_short more (All-tail (λ v. v < 2 ^ 32) word more small)))

pub tape_texts_fit : TapeTextsFit
tape_texts_fit width words small few = omega (arith, lines_short words (words_small width words small))

-- a text of numbers below a bound is read as them
read_back : (word : ℕ) (what : What) (below most : ℕ) (words : List ℕ) → below ≤ 2 ^ 64 → All (λ v. v < below) words → length words ≤ most
    → length (text_of words) ≤ TEXT_BYTES
    → numbers_in word what below most (text_of words) ≡ Ok words
unfolding numbers_of
read_back word what below most words wide small few short =
    rw (le-leb (length (text_of words)) TEXT_BYTES short, comes_back words below most wide small few) refl

bound_fits : (width : Width) → 2 ^ bits width ≤ 2 ^ 64
bound_fits Bits16 = omega arith
bound_fits Bits32 = omega arith

pub primary_comes_back : TapesComeBack (λ word width. primary_in word (bits width)) TAPE_WORDS
primary_comes_back word width words small few =
    read_back word TapeWords (2 ^ bits width) TAPE_WORDS words (bound_fits width) small few (tape_texts_fit width words small (omega arith))

pub aux_comes_back : TapesComeBack (λ word width. aux_in word (bits width)) AUX_WORDS
aux_comes_back word width words small few =
    read_back word AuxWords (2 ^ bits width) AUX_WORDS words (bound_fits width) small few (tape_texts_fit width words small few)

pub publics_come_back : TapesComeBack (λ word width. publics_in word) CHECK_WORDS
publics_come_back word width words small few =
    let below = All-weaker (λ v. v < 2 ^ 32) (λ v. v < P) (λ v h. omega arith) words (words_small width words small) in
    read_back word TapeWords P CHECK_WORDS words (omega arith) below few (tape_texts_fit width words small (omega arith))
