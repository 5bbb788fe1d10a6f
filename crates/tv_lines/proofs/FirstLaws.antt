-- The laws of the first line.
use Rattle.tv_core.proofs.Common.{◌≡◌, ℕ, ◌*◌, ◌%◌, List, refl, sym, ◌∙◌, ap₂, arith, put, constant, value, Assigns}
use Rattle.tv_bits.proofs.BitNumbers.{HasBits-small}
use Rattle.tv_core.proofs.CombinationLaws.{value-constant}
use Rattle.tv_core.specs.declared.field.TheConstants.{P}
use Rattle.tv_lines.proofs.Numbers.{number_value}
use Rattle.tv_lines.specs.SortedPair.{first_line_of, FirstLineIsSound, FirstLineIsComplete, FirstLineSizes}

one : (z : List ℕ) → Assigns z → value (constant 1) z ≡ 1
one z assigns = value-constant assigns 1 ∙ omega arith

pub first_line_sound : FirstLineIsSound
unfolding first_line_of put
first_line_sound z next bits l widths assigns s meets =
    let small = HasBits-small s.old (omega arith) in
    let product : l.old * 1 % P ≡ 0 = ap₂ (λ a b. a * b % P) (sym (number_value z bits.old 32 l.old widths.old (omega arith) s.old)) (sym (one z assigns))
    ∙ meets.0 in
    omega arith

pub first_line_complete : FirstLineIsComplete
unfolding first_line_of put
first_line_complete z next bits l widths assigns s none =
    (ap₂ (λ a b. a * b % P) (number_value z bits.old 32 l.old widths.old (omega arith) s.old ∙ none) (one z assigns) ∙ omega arith, tt)

pub first_line_fill : FirstLineSizes
unfolding first_line_of put
first_line_fill = record { end = λ bits next. refl; fills = λ bits next. omega arith }
