-- The product of two wires, as a new wire.
use Rattle.tv_core.proofs.Common.{◌≡◌, ℕ, ◌*◌, ◌%◌, List, sym, ◌∙◌, ap₂, slice_index, value-wire, wire, Assigns, Meets}
use Rattle.tv_bits.proofs.TimesLaws.{times_sound, times_complete}
use Rattle.tv_bits.specs.Times.{times_of}
use Rattle.tv_core.specs.declared.field.TheConstants.{P}

pub wires_sound : (z : List ℕ) (next a b : ℕ) → Assigns z → Meets z (times_of (wire a) (wire b) next).list
    → slice_index z (times_of (wire a) (wire b) next).answer ≡ slice_index z a * slice_index z b % P
wires_sound z next a b assigns meets =
    times_sound z next (wire a) (wire b) assigns meets ∙ ap₂ (λ m n. m * n % P) (value-wire assigns a) (value-wire assigns b)

pub wires_complete : (z : List ℕ) (next a b : ℕ) → Assigns z → slice_index z next ≡ slice_index z a * slice_index z b % P
    → Meets z (times_of (wire a) (wire b) next).list
wires_complete z next a b assigns is =
    times_complete z next (wire a) (wire b) assigns (is ∙ sym (ap₂ (λ m n. m * n % P) (value-wire assigns a) (value-wire assigns b)), tt)
