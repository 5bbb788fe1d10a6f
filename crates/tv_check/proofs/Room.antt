-- A system that a file holds has wires for the constant 1 and its public numbers.
use Rattle.tv_core.proofs.Common.{ℕ, ◌+◌, ◌*◌, ◌==◌, not, List, Option, Some, None, Ok}
use Rattle.std.proofs.Common.{ltb}
use Rattle.std.specs.Prelude.{IfOk}
use Rattle.std.proofs.lemmas.Bool.{ltb-false}
use Rattle.tv_r1cs_read.specs.declared.header.Header.{Header}
use Rattle.tv_container.specs.declared.sections.Section.{Section}
use Rattle.tv_container.specs.declared.why.ReadWhy.TheVariants.{BadCount}
use Rattle.tv_container.specs.Places.{unless}
use Rattle.tv_container.proofs.Chain.{bind_any, bind_if, passed}
use Rattle.tv_r1cs_read.specs.R1cs as r1cs
use Rattle.tv_r1cs_read.specs.R1cs.{checked, counted, header_in, header_of, constraints_from, r1cs_system}
use Rattle.tv_container.specs.Field.{this_field}
use Rattle.tv_container.specs.Sections.{section_of, sections_of, wanted}
use Rattle.tv_check.specs.Verdict.{HasRoom}

checked_roomy : (header : Header) (one : Section) (three : Option Section) → IfOk (checked header one three) r1cs.HasRoom
checked_roomy header one three =
    bind_if (unless (ltb header.wires (1 + header.outputs + header.inputs)) one.at _) _ _ r1cs.HasRoom (passed _ _ _) (λ _ fits.
    bind_any (elim three [
      | None ↦ Ok (tt {0})
      | Some labels ↦ unless (not (labels.size == 8 * header.wires)) labels.at
          (BadCount labels.size (8 * header.wires))
    ])
    (λ _. Ok header) r1cs.HasRoom (λ _. ltb-false header.wires (1 + header.outputs + header.inputs) fits))

header_roomy : (file : List ℕ) → IfOk (header_of file) r1cs.HasRoom
unfolding header_of header_in
header_roomy file =
    bind_any (sections_of 3 0x73633172 1 file) _ r1cs.HasRoom (λ sections.
    bind_any (wanted 1 file sections) _ r1cs.HasRoom (λ one.
    bind_any (wanted 2 file sections) _ r1cs.HasRoom (λ two.
    bind_any (this_field file 40 one) _ r1cs.HasRoom (λ _.
    checked_roomy (counted file one two) one (section_of 3 sections)))))

pub has_room : (file : List ℕ) → IfOk (r1cs_system file) HasRoom
unfolding r1cs_system
has_room file =
    bind_if (header_of file) _ r1cs.HasRoom HasRoom (header_roomy file) (λ header roomy.
    bind_any (constraints_from file header.wires header.rows header.constraints header.rows.at) _ HasRoom (λ list. roomy))
