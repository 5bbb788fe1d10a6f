-- What comes before the constraints, step by step.
use Rattle.tv_core.proofs.Common.{◌≡◌, ℕ, List, false, Result, Ok, Err, ap}
use Rattle.std.specs.Prelude.{IfErr, IfOk, OnOk}
use Rattle.tv_files.specs.Outside.{Outside}
use Rattle.tv_container.proofs.Chain.{reads_done, reads_own}
use Rattle.tv_container.specs.declared.why.ReadRefusal.{ReadRefusal}
use Rattle.tv_container.specs.Places.{Fault}
use Rattle.tv_container.specs.Reading.{IsOwn, Piece, ReadsIn}
use Rattle.tv_container.specs.declared.sections.Section.{Section}
use Rattle.tv_r1cs_read.specs.declared.header.Header.{Header}
use Rattle.tv_r1cs_read.specs.R1cs.{HasRoom, counted, checked, header_in}
use Rattle.tv_container.specs.Field.{this_field}
use Rattle.tv_container.specs.Sections.{section_of, wanted}

-- once section 1 is known to be of this field, the rest of the header is checked
pub header_in-checked : (file : List ℕ) (sections : List Section) (one two : Section) (done : Unit {0}) (header : Header) →
    wanted 1 file sections ≡ Ok one → wanted 2 file sections ≡ Ok two → this_field file 40 one ≡ Ok done →
    ◌≡◌ {A = Result Header Fault} (Ok (counted file one two)) (Ok header) →
    header_in file sections ≡ checked header one (section_of 3 sections)
unfolding header_in
header_in-checked file sections one two done header one_is two_is field counts =
    let same : counted file one two ≡ header = cc in rw (one_is, two_is, field) (ap (λ fields. checked fields one (section_of 3 sections)) same)

-- what a check of the header returns is the header
pub checked_has : (result : Result Header ReadRefusal) (header : Header) (P : Header → Type 0) → IfOk result (λ checked. checked ≡ header) → P header →
    IfOk result P
checked_has (Ok checked) header P same holds = rw same holds
checked_has (Err why) header P same holds = tt

pub checked_room : (result : Result Header ReadRefusal) (header : Header) → IfOk result (λ checked. checked ≡ header) → OnOk result (HasRoom header) →
    IfOk result HasRoom
checked_room (Ok checked) header same room = rw same room
checked_room (Err why) header same room = tt

-- which reads nothing
pub reads_by : {outside : Outside} {name : List ℕ} {piece : Piece} (result : Result Header ReadRefusal) → IfErr result (IsOwn false) →
    ReadsIn outside outside name piece piece result (λ file. Unit {0})
reads_by (Ok checked) own = reads_done
reads_by (Err why) own = reads_own own
