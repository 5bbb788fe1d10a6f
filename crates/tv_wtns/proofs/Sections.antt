-- An assignment, once what stands before its values is known.
use Rattle.tv_core.proofs.Common.{◌≡◌, ℕ, List, Result, Ok, refl}
use Rattle.tv_container.specs.Field.{this_field}
use Rattle.tv_container.specs.Places.{Fault}
use Rattle.tv_container.specs.Reading.{Refuses}
use Rattle.tv_container.specs.Sections.{wanted}
use Rattle.tv_container.specs.declared.sections.Section.{Section}
use Rattle.tv_container.specs.declared.why.ReadRefusal.{ReadRefusal}
use Rattle.tv_container.proofs.Chain.{refuses_first}
use Rattle.tv_wtns.specs.Wtns.{values_at, counted, fills, assignment_in}

-- where section 2 has the size of the counted values, the assignment is those values
pub filled : (file : List ℕ) (sections : List Section) (one two : Section) (count : ℕ) (fields done : Unit {0}) →
    wanted 1 file sections ≡ Ok one → wanted 2 file sections ≡ Ok two → this_field file 16 one ≡ Ok fields →
    ◌≡◌ {A = Result ℕ Fault} (Ok (counted file one)) (Ok count) → fills count two ≡ Ok done → assignment_in file sections ≡ values_at file count two.at
unfolding assignment_in
filled file sections one two count fields done one_is two_is field counts fit =
    let same : counted file one ≡ count = cc in rw (one_is, two_is, field, same, fit) refl

-- a section 2 of another size is reported
pub misfilled : (file : List ℕ) (sections : List Section) (one two : Section) (count : ℕ) (fields : Unit {0}) (why : ReadRefusal) →
    wanted 1 file sections ≡ Ok one → wanted 2 file sections ≡ Ok two → this_field file 16 one ≡ Ok fields →
    ◌≡◌ {A = Result ℕ Fault} (Ok (counted file one)) (Ok count) → Refuses why (fills count two) → Refuses why (assignment_in file sections)
unfolding assignment_in
misfilled file sections one two count fields why one_is two_is field counts refuses =
    let same : counted file one ≡ count = cc in rw (one_is, two_is, field, same) (refuses_first why _ _ refuses)
