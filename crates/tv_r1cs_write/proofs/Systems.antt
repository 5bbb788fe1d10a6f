-- A system that was written is read.
use Rattle.tv_core.proofs.Common.{◌≡◌, ℕ, ◌+◌, ◌-◌, ◌*◌, ◌<◌, ◌≤◌, ◌^◌, List, [], ◌∷◌, ◌++◌, length, Ok, Some, ap, refl, subst, ◌∙◌, arith, nat_tests}
use Rattle.tv_core.proofs.Common.{length-append, Constraint, terms_in}
use Rattle.std.proofs.lemmas.List.Elements.{All-head, All-tail}
use Rattle.std.specs.List.{All}
use Rattle.tv_container.specs.Bytes.{four_bytes, eight_bytes, field_bytes, front_bytes, section_bytes, section_head}
use Rattle.tv_container.specs.Sections.{sections_of}
use Rattle.tv_container.specs.declared.sections.Section.{Section}
use Rattle.tv_container.proofs.BytesAt.{At, at_first, at_rest, at_start, field_read, length-eight_bytes, length-field_bytes, length-four_bytes}
use Rattle.tv_container.proofs.BytesAt.{length-front_bytes, length-section_bytes, length-section_head, number_of_four, section_read, sections_counted}
use Rattle.tv_container.proofs.SectionLemmas.{sections_from-end}
use Rattle.tv_core.specs.Meanings.{system_counts}
use Rattle.tv_core.specs.declared.lines.Counts.{Counts}
use Rattle.tv_r1cs_read.specs.R1cs.{checked, counted, header_in, header_of, constraints_from, r1cs_system}
use Rattle.tv_r1cs_read.specs.declared.header.Header.{Header}
use Rattle.tv_r1cs_read.proofs.HeaderLemmas.{header_in-checked}
use Rattle.tv_r1cs_write.specs.Bytes.{counts_bytes, label_bytes, numbers_bytes, rows_bytes, system_bytes}
use Rattle.tv_r1cs_write.specs.Laws.{SystemsComeBack}
use Rattle.tv_r1cs_write.specs.Narrow.{IsNarrow}
use Rattle.tv_r1cs_write.proofs.Rows.{rows_read}
use Rattle.tv_r1cs_write.proofs.Sizes.{length-label_bytes, length-rows_bytes, terms_in-cons}

-- constraints that the format can hold have at most 3 times 1,048,576 terms each
terms_few : (wires : ℕ) (list : List Constraint) → All (IsNarrow wires) list → terms_in list ≤ 3145728 * length list
terms_few wires [] all = omega arith
terms_few wires (row ∷ list) all =
    let first = All-head (IsNarrow wires) row list all in
    omega (
      arith,
      first.short.a.terms,
      first.short.b.terms,
      first.short.c.terms,
      terms_in-cons row list,
      terms_few wires list (All-tail (IsNarrow wires) row list all),
    )

length-counts_bytes : (counts : Counts) (labels : ℕ) → length (counts_bytes counts labels) ≡ 40
length-counts_bytes counts labels = simp (length-append, length-four_bytes, length-eight_bytes)

-- the content of a section stands after its header
content_at : (kind at : ℕ) (content rest file : List ℕ) → At file at (section_bytes kind content ++ rest) → At file (at + 12) content
content_at kind at content rest file a =
    at_rest file at 12 (at + 12) (section_head kind (length content)) content (at_first file at (section_bytes kind content) rest a)
    (length-section_head kind (length content)) refl

-- three sections that were written are read: the contents of the first two stand where their headers say
record AreRead (magic version : ℕ) (one two three file : List ℕ) : Type 0 where
  one_at : At file 24 one
  two_at : At file (24 + length one + 12) two
  sections : sections_of 3 magic version file ≡ Ok (
      record { kind = 1; at = 24; size = length one }
      ∷ record { kind = 2; at = 24 + length one + 12; size = length two }
      ∷ record { kind = 3; at = 36 + length one + length two + 12; size = length three }
      ∷ [])

are_read : (magic version : ℕ) (one two three file : List ℕ) →
    file ≡ front_bytes magic version 3 ++ (section_bytes 1 one ++ (section_bytes 2 two ++ section_bytes 3 three)) →
    magic < 2 ^ 32 → version < 2 ^ 32 → length file < 2 ^ 64 - 1 → AreRead magic version one two three file
are_read magic version one two three file is magic_short version_short short =
    let first = section_bytes 1 one in
    let second = section_bytes 2 two in
    let third = section_bytes 3 three in
    let start : At file 0 (front_bytes magic version 3 ++ (first ++ (second ++ third))) = subst (λ bytes. At file 0 bytes) is (at_start file) in
    let a = at_rest file 0 12 12 (front_bytes magic version 3) (first ++ (second ++ third)) start (length-front_bytes magic version 3) refl in
    let b = at_rest file 12 (12 + length one) (24 + length one) first (second ++ third) a (length-section_bytes 1 one) (omega arith) in
    let c = at_rest file (24 + length one) (12 + length two) (36 + length one + length two) second third b (length-section_bytes 2 two) (omega arith) in
    let end : 36 + length one + length two + 12 + length three ≡ length file =
    rw is (simp (length-append, length-four_bytes, length-eight_bytes) (omega arith)) in
    let s1 : Section = record { kind = 1; at = 24; size = length one } in
    let s2 : Section = record { kind = 2; at = 24 + length one + 12; size = length two } in
    let s3 : Section = record { kind = 3; at = 36 + length one + length two + 12; size = length three } in
    record {
      one_at = content_at 1 12 one (second ++ third) file a;
      two_at = content_at 2 (24 + length one) two third file b;
      sections =
          sections_counted 3 magic version 3 file (at_first file 0 (front_bytes magic version 3) (first ++ (second ++ third)) start) magic_short version_short
          (omega arith) short
          ∙ section_read 3 2 12 (24 + length one) 1 one file [] (at_first file 12 first (second ++ third) a) (omega arith) short refl (omega arith)
          ∙ section_read 3 1 (24 + length one) (36 + length one + length two) 2 two file (s1 ∷ []) (at_first file (24 + length one) second third b)
          (omega arith) short refl (omega arith)
          ∙ section_read 3 0 (36 + length one + length two) (length file) 3 three file (s1 ∷ s2 ∷ []) c (omega arith) short refl end
          ∙ sections_from-end 3 0 (length file) file (s1 ∷ s2 ∷ s3 ∷ []) refl refl;
    }

-- what section 1 counts
counts_read : (file : List ℕ) (counts : Counts) (labels : ℕ) (one two : Section) → At file one.at (counts_bytes counts labels) → counts.wires < 2 ^ 32 →
    counts.outputs < 2 ^ 32 → counts.inputs < 2 ^ 32 → counts.constraints < 2 ^ 32 →
    counted file one two ≡ record { wires = counts.wires; outputs = counts.outputs; inputs = counts.inputs; constraints = counts.constraints; rows = two }
counts_read file counts labels one two a wires outputs inputs constraints =
    let at = one.at in
    let last = eight_bytes labels ++ four_bytes counts.constraints in
    let b = at_rest file at 12 (at + 12) field_bytes (numbers_bytes counts labels) a length-field_bytes refl in
    let c = at_rest file (at + 12) 4 (at + 16) (four_bytes counts.wires) (four_bytes counts.outputs ++ (four_bytes counts.inputs ++ (four_bytes 0 ++ last))) b
    (length-four_bytes counts.wires) (omega arith) in
    let d = at_rest file (at + 16) 4 (at + 20) (four_bytes counts.outputs) (four_bytes counts.inputs ++ (four_bytes 0 ++ last)) c
    (length-four_bytes counts.outputs) (omega arith) in
    let e = at_rest file (at + 20) 4 (at + 24) (four_bytes counts.inputs) (four_bytes 0 ++ last) d (length-four_bytes counts.inputs) (omega arith) in
    let f = at_rest file (at + 24) 4 (at + 28) (four_bytes 0) last e (length-four_bytes 0) (omega arith) in
    let g = at_rest file (at + 28) 8 (at + 36) (eight_bytes labels) (four_bytes counts.constraints) f (length-eight_bytes labels) (omega arith) in
    let wires_are = number_of_four file (at + 12) counts.wires
    (at_first file (at + 12) (four_bytes counts.wires) (four_bytes counts.outputs ++ (four_bytes counts.inputs ++ (four_bytes 0 ++ last))) b) wires in
    let outputs_are = number_of_four file (at + 16) counts.outputs
    (at_first file (at + 16) (four_bytes counts.outputs) (four_bytes counts.inputs ++ (four_bytes 0 ++ last)) c) outputs in
    let inputs_are = number_of_four file (at + 20) counts.inputs (at_first file (at + 20) (four_bytes counts.inputs) (four_bytes 0 ++ last) d) inputs in
    let constraints_are = number_of_four file (at + 36) counts.constraints g constraints in
    rw (wires_are, outputs_are, inputs_are, constraints_are) refl

header_found : (file : List ℕ) (sections : List Section) → sections_of 3 0x73633172 1 file ≡ Ok sections → header_of file ≡ header_in file sections
unfolding header_of
header_found file sections found = rw found refl

checked_passes : (header : Header) (one labels : Section) → 1 + header.outputs + header.inputs ≤ header.wires → labels.size ≡ 8 * header.wires →
    checked header one (Some labels) ≡ Ok header
checked_passes header one labels room size = grind (arith, nat_tests)

system_found : (file : List ℕ) (header : Header) (list : List Constraint) → header_of file ≡ Ok header →
    constraints_from file header.wires header.rows header.constraints header.rows.at ≡ Ok list →
    r1cs_system file ≡ Ok (record { wires = header.wires; outputs = header.outputs; inputs = header.inputs; constraints = list })
unfolding r1cs_system
system_found file header list found read = rw (found, read) refl

pub systems_come_back : SystemsComeBack
systems_come_back system count labels is each =
    let file = system_bytes system count labels in
    let list = system.constraints in
    let counts = system_counts system in
    let one = counts_bytes counts count in
    let two = rows_bytes list in
    let three = label_bytes labels in
    let few = terms_few system.wires list is.narrow in
    let one_size = length-counts_bytes counts count in
    let long : length file ≡ 48 + length one + length two + length three =
    simp (length-append, length-four_bytes, length-eight_bytes) (omega arith) in
    let short : length file < 2 ^ 64 - 1 = omega
    (arith, long, one_size, few, is.constraints, is.wires, length-rows_bytes list, length-label_bytes labels, each) in
    let read = are_read 0x73633172 1 one two three file refl (omega arith) (omega arith) short in
    let s1 : Section = record { kind = 1; at = 24; size = length one } in
    let s2 : Section = record { kind = 2; at = 24 + length one + 12; size = length two } in
    let s3 : Section = record { kind = 3; at = 36 + length one + length two + 12; size = length three } in
    let header : Header = record { wires = system.wires; outputs = system.outputs; inputs = system.inputs; constraints = length list; rows = s2 } in
    let field = field_read file 40 s1 (at_first file 24 field_bytes (numbers_bytes counts count) read.one_at) one_size (omega arith) in
    let counted_are = counts_read file counts count s1 s2 read.one_at is.wires (omega (arith, is.publics, is.wires))
    (omega (arith, is.publics, is.wires)) is.constraints in
    let found = header_found file (s1 ∷ s2 ∷ s3 ∷ []) read.sections
    ∙ header_in-checked file (s1 ∷ s2 ∷ s3 ∷ []) s1 s2 tt header refl refl field (ap Ok counted_are)
    ∙ checked_passes header s1 s3 is.publics (omega (arith, length-label_bytes labels, each)) in
    system_found file header list found (rows_read file system.wires (24 + length one + 12) s2 list read.two_at is.narrow is.wires refl)
