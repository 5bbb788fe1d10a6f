-- Files as a whole, and what is read of them.
use Rattle.tv_core.proofs.Common.{◌≡◌, inl, inr, ℕ, ◌+◌, ◌-◌, ◌*◌, ◌^◌, ◌<◌, suc, List, [], ◌∷◌, ◌++◌, length, Ok, append_assoc, ap, refl, sym, ◌∙◌, arith}
use Rattle.tv_core.proofs.Common.{nat_tests, length-append}
use Rattle.std.proofs.lemmas.Grind.{flat_map-append}
use Rattle.std.proofs.lemmas.List.Elements.{All-head, All-tail}
use Rattle.std.specs.List.{All}
use Rattle.tv_container.specs.Bytes.{eight_bytes, field_bytes, four_bytes, front_bytes, section_bytes, section_head}
use Rattle.tv_container.specs.Field.{this_field}
use Rattle.tv_container.specs.Places.{number}
use Rattle.tv_container.specs.Sections.{sections_of, wanted}
use Rattle.tv_container.specs.declared.sections.Section.{Section}
use Rattle.tv_container.proofs.BytesAt.{At, at_start, at_first, at_rest, field_read, number_of_four, number_of_eight, length-eight_bytes, length-field_bytes}
use Rattle.tv_container.proofs.BytesAt.{length-four_bytes, length-front_bytes, length-section_bytes, length-section_head, section_read, sections_counted}
use Rattle.tv_container.proofs.Written.{but_front, front_front}
use Rattle.tv_container.proofs.SectionLemmas.{sections_from-end}
use Rattle.tv_core.specs.declared.field.TheConstants.{P}
use Rattle.tv_wtns.specs.Bytes.{assignment_bytes, count_bytes, file_bytes, head_bytes, values_bytes}
use Rattle.tv_wtns.specs.Laws.{AssignmentsComeBack, FilesAreFronts, FilesAreOfAssignments}
use Rattle.tv_wtns.specs.Wtns.{assignment_in, assignment_of, counted, fills, values_at}

length-values_bytes : (values : List ℕ) → length (values_bytes values) ≡ 8 * length values
length-values_bytes [] = refl
length-values_bytes (value ∷ values) = simp (length-append, length-eight_bytes, length-values_bytes values) (omega arith)

-- section 2 is as long as its header says
pub files_of_assignments : FilesAreOfAssignments
files_of_assignments count values is =
    let front = front_bytes 0x736e7477 2 2 in
    let one = section_bytes 1 (count_bytes count) in
    let size : 8 * count ≡ length (values_bytes values) = omega (arith, is, length-values_bytes values) in
    append_assoc front (one ++ section_head 2 (8 * count)) (values_bytes values)
    ∙ ap (λ l. front ++ l) (append_assoc one (section_head 2 (8 * count)) (values_bytes values))
    ∙ ap (λ n. front ++ (one ++ (section_head 2 n ++ values_bytes values))) size
    ∙ ap (λ n. front ++ (section_bytes 1 (count_bytes n) ++ section_bytes 2 (values_bytes values))) is

-- the bytes of the first values are the first of all
fronts : (count : ℕ) (values more : List ℕ) → file_bytes count (values ++ more) ≡ file_bytes count values ++ values_bytes more
fronts count values more =
    ap (λ l. head_bytes count ++ l) (flat_map-append eight_bytes values more)
    ∙ sym (append_assoc (head_bytes count) (values_bytes values) (values_bytes more))

pub files_are_fronts : FilesAreFronts
files_are_fronts taker values more (inl stands) =
    but_front taker.outside taker.name taker.progress.held (file_bytes taker.progress.count values) (values_bytes more) _ stands.written
    (fronts taker.progress.count values more)
files_are_fronts taker values more (inr tried) =
    front_front taker.outside taker.name (file_bytes taker.progress.count values) (values_bytes more) _ tried.written (fronts taker.progress.count values more)

-- one value that is as it should be, and others
values_at-value : (file : List ℕ) (n at value : ℕ) (others : List ℕ) → number file 8 at ≡ value → value < P → values_at file n (at + 8) ≡ Ok others →
    values_at file (suc n) at ≡ Ok (value ∷ others)
unfolding values_at
values_at-value file n at value others is below rest = rw (is, rest) (grind (arith, nat_tests))

values_at-none : (file : List ℕ) (at : ℕ) → values_at file 0 at ≡ Ok []
unfolding values_at
values_at-none file at = refl

values_read : (file : List ℕ) (at : ℕ) (values : List ℕ) → At file at (values_bytes values) → All (λ v. v < P) values
    → values_at file (length values) at ≡ Ok values
values_read file at [] a all = values_at-none file at
values_read file at (value ∷ values) a all =
    let below = All-head (λ v. v < P) value values all in
    let is = number_of_eight file at value (at_first file at (eight_bytes value) (values_bytes values) a) (omega arith) in
    let rest = values_read file (at + 8) values (at_rest file at 8 (at + 8) (eight_bytes value) (values_bytes values) a (length-eight_bytes value) refl)
    (All-tail (λ v. v < P) value values all) in
    values_at-value file (length values) at value values is below rest

length-count_bytes : (count : ℕ) → length (count_bytes count) ≡ 16
length-count_bytes count = omega (arith, length-append field_bytes (four_bytes count), length-field_bytes, length-four_bytes count)

assignment_found : (file : List ℕ) (sections : List Section) → sections_of 2 0x736e7477 2 file ≡ Ok sections → assignment_of file ≡ assignment_in file sections
unfolding assignment_of
assignment_found file sections found = rw found refl

fills_passes : (count : ℕ) (two : Section) → two.size ≡ 8 * count → fills count two ≡ Ok (tt {0})
fills_passes count two is = grind (arith, nat_tests)

assignment_in-found : (file : List ℕ) (sections : List Section) (one two : Section) (count : ℕ) (values : List ℕ) → wanted 1 file sections ≡ Ok one →
    wanted 2 file sections ≡ Ok two → this_field file 16 one ≡ Ok (tt {0}) → counted file one ≡ count → fills count two ≡ Ok (tt {0}) →
    values_at file count two.at ≡ Ok values → assignment_in file sections ≡ Ok values
unfolding assignment_in
assignment_in-found file sections one two count values first second field counts size read = rw (first, second, field, counts, size) read

pub come_back : AssignmentsComeBack
come_back values few all =
    let file = assignment_bytes values in
    let count = length values in
    let one = count_bytes count in
    let two = values_bytes values in
    let front = front_bytes 0x736e7477 2 2 in
    let first = section_bytes 1 one in
    let second = section_bytes 2 two in
    let one_size = length-count_bytes count in
    let long : length file ≡ 52 + length two = simp (length-append, length-four_bytes, length-eight_bytes) (omega arith) in
    let short : length file < 2 ^ 64 - 1 = omega (arith, long, few, length-values_bytes values) in
    let a = at_rest file 0 12 12 front (first ++ second) (at_start file) (length-front_bytes 0x736e7477 2 2) refl in
    let b = at_rest file 12 28 40 first second a (omega (arith, length-section_bytes 1 one, one_size)) refl in
    let one_at = at_rest file 12 12 24 (section_head 1 (length one)) one (at_first file 12 first second a) (length-section_head 1 (length one)) refl in
    let two_at = at_rest file 40 12 52 (section_head 2 (length two)) two b (length-section_head 2 (length two)) refl in
    let s1 : Section = record { kind = 1; at = 24; size = length one } in
    let s2 : Section = record { kind = 2; at = 52; size = length two } in
    let found = assignment_found file (s1 ∷ s2 ∷ [])
    (sections_counted 2 0x736e7477 2 2 file (at_first file 0 front (first ++ second) (at_start file)) (omega arith) (omega arith) (omega arith) short
    ∙ section_read 2 1 12 40 1 one file [] (at_first file 12 first second a) (omega arith) short refl (omega (arith, one_size))
    ∙ section_read 2 0 40 (length file) 2 two file (s1 ∷ []) b (omega arith) short refl (omega (arith, long))
    ∙ sections_from-end 2 0 (length file) file (s1 ∷ s2 ∷ []) refl refl) in
    let field = field_read file 16 s1 (at_first file 24 field_bytes (four_bytes count) one_at) one_size (omega arith) in
    let counts = number_of_four file 36 count (at_rest file 24 12 36 field_bytes (four_bytes count) one_at length-field_bytes refl) few in
    found
    ∙ assignment_in-found file (s1 ∷ s2 ∷ []) s1 s2 count values refl refl field counts (fills_passes count s2 (length-values_bytes values))
    (values_read file 52 values two_at all)
