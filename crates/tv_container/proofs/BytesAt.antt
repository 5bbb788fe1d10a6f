-- Bytes that stand at a place of a file, and what a reader makes of them.
use Rattle.tv_core.proofs.Common.{◌≡◌, ℕ, suc, ◌+◌, ◌^◌, ◌<◌, ◌≤◌, List, [], ◌∷◌, ◌++◌, length, take, drop, ◌-◌, true, false, Ok, append_assoc, append-nil, ap}
use Rattle.tv_core.proofs.Common.{refl, sym, ◌∙◌, arith, nat_tests, length-append}
use Rattle.std.proofs.Math.Seq.{drop-append_seam, take-append_seam}
use Rattle.tv_core.specs.declared.field.TheConstants.{P}
use Rattle.tv_word.specs.Word.{low_bytes, little_endian}
use Rattle.tv_container.specs.Bytes.{four_bytes, eight_bytes, front_bytes, section_bytes, section_head, field_bytes}
use Rattle.tv_container.specs.Field.{this_field}
use Rattle.tv_container.specs.Places.{number, places}
use Rattle.tv_container.specs.Sections.{stands_already, sections_from, sections_of}
use Rattle.tv_container.specs.declared.sections.Section.{Section}
use Rattle.tv_container.proofs.SectionLemmas.{fit-within, section_at-read, sections_from-next, sections_in-version, sections_of-counted, this_field-prime}
use Rattle.tv_word.proofs.ByteLaws.{little_endian-low_bytes}

-- a file has these bytes at a place
pub record At (file : List ℕ) (at : ℕ) (bytes : List ℕ) : Type 0 where
  pub front : List ℕ
  pub back : List ℕ
  pub place : at ≡ length front
  pub whole : file ≡ front ++ (bytes ++ back)

-- a file has all its bytes at its start
pub at_start : (file : List ℕ) → At file 0 file
at_start file = record { front = []; back = []; place = refl; whole = sym (append-nil file) }

-- the first of them, and those after it
pub at_first : (file : List ℕ) (at : ℕ) (first rest : List ℕ) → At file at (first ++ rest) → At file at first
at_first file at first rest a = record {
  front = a.front;
  back = rest ++ a.back;
  place = a.place;
  whole = a.whole ∙ ap (λ l. a.front ++ l) (append_assoc first rest a.back);
}

pub at_rest : (file : List ℕ) (at size next : ℕ) (first rest : List ℕ) → At file at (first ++ rest) → length first ≡ size → at + size ≡ next → At file next rest
at_rest file at size next first rest a is there = record {
  front = a.front ++ first;
  back = a.back;
  place = omega (arith, length-append a.front first, a.place);
  whole = a.whole ∙ ap (λ l. a.front ++ l) (append_assoc first rest a.back) ∙ sym (append_assoc a.front first (rest ++ a.back));
}

-- they end where the file does, or before
pub at_within : (file : List ℕ) (at : ℕ) (bytes : List ℕ) → At file at bytes → at + length bytes ≤ length file
at_within file at bytes a = omega (arith, a.place, ap length a.whole, length-append a.front (bytes ++ a.back), length-append bytes a.back)

-- the number that is read there is the one that they represent
number_at : (file : List ℕ) (at size : ℕ) (bytes : List ℕ) → At file at bytes → length bytes ≡ size → number file size at ≡ little_endian bytes
number_at file at size bytes a is =
    ap little_endian (
    ap (λ l. take size (drop at l)) a.whole
    ∙ ap (λ n. take size (drop n (a.front ++ (bytes ++ a.back)))) a.place
    ∙ ap (take size) (drop-append_seam a.front (bytes ++ a.back))
    ∙ ap (λ n. take n (bytes ++ a.back)) (sym is)
    ∙ take-append_seam bytes a.back)

pub length-four_bytes : (v : ℕ) → length (four_bytes v) ≡ 4
unfolding four_bytes
length-four_bytes v = refl

pub length-eight_bytes : (v : ℕ) → length (eight_bytes v) ≡ 8
unfolding eight_bytes
length-eight_bytes v = refl

-- how many bytes the heads of a container have
pub length-front_bytes : (magic version count : ℕ) → length (front_bytes magic version count) ≡ 12
length-front_bytes magic version count = simp (length-append, length-four_bytes)

pub length-section_head : (kind size : ℕ) → length (section_head kind size) ≡ 12
length-section_head kind size = simp (length-append, length-four_bytes, length-eight_bytes)

pub length-section_bytes : (kind : ℕ) (content : List ℕ) → length (section_bytes kind content) ≡ 12 + length content
length-section_bytes kind content = simp (length-append, length-four_bytes, length-eight_bytes)

pub length-field_bytes : length field_bytes ≡ 12
length-field_bytes = simp (length-append, length-four_bytes, length-eight_bytes)

-- numbers that were written are read
pub number_of_four : (file : List ℕ) (at v : ℕ) → At file at (four_bytes v) → v < 2 ^ 32 → number file 4 at ≡ v
unfolding four_bytes
number_of_four file at v a short = number_at file at 4 (low_bytes 4 v) a refl ∙ little_endian-low_bytes 4 v (omega arith)

pub number_of_eight : (file : List ℕ) (at v : ℕ) → At file at (eight_bytes v) → v < 2 ^ 64 → number file 8 at ≡ v
unfolding eight_bytes
number_of_eight file at v a short = number_at file at 8 (low_bytes 8 v) a refl ∙ little_endian-low_bytes 8 v (omega arith)

-- the front that was written says how many sections there are
pub sections_counted : (singles magic version count : ℕ) (file : List ℕ) → At file 0 (front_bytes magic version count) → magic < 2 ^ 32 → version < 2 ^ 32 →
    count < 2 ^ 32 → length file < 2 ^ 64 - 1 → sections_of singles magic version file ≡ sections_from singles file count 12 []
sections_counted singles magic version count file a magic_short version_short count_short short =
    let more = at_rest file 0 4 4 (four_bytes magic) (four_bytes version ++ four_bytes count) a (length-four_bytes magic) refl in
    let last = at_rest file 4 4 8 (four_bytes version) (four_bytes count) more (length-four_bytes version) refl in
    let end : 12 ≤ length file = omega (arith, at_within file 8 (four_bytes count) last, length-four_bytes count) in
    let magic_is = number_of_four file 0 magic (at_first file 0 (four_bytes magic) (four_bytes version ++ four_bytes count) a) magic_short in
    let version_is = number_of_four file 4 version (at_first file 4 (four_bytes version) (four_bytes count) more) version_short in
    let count_is = number_of_four file 8 count last count_short in
    sections_of-counted singles magic version count file
    (sections_in-version magic version file tt tt (fit-within 4 0 (places file) (omega arith)) magic_is (fit-within 4 4 (places file) (omega arith)) version_is
    ∙ rw (fit-within 4 8 (places file) (omega arith), count_is) refl)

-- the next section that was written is read
pub section_read : (singles n at next kind : ℕ) (content file : List ℕ) (sections : List Section) → At file at (section_bytes kind content) → kind < 2 ^ 32 →
    length file < 2 ^ 64 - 1 → stands_already singles kind sections ≡ false → at + 12 + length content ≡ next →
    sections_from singles file (suc n) at sections
    ≡ sections_from singles file n next (sections ++ record { kind = kind; at = at + 12; size = length content } ∷ [])
section_read singles n at next kind content file sections a kind_short short once there =
    let size = length content in
    let head = at_first file at (section_head kind size) content a in
    let rest = at_rest file at 4 (at + 4) (four_bytes kind) (eight_bytes size) head (length-four_bytes kind) refl in
    let end : at + 12 + size ≤ length file = omega
    (arith, length-section_head kind size, at_within file at (section_bytes kind content) a, length-append (section_head kind size) content) in
    let kind_is = number_of_four file at kind (at_first file at (four_bytes kind) (eight_bytes size) head) kind_short in
    let size_is = number_of_eight file (at + 4) size rest (omega arith) in
    sections_from-next singles (suc n) n at file sections (record { kind = kind; at = at + 12; size = size }) (omega arith)
    (section_at-read singles at kind size file sections tt true (fit-within 12 at (places file) (omega arith)) kind_is size_is once (grind (arith, nat_tests)))
    ∙ ap (λ p. sections_from singles file n p (sections ++ record { kind = kind; at = at + 12; size = size } ∷ [])) there

-- the field that was written is this one
pub field_read : (file : List ℕ) (wants : ℕ) (one : Section) → At file one.at field_bytes → one.size ≡ wants → 12 ≤ wants
    → this_field file wants one ≡ Ok (tt {0})
field_read file wants one a size room =
    let eight = number_of_four file one.at 8 (at_first file one.at (four_bytes 8) (eight_bytes P) a) (omega arith) in
    let prime = number_of_eight file (one.at + 4) P (at_rest file one.at 4 (one.at + 4) (four_bytes 8) (eight_bytes P) a (length-four_bytes 8) refl)
    (omega arith) in
    this_field-prime file wants one (omega arith) eight size ∙ rw prime refl
