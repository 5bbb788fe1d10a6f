-- The bytes of containers, as they are written.
use Rattle.std.specs.Prelude.{ℕ, List, ◌++◌, length}
use Rattle.std.specs.List.{flat_map}
use Rattle.tv_core.specs.Constraints.{Combination}
use Rattle.tv_core.specs.declared.field.TheConstants.{P}
use Rattle.tv_word.specs.Word.{low_bytes}

-- a number in four bytes, and in eight, the lowest first
unfoldable pub four_bytes : ℕ → List ℕ
four_bytes number = low_bytes 4 number

unfoldable pub eight_bytes : ℕ → List ℕ
eight_bytes number = low_bytes 8 number

-- the first twelve bytes: the magic, the version, and how many sections there are
abbrev pub front_bytes : ℕ → ℕ → ℕ → List ℕ
front_bytes magic version sections = four_bytes magic ++ (four_bytes version ++ four_bytes sections)

-- the header of a section: its type, and how many bytes its content has
abbrev pub section_head : ℕ → ℕ → List ℕ
section_head kind size = four_bytes kind ++ eight_bytes size

-- a section: its header and its content
abbrev pub section_bytes : ℕ → List ℕ → List ℕ
section_bytes kind content = section_head kind (length content) ++ content

-- the first twelve bytes of section 1: numbers have 8 bytes, and the prime
abbrev pub field_bytes : List ℕ
field_bytes = four_bytes 8 ++ eight_bytes P

-- a term: four bytes of the wire, and eight of the coefficient
abbrev pub term_bytes : ℕ × ℕ → List ℕ
term_bytes term = four_bytes term.1 ++ eight_bytes term.0

-- terms, one after another
abbrev pub terms_bytes : Combination → List ℕ
terms_bytes terms = flat_map term_bytes terms
