-- What the definition says of a worked file and of malformed forms of it.
use Rattle.std.specs.Prelude.{◌≡◌, ℕ, List, [], ◌∷◌, ◌++◌, length, map, take, Ok, Result, refl}
use Rattle.std.specs.List.{flat_map}
use Rattle.tv_core.specs.declared.field.TheConstants.{P}
use Rattle.tv_word.specs.Word.{low_bytes}
use Rattle.tv_container.specs.Places.{Fault, wrong}
use Rattle.tv_container.specs.Field.{this_field}
use Rattle.tv_container.specs.Sections.{sections_of, sections_in, sections_from, section_at}
use Rattle.tv_container.specs.declared.why.ReadWhy.TheVariants.{BadMagic, BadVersion, Missing, Doubled, OtherPrime, BadCount, NotCanonical, Truncated, Trailing}
use Rattle.tv_wtns.specs.Wtns.{assignment_of, assignment_in, values_at}

-- the values 1, 3, 5 and 15
abbrev witness : List ℕ
witness =
    119 ∷ 116 ∷ 110 ∷ 115 ∷ 2 ∷ 0 ∷ 0 ∷ 0 ∷ 2 ∷ 0 ∷ 0 ∷ 0 ∷ 1 ∷ 0 ∷ 0 ∷ 0 ∷ 16 ∷ 0 ∷ 0 ∷ 0 ∷ 0 ∷ 0 ∷ 0 ∷ 0 ∷
    8 ∷ 0 ∷ 0 ∷ 0 ∷ 1 ∷ 0 ∷ 0 ∷ 0 ∷ 255 ∷ 255 ∷ 255 ∷ 255 ∷ 4 ∷ 0 ∷ 0 ∷ 0 ∷ 2 ∷ 0 ∷ 0 ∷ 0 ∷ 32 ∷ 0 ∷ 0 ∷ 0 ∷ 0 ∷ 0 ∷ 0 ∷ 0 ∷
    1 ∷ 0 ∷ 0 ∷ 0 ∷ 0 ∷ 0 ∷ 0 ∷ 0 ∷ 3 ∷ 0 ∷ 0 ∷ 0 ∷ 0 ∷ 0 ∷ 0 ∷ 0 ∷ 5 ∷ 0 ∷ 0 ∷ 0 ∷ 0 ∷ 0 ∷ 0 ∷ 0 ∷ 15 ∷ 0 ∷ 0 ∷ 0 ∷ 0 ∷ 0 ∷ 0 ∷ 0 ∷ []

-- a file of this magic, version and number of sections, and these sections
abbrev file : ℕ → ℕ → ℕ → List (List ℕ) → List ℕ
file magic version count sections = low_bytes 4 magic ++ (low_bytes 4 version ++ (low_bytes 4 count ++ flat_map (λ section. section) sections))

-- a file of the magic and the version that are called for
abbrev wtns : ℕ → List (List ℕ) → List ℕ
wtns count sections = file 0x736e7477 2 count sections

-- a section of a type, with this content
abbrev section : ℕ → List ℕ → List ℕ
section kind content = low_bytes 4 kind ++ (low_bytes 8 (length content) ++ content)

-- the content of section 1: the size of a number, the prime, and how many values there are
abbrev field : ℕ → ℕ → ℕ → List ℕ
field size prime count = low_bytes 4 size ++ (low_bytes 8 prime ++ low_bytes 4 count)

-- the content of section 2
abbrev numbers : List ℕ → List ℕ
numbers values = flat_map (low_bytes 8) values

pub witness_is : witness ≡ wtns 2 (section 1 (field 8 P 4) ∷ section 2 (numbers (1 ∷ 3 ∷ 5 ∷ 15 ∷ [])) ∷ [])
witness_is = refl

-- files, and what each is read as
abbrev vectors : List (List ℕ × Result (List ℕ) Fault)
vectors =
    -- reads the values
    (witness, Ok (1 ∷ 3 ∷ 5 ∷ 15 ∷ [])) ∷
    -- sections in either order
    (wtns 2 (section 2 (numbers (1 ∷ 3 ∷ 5 ∷ 15 ∷ [])) ∷ section 1 (field 8 P 4) ∷ []), Ok (1 ∷ 3 ∷ 5 ∷ 15 ∷ [])) ∷
    -- other types are skipped
    (wtns 4 (section 3 (7 ∷ []) ∷ section 2 (numbers (1 ∷ 3 ∷ 5 ∷ 15 ∷ [])) ∷ section 3 [] ∷ section 1 (field 8 P 4) ∷ []), Ok (1 ∷ 3 ∷ 5 ∷ 15 ∷ [])) ∷
    -- no values
    (wtns 2 (section 1 (field 8 P 0) ∷ section 2 [] ∷ []), Ok []) ∷
    -- greatest value
    (wtns 2 (section 1 (field 8 P 1) ∷ section 2 (numbers (18446744069414584320 ∷ [])) ∷ []), Ok (18446744069414584320 ∷ [])) ∷
    -- prime is no value
    (wtns 2 (section 1 (field 8 P 2) ∷ section 2 (numbers (18446744069414584320 ∷ 18446744069414584321 ∷ [])) ∷ []), wrong 60 NotCanonical) ∷
    -- no residue
    (wtns 2 (section 1 (field 8 P 4) ∷ section 2 (numbers (1 ∷ 18446744069414584324 ∷ 5 ∷ 15 ∷ [])) ∷ []), wrong 60 NotCanonical) ∷
    -- first of two is read
    (wtns 2 (section 1 (field 8 P 4) ∷ section 2 (numbers (1 ∷ 3 ∷ 18446744073709551615 ∷ 18446744069414584321 ∷ [])) ∷ []), wrong 68 NotCanonical) ∷
    -- three values counted
    (wtns 2 (section 1 (field 8 P 3) ∷ section 2 (numbers (1 ∷ 3 ∷ 5 ∷ 15 ∷ [])) ∷ []), wrong 52 (BadCount 32 24)) ∷
    -- five values counted
    (wtns 2 (section 1 (field 8 P 5) ∷ section 2 (numbers (1 ∷ 3 ∷ 5 ∷ 15 ∷ [])) ∷ []), wrong 52 (BadCount 32 40)) ∷
    -- a thousand million counted
    (wtns 2 (section 1 (field 8 P 1000000000) ∷ section 2 (numbers (1 ∷ 3 ∷ 5 ∷ 15 ∷ [])) ∷ []), wrong 52 (BadCount 32 8000000000)) ∷
    -- section is no multiple
    (wtns 2 (section 1 (field 8 P 4) ∷ section 2 (0 ∷ numbers (1 ∷ 3 ∷ 5 ∷ 15 ∷ [])) ∷ []), wrong 52 (BadCount 33 32)) ∷
    -- size comes before values
    (wtns 2 (section 1 (field 8 P 4) ∷ section 2 (numbers (18446744069414584321 ∷ [])) ∷ []), wrong 52 (BadCount 8 32)) ∷
    -- other prime
    (wtns 2 (section 1 (field 8 2 4) ∷ section 2 (numbers (1 ∷ 3 ∷ 5 ∷ 15 ∷ [])) ∷ []), wrong 24 OtherPrime) ∷
    -- wide numbers
    (wtns 2 (section 1 (field 32 P 4) ∷ section 2 (numbers (1 ∷ 3 ∷ 5 ∷ 15 ∷ [])) ∷ []), wrong 24 OtherPrime) ∷
    -- size of a number comes first
    (wtns 2 (section 1 (32 ∷ 0 ∷ 0 ∷ 0 ∷ []) ∷ section 2 (numbers (1 ∷ 3 ∷ 5 ∷ 15 ∷ [])) ∷ []), wrong 24 OtherPrime) ∷
    -- short field
    (wtns 2 (section 1 (8 ∷ 0 ∷ 0 ∷ []) ∷ section 2 (numbers (1 ∷ 3 ∷ 5 ∷ 15 ∷ [])) ∷ []), wrong 24 (BadCount 3 16)) ∷
    -- long field
    (wtns 2 (section 1 (field 8 P 4 ++ 0 ∷ []) ∷ section 2 (numbers (1 ∷ 3 ∷ 5 ∷ 15 ∷ [])) ∷ []), wrong 24 (BadCount 17 16)) ∷
    -- section one doubled
    (wtns 3 (section 1 (field 8 P 4) ∷ section 1 (field 8 P 4) ∷ section 2 (numbers (1 ∷ 3 ∷ 5 ∷ 15 ∷ [])) ∷ []), wrong 40 (Doubled 1)) ∷
    -- section two doubled
    (wtns 3 (section 1 (field 8 P 4) ∷ section 2 (numbers (1 ∷ 3 ∷ 5 ∷ 15 ∷ [])) ∷ section 2 [] ∷ []), wrong 84 (Doubled 2)) ∷
    -- section one missing
    (wtns 1 (section 2 (numbers (1 ∷ 3 ∷ 5 ∷ 15 ∷ [])) ∷ []), wrong 56 (Missing 1)) ∷
    -- section two missing
    (wtns 1 (section 1 (field 8 P 4) ∷ []), wrong 40 (Missing 2)) ∷
    -- no sections
    (wtns 0 [], wrong 12 (Missing 1)) ∷
    -- one section too many
    (wtns 3 (section 1 (field 8 P 4) ∷ section 2 (numbers (1 ∷ 3 ∷ 5 ∷ 15 ∷ [])) ∷ []), wrong 84 Truncated) ∷
    -- one section too few
    (wtns 1 (section 1 (field 8 P 4) ∷ section 2 (numbers (1 ∷ 3 ∷ 5 ∷ 15 ∷ [])) ∷ []), wrong 40 Trailing) ∷
    -- one byte more
    (wtns 2 (section 1 (field 8 P 4) ∷ section 2 (numbers (1 ∷ 3 ∷ 5 ∷ 15 ∷ [])) ∷ (0 ∷ []) ∷ []), wrong 84 Trailing) ∷
    -- other container
    (file 0x73633172 2 2 (section 1 (field 8 P 4) ∷ section 2 (numbers (1 ∷ 3 ∷ 5 ∷ 15 ∷ [])) ∷ []), wrong 0 BadMagic) ∷
    -- other version
    (file 0x736e7477 1 2 (section 1 (field 8 P 4) ∷ section 2 (numbers (1 ∷ 3 ∷ 5 ∷ 15 ∷ [])) ∷ []), wrong 4 (BadVersion 1)) ∷
    -- cut to its first bytes
    (take 0 witness, wrong 0 Truncated) ∷
    (take 3 witness, wrong 0 Truncated) ∷
    (take 4 witness, wrong 4 Truncated) ∷
    (take 8 witness, wrong 8 Truncated) ∷
    (take 11 witness, wrong 8 Truncated) ∷
    (take 12 witness, wrong 12 Truncated) ∷
    (take 39 witness, wrong 12 Truncated) ∷
    (take 40 witness, wrong 40 Truncated) ∷
    (take 83 witness, wrong 40 Truncated) ∷ []

pub each_is_read : map (λ vector. assignment_of vector.0) vectors ≡ map (λ vector. vector.1) vectors
unfolding assignment_of assignment_in values_at this_field sections_of sections_in sections_from section_at
each_is_read = refl
