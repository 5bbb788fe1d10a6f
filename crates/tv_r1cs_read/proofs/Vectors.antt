-- Files that another reader of the format was given, and what the definition makes of each.
use Rattle.std.specs.Prelude.{◌≡◌, ℕ, ◌+◌, List, [], ◌∷◌, ◌++◌, length, map, take, drop, Ok, Result, refl}
use Rattle.tv_core.specs.Constraints.{System}
use Rattle.tv_container.specs.Places.{Fault, wrong}
use Rattle.tv_r1cs_read.specs.R1cs.{r1cs_system, header_of, header_in, constraints_from, constraint_at, combination_at, count_at, terms_at, term_at}
use Rattle.tv_container.specs.Field.{this_field}
use Rattle.tv_container.specs.Sections.{sections_of, sections_in, sections_from, section_at}
use Rattle.tv_container.specs.declared.why.ReadWhy.TheVariants.{BadMagic, BadVersion, Missing, Doubled, OtherPrime, BadCount, WireRange, NotCanonical}
use Rattle.tv_container.specs.declared.why.ReadWhy.TheVariants.{Truncated, TooWide, Trailing}

-- the text `r1cs`, version 1 and three sections
abbrev front : List ℕ
front = 114 ∷ 49 ∷ 99 ∷ 115 ∷ 1 ∷ 0 ∷ 0 ∷ 0 ∷ 3 ∷ 0 ∷ 0 ∷ 0 ∷ []

-- the header of a section: its type and how many bytes its content has
abbrev section : ℕ → ℕ → List ℕ
section kind size = kind ∷ 0 ∷ 0 ∷ 0 ∷ size ∷ 0 ∷ 0 ∷ 0 ∷ 0 ∷ 0 ∷ 0 ∷ 0 ∷ []

-- section 1: the prime, in 8 bytes; four wires, no output, one input, no private input; four labels and one constraint
abbrev counts : List ℕ
counts =
    section 1 40 ++ (8 ∷ 0 ∷ 0 ∷ 0 ∷ 1 ∷ 0 ∷ 0 ∷ 0 ∷ 255 ∷ 255 ∷ 255 ∷ 255 ∷ 4 ∷ 0 ∷ 0 ∷ 0 ∷ 0 ∷ 0 ∷ 0 ∷ 0 ∷
    1 ∷ 0 ∷ 0 ∷ 0 ∷ 0 ∷ 0 ∷ 0 ∷ 0 ∷ 4 ∷ 0 ∷ 0 ∷ 0 ∷ 0 ∷ 0 ∷ 0 ∷ 0 ∷ 1 ∷ 0 ∷ 0 ∷ 0 ∷ [])

-- a combination: one term, a wire with coefficient 1
abbrev only : ℕ → List ℕ
only wire = 1 ∷ 0 ∷ 0 ∷ 0 ∷ wire ∷ 0 ∷ 0 ∷ 0 ∷ 1 ∷ 0 ∷ 0 ∷ 0 ∷ 0 ∷ 0 ∷ 0 ∷ 0 ∷ []

-- section 2: wire 1 times wire 2 is wire 3
abbrev rows : List ℕ
rows = section 2 48 ++ (only 1 ++ (only 2 ++ only 3))

-- section 3: each wire's label is its number
abbrev labels : List ℕ
labels =
    section 3 32 ++ (0 ∷ 0 ∷ 0 ∷ 0 ∷ 0 ∷ 0 ∷ 0 ∷ 0 ∷ 1 ∷ 0 ∷ 0 ∷ 0 ∷ 0 ∷ 0 ∷ 0 ∷ 0 ∷
    2 ∷ 0 ∷ 0 ∷ 0 ∷ 0 ∷ 0 ∷ 0 ∷ 0 ∷ 3 ∷ 0 ∷ 0 ∷ 0 ∷ 0 ∷ 0 ∷ 0 ∷ 0 ∷ [])

-- the worked file: 168 bytes, its sections at bytes 12, 64 and 124
abbrev worked : List ℕ
worked = front ++ (counts ++ (rows ++ labels))

-- a file with other bytes from a place on
abbrev changed : ℕ → List ℕ → List ℕ → List ℕ
changed at bytes file = take at file ++ (bytes ++ drop (at + length bytes) file)

-- the system that it holds
abbrev system : System
system = record {
  wires = 4;
  outputs = 0;
  inputs = 1;
  constraints = (record { a = (1, 1) ∷ []; b = (1, 2) ∷ []; c = (1, 3) ∷ [] }) ∷ [];
}

-- the worked file, and files that differ from it in one place, and what each is read as
abbrev vectors : List (List ℕ × Result System Fault)
vectors =
    -- as it stands
    (worked, Ok system) ∷
    -- its sections in the order 3, 2, 1
    (front ++ (labels ++ (rows ++ counts)), Ok system) ∷
    -- a section of a type that isn't looked up, in the place of section 3
    (changed 124 (9 ∷ []) worked, Ok system) ∷
    -- the last byte is lacking
    (take 167 worked, wrong 124 Truncated) ∷
    -- only three bytes
    (take 3 worked, wrong 0 Truncated) ∷
    -- a byte after the last section
    (worked ++ 0 ∷ [], wrong 168 Trailing) ∷
    -- another first byte
    (changed 0 (0 ∷ []) worked, wrong 0 BadMagic) ∷
    -- version 2
    (changed 4 (2 ∷ []) worked, wrong 4 (BadVersion 2)) ∷
    -- two sections are counted, or four
    (changed 8 (2 ∷ []) worked, wrong 124 Trailing) ∷
    (changed 8 (4 ∷ []) worked, wrong 168 Truncated) ∷
    -- the third section is of type 1 again, or of type 2
    (changed 124 (1 ∷ []) worked, wrong 124 (Doubled 1)) ∷
    (changed 124 (2 ∷ []) worked, wrong 124 (Doubled 2)) ∷
    -- there is no section 1, or no section 2
    (changed 12 (9 ∷ []) worked, wrong 168 (Missing 1)) ∷
    (changed 64 (9 ∷ []) worked, wrong 168 (Missing 2)) ∷
    -- section 1 has 2^64 - 1 bytes
    (changed 16 (255 ∷ 255 ∷ 255 ∷ 255 ∷ 255 ∷ 255 ∷ 255 ∷ 255 ∷ []) worked, wrong 12 Truncated) ∷
    -- numbers of 32 bytes, or another prime of 8 bytes
    (changed 24 (32 ∷ []) worked, wrong 24 OtherPrime) ∷
    (changed 28 (2 ∷ []) worked, wrong 24 OtherPrime) ∷
    -- one wire, or three
    (changed 36 (1 ∷ []) worked, wrong 24 (BadCount 1 2)) ∷
    (changed 36 (3 ∷ []) worked, wrong 136 (BadCount 32 24)) ∷
    -- no constraint is counted, or two
    (changed 60 (0 ∷ []) worked, wrong 76 (BadCount 48 0)) ∷
    (changed 60 (2 ∷ []) worked, wrong 124 Truncated) ∷
    -- a combination of 1,048,577 terms
    (changed 78 (16 ∷ []) worked, wrong 76 (TooWide 1048577)) ∷
    -- a term of wire 4
    (changed 80 (4 ∷ []) worked, wrong 80 (WireRange 4 4)) ∷
    -- a coefficient that is P
    (changed 88 (255 ∷ 255 ∷ 255 ∷ 255 ∷ []) worked, wrong 84 NotCanonical) ∷ []

each_is_read : map (λ vector. r1cs_system vector.0) vectors ≡ map (λ vector. vector.1) vectors
unfolding r1cs_system header_of header_in this_field constraints_from constraint_at combination_at count_at terms_at term_at sections_of sections_in
    sections_from
    section_at
each_is_read = refl
