-- A container cut into its sections.
use Rattle.std.specs.Prelude.{ℕ, zero, suc, ◌+◌, Bool, not, is_some, List, [], ◌∷◌, ◌++◌, length, Option, Some, None, Result, Ok, nat_lt, nat_le, ◌==◌, ◌&&◌}
use Rattle.std.specs.Prelude.{if◌then◌else◌}
use Rattle.tv_container.specs.declared.sections.Section.{Section}
use Rattle.tv_container.specs.declared.why.ReadWhy.TheVariants.{BadMagic, BadVersion, Missing, Doubled, Truncated, Trailing}
use Rattle.tv_container.specs.Places.{Fault, ◌>>=◌, wrong, unless, number, places, fit}

-- the first section of a type; a section is its type, the place of its content, and how many bytes that has
abbrev pub section_of : ℕ → List Section → Option Section
section_of kind [] = None
section_of kind (section ∷ sections) = if section.kind == kind then Some section else section_of kind sections

-- a type that may stand once, 1 to `singles`, stands already
abbrev pub stands_already : ℕ → ℕ → List Section → Bool
stands_already singles kind sections = nat_le 1 kind && nat_le kind singles && is_some (section_of kind sections)

-- The section at a place, after those at hand: twelve bytes of header, the type and the size, and the content. What
-- doesn't fit is reported at the header's place.
unfoldable pub section_at : ℕ → List ℕ → ℕ → List Section → Result Section Fault
section_at singles file at sections = do
  _ ← fit 12 at (places file)
  _ ← unless (stands_already singles (number file 4 at) sections) at (Doubled (number file 4 at))
  _ ← unless (nat_lt (places file) (at + 12 + number file 8 (at + 4))) at Truncated
  Ok (record { kind = number file 4 at; at = at + 12; size = number file 8 (at + 4) })

-- n sections that stand after those at hand, from a place to the end of the file
unfoldable pub sections_from : ℕ → List ℕ → ℕ → ℕ → List Section → Result (List Section) Fault
sections_from singles file zero at sections = if at == length file then Ok sections else wrong at Trailing
sections_from singles file (suc n) at sections = do
  section ← section_at singles file at sections
  sections_from singles file n (section.at + section.size) (sections ++ section ∷ [])

-- how many sections a file with this magic and version says that it has: four bytes each
unfoldable pub sections_in : ℕ → ℕ → List ℕ → Result ℕ Fault
sections_in magic version file = do
  _ ← fit 4 0 (places file)
  _ ← unless (not (number file 4 0 == magic)) 0 BadMagic
  _ ← fit 4 4 (places file)
  _ ← unless (not (number file 4 4 == version)) 4 (BadVersion (number file 4 4))
  _ ← fit 4 8 (places file)
  Ok (number file 4 8)

-- the sections of a file with this magic and version; those of types 1 to `singles` may stand once
unfoldable pub sections_of : ℕ → ℕ → ℕ → List ℕ → Result (List Section) Fault
sections_of singles magic version file = do
  count ← sections_in magic version file
  sections_from singles file count 12 []

-- the section of a type; where there is none it is missing at the end of the file
abbrev pub wanted : ℕ → List ℕ → List Section → Result Section Fault
wanted kind file sections = elim (section_of kind sections) [ Some section ↦ Ok section | None ↦ wrong (length file) (Missing kind) ]
