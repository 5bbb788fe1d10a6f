-- What is kept of a container's sections.
use Rattle.std.specs.Prelude.{◌≡◌, ℕ, ◌+◌, ◌^◌, ◌<◌, ◌≤◌, List, length, Some, IfSome, Result, Ok, MatchResult}
use Rattle.tv_container.specs.declared.sections.Found.{Found}
use Rattle.tv_container.specs.declared.sections.Section.{Section}
use Rattle.tv_container.specs.declared.why.ReadRefusal.{ReadRefusal}
use Rattle.tv_container.specs.Places.{Fault, places}
use Rattle.tv_container.specs.Reading.{Refuses}
use Rattle.tv_container.specs.Sections.{section_of}

-- the first section of each of the types 1, 2 and 3
abbrev pub first_of : List Section → Found
first_of sections = record { one = section_of 1 sections; two = section_of 2 sections; three = section_of 3 sections }

-- the sections were found, the first of each type and the file's end, or their fault
abbrev pub FindsIn : Result (Found × ℕ) ReadRefusal → List ℕ → Result (List Section) Fault → Type 0
FindsIn result file answer = MatchResult result
    (λ found. (sections : List Section) × (answer ≡ Ok sections) × (found.0 ≡ first_of sections) × (found.1 ≡ length file))
    (λ why. Refuses why answer)

-- the content of each section that is looked up by its type fits in the file
pub record AllFit (file : List ℕ) (sections : List Section) : Type 0 where
  pub fits : (kind : ℕ) (section : Section) → section_of kind sections ≡ Some section → section.at + section.size ≤ places file

-- the places of each section are below 2^64
pub record AllEnd (found : Found) : Type 0 where
  pub one : IfSome found.one (λ section. section.at + section.size < 2 ^ 64)
  pub two : IfSome found.two (λ section. section.at + section.size < 2 ^ 64)
  pub three : IfSome found.three (λ section. section.at + section.size < 2 ^ 64)
