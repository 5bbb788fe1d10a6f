use Rattle.tv_core.proofs.Common.{◌≡◌, ◌-◌, ◌≤◌, List, [], Ok}
use Rattle.tv_container.specs.declared.sections.Section.{Section}
use Rattle.tv_container.specs.Found.{first_of, AllEnd}
use Rattle.tv_container.specs.Places.{places}
use Rattle.tv_container.specs.Reading.{ReadsIn}
use Rattle.tv_container.specs.Sections.{sections_from}
use Rattle.tv_container.proofs.sections.next_sections.Given as goal

abbrev pub invariant-loop : goal.invariant-loop
invariant-loop g l = record {
  ends : AllEnd l.found;
  reads : ReadsIn (g.D.Files.seen l.initial.files) (g.D.Files.seen l.files) l.name l.initial.window l.window (Ok (tt {0})) (λ file. 12
      ≤ places file → (l.at ≤ places file) × ((sections : List Section) × (l.found ≡ first_of sections)
      × (sections_from l.singles file l.count 12 [] ≡ sections_from l.singles file (l.count - l.counter) l.at sections)));
}
