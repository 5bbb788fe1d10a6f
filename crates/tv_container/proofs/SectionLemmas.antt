-- Sections, one after the others.
use Rattle.tv_core.proofs.Common.{◌≡◌, ◌≢◌, ℕ, zero, suc, ◌+◌, ◌≤◌, ◌<◌, List, [], ◌∷◌, ◌++◌, length, Bool, true, false, cond, Option, Some, None, Result, Ok}
use Rattle.tv_core.proofs.Common.{Err, refl, ◌∙◌, add-one, nat_lt, not, ◌==◌, arith, nat_tests}
use Rattle.std.proofs.Common.{eqb}
use Rattle.std.proofs.Common.{nat_le}
use Rattle.std.specs.Option.{option_or}
use Rattle.tv_core.specs.declared.field.TheConstants.{P}
use Rattle.tv_container.specs.declared.sections.Section.{Section}
use Rattle.tv_container.specs.declared.why.ReadRefusal.{ReadRefusal}
use Rattle.tv_container.specs.declared.why.ReadWhy.{ReadWhy}
use Rattle.tv_container.specs.declared.why.ReadWhy.TheVariants.{BadCount, BadVersion, Doubled, OtherPrime, Truncated, Trailing}
use Rattle.tv_container.specs.Places.{Fault, ◌>>=◌, wrong, unless, number, places, fit}
use Rattle.tv_container.specs.Field.{this_field}
use Rattle.tv_container.specs.Found.{AllFit}
use Rattle.tv_container.specs.Reading.{Refuses}
use Rattle.tv_container.specs.Sections.{section_of, stands_already, section_at, sections_in, sections_from, sections_of}
use Rattle.tv_container.proofs.Chain.{made, refuses_first}

-- the first section of a type among sections and one after them
pub section_of-append : (kind : ℕ) (sections : List Section) (section : Section) →
    section_of kind (sections ++ section ∷ []) ≡ option_or (section_of kind sections) (section_of kind (section ∷ []))
section_of-append kind [] section = refl
section_of-append kind (first ∷ sections) section = by_test (eqb first.kind kind) (section_of-append kind sections section)
  where
    by_test : (is : Bool) → section_of kind (sections ++ section ∷ []) ≡ option_or (section_of kind sections) (section_of kind (section ∷ [])) →
        cond is (Some first) (section_of kind (sections ++ section ∷ []))
        ≡ option_or (cond is (Some first) (section_of kind sections)) (section_of kind (section ∷ []))
    by_test true _ = refl
    by_test false others = others

pub ruleset of_appended = section_of-append

-- once the sections are counted, they are those from the twelfth byte on
pub sections_of-counted : (singles magic version count : ℕ) (file : List ℕ) → sections_in magic version file ≡ Ok count →
    sections_of singles magic version file ≡ sections_from singles file count 12 []
unfolding sections_of
sections_of-counted singles magic version count file counted = rw counted refl

-- once the magic is seen, the version is looked at, and then the count
pub sections_in-magic : (magic version : ℕ) (file : List ℕ) (done : Unit {0}) → fit 4 0 (places file) ≡ Ok done → number file 4 0 ≡ magic →
    sections_in magic version file ≡ (do
      _ ← fit 4 4 (places file)
      _ ← unless (not (number file 4 4 == version)) 4 (BadVersion (number file 4 4))
      _ ← fit 4 8 (places file)
      Ok (number file 4 8))
unfolding sections_in
sections_in-magic magic version file done fits is = rw (fits, is) (grind (arith, nat_tests))

pub sections_in-version : (magic version : ℕ) (file : List ℕ) (done also : Unit {0}) → fit 4 0 (places file) ≡ Ok done → number file 4 0 ≡ magic →
    fit 4 4 (places file) ≡ Ok also → number file 4 4 ≡ version →
    sections_in magic version file ≡ (do
      _ ← fit 4 8 (places file)
      Ok (number file 4 8))
sections_in-version magic version file done also fits is too version_is =
    sections_in-magic magic version file done fits is ∙ rw (too, version_is) (grind (arith, nat_tests))

-- one section on
pub sections_from-next : (singles n more at : ℕ) (file : List ℕ) (sections : List Section) (section : Section) → n ≡ more + 1 →
    section_at singles file at sections ≡ Ok section →
    sections_from singles file n at sections ≡ sections_from singles file more (section.at + section.size) (sections ++ section ∷ [])
unfolding sections_from
sections_from-next singles n more at file sections section one next = rw (one, add-one, next) refl

-- the first of several is refused
pub sections_from-refuses : (singles n more at : ℕ) (file : List ℕ) (sections : List Section) (why : ReadRefusal) → n ≡ more + 1 →
    Refuses why (section_at singles file at sections) → Refuses why (sections_from singles file n at sections)
unfolding sections_from
sections_from-refuses singles n more at file sections why one refuses = rw (one, add-one) (refuses_first why _ _ refuses)

-- after the last section the file ends
pub sections_from-end : (singles n at : ℕ) (file : List ℕ) (sections : List Section) → n ≡ 0 → at ≡ length file →
    sections_from singles file n at sections ≡ Ok sections
unfolding sections_from
sections_from-end singles n at file sections none end = rw none (grind (arith, nat_tests))

-- a byte after the last section is reported
pub sections_from-trailing : (singles n at : ℕ) (file : List ℕ) (sections : List Section) → n ≡ 0 → at < length file →
    sections_from singles file n at sections ≡ wrong at Trailing
unfolding sections_from
sections_from-trailing singles n at file sections none past = rw none (grind (arith, nat_tests))

-- bytes that are there fit, and bytes that fit are there
pub fit-within : (size at end : ℕ) → at + size ≤ end → fit size at end ≡ Ok (tt {0})
fit-within size at end within = grind (arith, nat_tests)

pub fit-is : (size at end : ℕ) (done : Unit {0}) → fit size at end ≡ Ok done → at + size ≤ end
fit-is size at end done fits = grind (arith, nat_tests)

-- a section that may stand is one, where its content is there
pub section_at-read : (singles at kind size : ℕ) (file : List ℕ) (sections : List Section) (done : Unit {0}) (there : Bool) →
    fit 12 at (places file) ≡ Ok done → number file 4 at ≡ kind → number file 8 (at + 4) ≡ size → stands_already singles kind sections ≡ false →
    nat_le (at + 12 + size) (places file) ≡ there →
    section_at singles file at sections ≡ cond there (Ok (record { kind = kind; at = at + 12; size = size })) (wrong at Truncated)
unfolding section_at
section_at-read singles at kind size file sections done true fits kind_is size_is once ends = rw (fits, kind_is, size_is, once) (grind (arith, nat_tests))
section_at-read singles at kind size file sections done false fits kind_is size_is once ends = rw (fits, kind_is, size_is, once) (grind (arith, nat_tests))

-- a field is looked at in this order: that there is one, the size of a number, how many bytes section 1 has, and the prime
pub this_field-short : (file : List ℕ) (wants : ℕ) (one : Section) → one.size < 4 → this_field file wants one ≡ wrong one.at (BadCount one.size wants)
unfolding this_field
this_field-short file wants one short = grind (arith, nat_tests)

pub this_field-other : (file : List ℕ) (wants : ℕ) (one : Section) → 4 ≤ one.size → number file 4 one.at ≢ 8 →
    this_field file wants one ≡ wrong one.at OtherPrime
unfolding this_field
this_field-other file wants one some other = grind (arith, nat_tests)

pub this_field-sized : (file : List ℕ) (wants : ℕ) (one : Section) → 4 ≤ one.size → number file 4 one.at ≡ 8 → one.size ≢ wants →
    this_field file wants one ≡ wrong one.at (BadCount one.size wants)
unfolding this_field
this_field-sized file wants one some of_eight size = rw of_eight (grind (arith, nat_tests))

pub this_field-prime : (file : List ℕ) (wants : ℕ) (one : Section) → 4 ≤ one.size → number file 4 one.at ≡ 8 → one.size ≡ wants →
    this_field file wants one ≡ unless (not (number file 8 (one.at + 4) == P)) one.at OtherPrime
unfolding this_field
this_field-prime file wants one some of_eight size = rw of_eight (grind (arith, nat_tests))

-- what passed the checks of a section's header
passed : (fits : Result (Unit {0}) Fault) (doubled past : Bool) (at : ℕ) (doubling passing : ReadWhy) (made section : Section) →
    fits >>= (λ _. unless doubled at doubling >>= (λ _. unless past at passing >>= (λ _. Ok made))) ≡ Ok section → (past ≡ false) × (made ≡ section)
passed (Ok _) false false at doubling passing made section e = (refl, cc)
passed (Ok _) false true at doubling passing made section e = cc
passed (Ok _) true past at doubling passing made section e = cc
passed (Err fault) doubled past at doubling passing made section e = cc

-- a section that was read fits in the file
pub section_at-fits : (singles at : ℕ) (file : List ℕ) (sections : List Section) (section : Section) →
    section_at singles file at sections ≡ Ok section → section.at + section.size ≤ places file
unfolding section_at
section_at-fits singles at file sections section read =
    let checks = passed (fit 12 at (places file)) (stands_already singles (number file 4 at) sections) (nat_lt (places file) (at + 12 + number file 8 (at + 4)))
    at (Doubled (number file 4 at)) Truncated (record { kind = number file 4 at; at = at + 12; size = number file 8 (at + 4) }) section read in
    let within : at + 12 + number file 8 (at + 4) ≤ places file = grind (arith, nat_tests, checks.0) in
    rw (← checks.1) within

-- one section more that fits
AllFit-push : (file : List ℕ) (sections : List Section) (section : Section) → AllFit file sections → section.at + section.size ≤ places file →
    AllFit file (sections ++ section ∷ [])
AllFit-push file sections section fit more = record {
  fits = λ kind found e. by_look_up kind found (section_of kind sections) refl (eqb section.kind kind)
      (rw (section_of-append kind sections section) at e);
}
  where
    by_look_up : (kind : ℕ) (found : Section) (held : Option Section) → section_of kind sections ≡ held → (same : Bool) →
        option_or (section_of kind sections) (cond same (Some section) None) ≡ Some found → found.at + found.size ≤ places file
    by_look_up kind found (Some first) is same e = let here : Some first ≡ Some found = rw is at e in fit.fits kind found (is ∙ here)
    by_look_up kind found None is true e = let here : Some section ≡ Some found = rw is at e in let one : section ≡ found = cc in rw (← one) more
    by_look_up kind found None is false e = let none : None ≡ Some found = rw is at e in cc

-- the sections after those that fit, fit
sections_from-fit : (singles n at : ℕ) (file : List ℕ) (sections list : List Section) → AllFit file sections →
    sections_from singles file n at sections ≡ Ok list → AllFit file list
unfolding sections_from
sections_from-fit singles zero at file sections list fit e = by_test (eqb at (length file)) e
  where
    by_test : (ends : Bool) → cond ends (Ok sections) (wrong at Trailing) ≡ Ok list → AllFit file list
    by_test true here = let same : sections ≡ list = cc in rw (← same) fit
    by_test false past = cc
sections_from-fit singles (suc n) at file sections list fit e =
    let step = made (section_at singles file at sections)
    (λ section. sections_from singles file n (section.at + section.size) (sections ++ section ∷ [])) list e in
    sections_from-fit singles n (step.0.at + step.0.size) file (sections ++ step.0 ∷ []) list
    (AllFit-push file sections step.0 fit (section_at-fits singles at file sections step.0 step.1)) step.2

-- the sections of a file fit in it
pub sections_of-fit : (singles magic version : ℕ) (file : List ℕ) (sections : List Section) →
    sections_of singles magic version file ≡ Ok sections → AllFit file sections
unfolding sections_of
sections_of-fit singles magic version file sections e =
    let step = made (sections_in magic version file) (λ count. sections_from singles file count 12 []) sections e in
    sections_from-fit singles step.0 12 file [] sections (record { fits = λ kind found none. cc }) step.2
