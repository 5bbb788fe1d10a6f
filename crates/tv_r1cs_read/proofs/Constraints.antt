-- The constraints ahead, one by one.
use Rattle.tv_core.proofs.Common.{◌≡◌, ℕ, ◌+◌, ◌-◌, ◌<◌, List, [], ◌∷◌, Ok, add-one, arith, refl, nat_tests, Constraint}
use Rattle.tv_container.specs.declared.sections.Section.{Section}
use Rattle.tv_container.specs.declared.why.ReadRefusal.{ReadRefusal}
use Rattle.tv_container.specs.declared.why.ReadWhy.TheVariants.{BadCount}
use Rattle.tv_container.specs.Places.{◌>>=◌, wrong}
use Rattle.tv_r1cs_read.specs.R1cs.{Read, constraint_at, constraints_from}
use Rattle.tv_container.specs.Reading.{Refuses}
use Rattle.tv_container.proofs.Chain.{refuses_first}

pub constraints_from-end : (file : List ℕ) (wires n at : ℕ) (rows : Section) → n ≡ 0 → at ≡ rows.at + rows.size →
    constraints_from file wires rows n at ≡ Ok []
unfolding constraints_from
constraints_from-end file wires n at rows none end = rw none (grind (arith, nat_tests))

pub constraints_from-surplus : (file : List ℕ) (wires n at : ℕ) (rows : Section) → n ≡ 0 → at < rows.at + rows.size →
    constraints_from file wires rows n at ≡ wrong rows.at (BadCount rows.size (at - rows.at))
unfolding constraints_from
constraints_from-surplus file wires n at rows none left = rw none (grind (arith, nat_tests))

pub constraints_from-refuses : (file : List ℕ) (wires n more at : ℕ) (rows : Section) (why : ReadRefusal) → n ≡ more + 1 →
    Refuses why (constraint_at file wires (rows.at + rows.size) at) → Refuses why (constraints_from file wires rows n at)
unfolding constraints_from
constraints_from-refuses file wires n more at rows why one refuses = rw (one, add-one) (refuses_first why _ _ refuses)

pub constraints_from-next : (file : List ℕ) (wires n more at : ℕ) (rows : Section) (first : Read Constraint) → n ≡ more + 1 →
    constraint_at file wires (rows.at + rows.size) at ≡ Ok first →
    constraints_from file wires rows n at ≡ (do
      others ← constraints_from file wires rows more first.next
      Ok (first.value ∷ others))
unfolding constraints_from
constraints_from-next file wires n more at rows first one is = rw (one, add-one, is) refl
