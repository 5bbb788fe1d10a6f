use Rattle.tv_core.proofs.Common.{◌≡◌, List, [], ◌∷◌, map, Option, Some, Bool, true, false, cond, refl, rules}
use Rattle.std.proofs.Common.{option_map, tests}
use Rattle.std.proofs.lemmas.Iterator.{YieldsList-from_slice}
use Rattle.std.proofs.lemmas.Iterator.Search.{find_from_yields_List}
use Rattle.std.specs.List.{find}
use Rattle.std.specs.Str.{bytes_eq}
use Rattle.tv_plan.specs.declared.place.Place.{Place}
use Rattle.tv_plan.specs.declared.refusal.Refusal.{Refusal}
use Rattle.tv_plan.specs.declared.refusal.Refusal.TheVariants.{SameName}
use Rattle.tv_plan.specs.Plan.{Named, named, same_in}
use Rattle.tv_plan.proofs.place.keep_from.Goals as goal

-- a place that has this name
abbrev has_name : Place → Place → Bool
has_name one other = bytes_eq other.name.now one.name.now

-- what is found among places is what is found among their names
abbrev same_place : Place → Option Place → Option Refusal
same_place one found = option_map (λ (other : Place). SameName one.word other.word) found

same_in_named : (one : Place) (others : List Place) → same_in (named one) (map named others) ≡ same_place one (find (has_name one) others)
same_in_named one [] = refl
same_in_named one (next ∷ others) = by (has_name one next) (same_in_named one others)
  where
    by : (same : Bool) → same_in (named one) (map named others) ≡ same_place one (find (has_name one) others) →
        option_map (λ (other : Named). SameName one.word other.word)
        (cond same (Some (named next)) (find (λ (other : Named). bytes_eq other.name one.name.now) (map named others)))
        ≡ same_place one (cond same (Some next) (find (has_name one) others))
    by true rest = refl
    by false rest = rest

pub returns-in-None : goal.returns-in-None
returns-in-None c =
    let found = find_from_yields_List (has_name c.args.one) _ _ c.find.result c.find.ensures.ran (YieldsList-from_slice c.args.others.now cc)
    (λ x b q k. search (rules, tests)) in
    rw (same_in_named c.args.one c.args.others.now, ← found) (search rules)

pub returns-in-Some : goal.returns-in-Some
returns-in-Some c =
    let found = find_from_yields_List (has_name c.args.one) _ _ c.find.result c.find.ensures.ran (YieldsList-from_slice c.args.others.now cc)
    (λ x b q k. search (rules, tests)) in
    rw (same_in_named c.args.one c.args.others.now, ← found) (search rules)
