-- How what stands at the slots before a stage is found from a stage before.
use Rattle.tv_core.proofs.Common.{◌≡◌, ℕ, suc, ◌+◌, ◌-◌, ◌*◌, ◌^◌, ◌<◌, ◌≤◌, Bool, true, false, if◌then◌else◌, Option, Some, None, refl, sym, ◌∙◌}
use Rattle.tv_core.proofs.Common.{ap, ap₂, arith}
use Rattle.tv_core.specs.declared.lines.Pair.{Pair}
use Rattle.tv_network.proofs.StagesItems.{items_made, made_longer, wires_within}
use Rattle.tv_network.proofs.Shapes.{stages_few, wires_mono}
use Rattle.tv_network.proofs.StageLaws.{item_kept, item_passed}
use Rattle.tv_network.specs.Stages.{form_of, wires_before, stages_wires, wire_at, item_at}
use Rattle.tv_network.specs.Slots.{IsLevel}
use Rattle.tv_network.specs.Switches.{width, passed_to, ArePairsMade, IsPairMade}
use Rattle.tv_network.specs.declared.shape.Network.{Network}
use Rattle.tv_network.specs.declared.levels.Level.{Level}
use Rattle.tv_network.specs.declared.switches.Form.TheVariants.{Bound, Open}
use Rattle.tv_stages.proofs.Numbers.{switches_numbered}
use Rattle.tv_stages.specs.Stages.{depth, is_low, is_switched, position, remove_bit, stage_count, switch_at}

-- a bound switch's wires are the same whatever stood there
bound_any : (low : Bool) (w : ℕ) (x y : Pair) → passed_to Bound low w x ≡ passed_to Bound low w y
bound_any true w x y = refl
bound_any false w x y = refl

-- whether there is a switch
some_switch : (b : Bool) (p at : ℕ) (o : Option ℕ) → o ≡ Some at → o ≡ (if b then Some p else None) → (b ≡ true) × (p ≡ at)
some_switch true p at o e f = let same : Some p ≡ Some at = sym f ∙ e in (refl, cc)
some_switch false p at o e f = let none : None ≡ Some at = sym f ∙ e in cc

pub no_switch : (b : Bool) (p : ℕ) (o : Option ℕ) → o ≡ None → o ≡ (if b then Some p else None) → b ≡ false
no_switch true p o e f = let none : Some p ≡ None = sym f ∙ e in cc
no_switch false p o e f = refl

-- what stands at a slot has few terms
pub items_short : (n : Network) (first : ℕ) (pair : ℕ → Pair) → n.items ≤ 2 ^ 25 → ArePairsMade 15 pair n.items first → (l : ℕ)
    → l ≤ stage_count n.items → (x : ℕ) → x < n.items → IsPairMade 64 (item_at n first pair l x) (first + wires_before n l)
items_short n first pair few made l within x h =
    made_longer (15 + l) 64 (item_at n first pair l x) (first + wires_before n l) (omega (arith, stages_few n.items few))
    (items_made n 15 first pair made l within x h)

-- a stage, and one stage later
module _ (n : Network) (first : ℕ) (pair : ℕ → Pair) (m : ℕ) (some : m ≡ 0 → ⊥) (within : m ≤ stage_count n.items) (level : Level)
    (is : IsLevel n first (m - 1) level) where
  abbrev l : ℕ
  l = m - 1

  up : m ≡ suc l
  up = omega arith

  inside : l < stage_count n.items
  inside = omega arith

  module _ (x : ℕ) (o : Option ℕ) (there : o ≡ switch_at level.stage.net level.stage.slots level.stage.number x) where
    found : o ≡ switch_at n.net n.items l x
    found = rw (is.net, is.slots, is.number) at there

    pub stays : o ≡ None → item_at n first pair l x ≡ item_at n first pair m x
    stays none = sym (ap (λ k. item_at n first pair k x) up ∙ item_kept n first pair l x (no_switch _ _ o none found))

    module _ (at : ℕ) (some_at : o ≡ Some at) where
      on : is_switched n.net n.items l x ≡ true
      on = (some_switch _ _ at o some_at found).0

      place : position n.net n.items l (remove_bit (depth n.items l) x) ≡ at
      place = (some_switch (is_switched n.net n.items l x) _ at o some_at found).1

      wire_is : level.start + at * width level.form ≡ wire_at n first l x
      wire_is =
          let one : at * width level.form ≡ position n.net n.items l (remove_bit (depth n.items l) x) * width (form_of n l) =
          ap₂ (λ a f. a * width f) (sym place) is.form in
          omega (arith, is.start)

      pub wire_fits : level.start + at * width level.form + width level.form ≤ first + stages_wires n
      wire_fits =
          let early = (switches_numbered.slot n.net n.items l x inside on).early in
          let own = wires_within n first l (position n.net n.items l (remove_bit (depth n.items l) x)) early in
          omega (arith, wire_is, ap width is.form, wires_mono n l (stage_count n.items) inside)

      module _ (low : Bool) (wire : ℕ) (item : Pair) (is_low' : low ≡ is_low (depth level.stage.slots level.stage.number) x)
          (is_wire : wire ≡ level.start + at * width level.form) where
        passed_is : item ≡ item_at n first pair l x → passed_to level.form low wire item ≡ item_at n first pair m x
        passed_is e =
            let side : low ≡ is_low (depth n.items l) x = rw (is.slots, is.number) at is_low' in
            ap (λ f. passed_to f low wire item) is.form ∙ ap₂ (λ b u. passed_to (form_of n l) b u item) side (is_wire ∙ wire_is)
            ∙ ap (passed_to (form_of n l) (is_low (depth n.items l) x) (wire_at n first l x)) e
            ∙ sym (ap (λ k. item_at n first pair k x) up ∙ item_passed n first pair l x on)

        pub open_is : (after : Pair) → level.form ≡ Open → after ≡ passed_to Open low wire item → item ≡ item_at n first pair l x
            → after ≡ item_at n first pair m x
        open_is after form e f = e ∙ ap (λ g. passed_to g low wire item) (sym form) ∙ passed_is f

      pub bound_is : (low : Bool) (wire : ℕ) (item after : Pair) → low ≡ is_low (depth level.stage.slots level.stage.number) x
          → wire ≡ level.start + at * width level.form → level.form ≡ Bound → after ≡ passed_to Bound low wire item → after ≡ item_at n first pair m x
      bound_is low wire item after is_low' is_wire form e =
          let before = item_at n first pair l x in
          e ∙ bound_any low wire item before ∙ ap (λ g. passed_to g low wire before) (sym form) ∙ passed_is low wire before is_low' is_wire refl
