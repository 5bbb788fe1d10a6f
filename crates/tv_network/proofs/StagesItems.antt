-- What stands at a slot is made of wires before its stage, is short, and is normal; and all that is emitted is normal.
use Rattle.tv_core.proofs.Common.{◌≡◌, ℕ, zero, suc, ◌+◌, ◌*◌, ◌<◌, ◌≤◌, Bool, sym, subst, arith, inl, inr, Circuit, turns, here, pure, ◌>>=◌}
use Rattle.tv_core.proofs.Common.{AreNormal}
use Rattle.std.proofs.Math.Nat.{mul-le-mul_right}
use Rattle.std.proofs.lemmas.Bool.{cases_Bool}
use Rattle.tv_core.proofs.LoopLaws.{turns-next}
use Rattle.tv_core.proofs.NormalCircuits.{normal_turns}
use Rattle.tv_core.specs.declared.lines.Pair.{Pair}
use Rattle.tv_network.proofs.StageLaws.{stages_next, stage_turn, item_kept, item_passed}
use Rattle.tv_network.proofs.SwitchSizes.{switch_normal, switch_sizes}
use Rattle.tv_network.specs.Stages.{form_of, switches_in, wires_before, switch_wire, wire_at, item_at, lower_slot, upper_slot, stage_of, stages_of}
use Rattle.tv_network.specs.Stages.{StagesAreNormal}
use Rattle.tv_network.specs.Switches.{width, switch_of, passed_to, IsPairMade, ArePairsMade, IsNormalPair}
use Rattle.tv_network.specs.declared.shape.Network.{Network}
use Rattle.tv_stages.proofs.Numbers.{switches_numbered}
use Rattle.tv_stages.specs.Stages.{depth, is_low, is_switched, position, remove_bit, stage_count}

-- the wires of a stage's switches are its own
pub wires_within : (n : Network) (first l at : ℕ) → at < switches_in n l → switch_wire n first l at + width (form_of n l) ≤ first + wires_before n (suc l)
unfolding wires_before
wires_within n first l at h =
    let less : suc at * width (form_of n l) ≤ switches_in n l * width (form_of n l) = mul-le-mul_right (width (form_of n l)) h in
    let more : suc at * width (form_of n l) ≡ at * width (form_of n l) + width (form_of n l) = grind arith in
    omega arith

pub wires_rise : (n : Network) (l : ℕ) → wires_before n l ≤ wires_before n (suc l)
unfolding wires_before
wires_rise n l = omega arith

-- what holds of the items and is kept by a switch holds of what stands at each slot, by how many stages there were and
-- by the wires that there are
module _ (Q : ℕ → Pair → ℕ → Type 0) (later : (l : ℕ) (pair : Pair) (v w : ℕ) → v ≤ w → Q l pair v → Q l pair w)
    (more : (l : ℕ) (pair : Pair) (w : ℕ) → Q l pair w → Q (suc l) pair w)
    (passes : (l : ℕ) (n : Network) (low : Bool) (pair : Pair) (w : ℕ) → Q l pair w → Q (suc l) (passed_to (form_of n l) low w pair) (w + width (form_of n l)))
    (n : Network) (first : ℕ) (item : ℕ → Pair) (items : (x : ℕ) → x < n.items → Q 0 (item x) first) where
  pub item_keeps : (l : ℕ) → l ≤ stage_count n.items → (x : ℕ) → x < n.items → Q l (item_at n first item l x) (first + wires_before n l)
  unfolding item_at wires_before
  item_keeps zero within x h = subst (λ w. Q 0 (item x) w) (omega arith) (items x h)
  item_keeps (suc l) within x h =
      let before = item_keeps l (omega arith) x h in
      elim (cases_Bool (is_switched n.net n.items l x)) [
        | inl on ↦
            let at = position n.net n.items l (remove_bit (depth n.items l) x) in
            let early = (switches_numbered.slot n.net n.items l x (omega arith) on).early in
            let w = wire_at n first l x in
            let passed = passes l n (is_low (depth n.items l) x) (item_at n first item l x) w
            (later l (item_at n first item l x) (first + wires_before n l) w (omega arith) before) in
            subst (λ p. Q (suc l) p (first + wires_before n (suc l))) (sym (item_passed n first item l x on))
            (later (suc l) _ _ _ (wires_within n first l at early) passed)
        | inr off ↦
            subst (λ p. Q (suc l) p (first + wires_before n (suc l))) (sym (item_kept n first item l x off))
            (more l _ _ (later l (item_at n first item l x) _ _ (let rise = wires_rise n l in omega arith) before))
      ]

-- ---- short combinations of wires before a stage
pub made_later : (m : ℕ) (pair : Pair) (v w : ℕ) → v ≤ w → IsPairMade m pair v → IsPairMade m pair w
made_later m pair v w h made = record {
  first = omega (arith, made.first);
  second = omega (arith, made.second);
  first_short = made.first_short;
  second_short = made.second_short;
}

pub made_longer : (m k : ℕ) (pair : Pair) (w : ℕ) → m ≤ k → IsPairMade m pair w → IsPairMade k pair w
made_longer m k pair w h made = record {
  first = made.first;
  second = made.second;
  first_short = omega (arith, made.first_short);
  second_short = omega (arith, made.second_short);
}

pub items_made : (n : Network) (m first : ℕ) (item : ℕ → Pair) → ArePairsMade m item n.items first → (l : ℕ) → l ≤ stage_count n.items → (x : ℕ)
    → x < n.items → IsPairMade (m + l) (item_at n first item l x) (first + wires_before n l)
items_made n m first item made = item_keeps (λ l pair w. IsPairMade (m + l) pair w) (λ l pair v w h q. made_later (m + l) pair v w h q)
    (λ l pair w q. made_longer (m + l) (m + suc l) pair w (omega arith) q)
    (λ l k low pair w q. made_longer (m + l + 1) (m + suc l) (passed_to (form_of k l) low w pair) (w + width (form_of k l)) (omega arith)
    (switch_sizes.passes (form_of k l) low (m + l) pair w q))
    n first item (λ x h. made_longer m (m + 0) (item x) first (omega arith) (made x h))

-- ---- normal combinations
normal_later : (pair : Pair) (v w : ℕ) → v ≤ w → IsNormalPair pair v → IsNormalPair pair w
normal_later pair v w h n = record {
  first = n.first;
  second = n.second;
  first_below = omega (arith, n.first_below);
  second_below = omega (arith, n.second_below);
}

items_normal : (n : Network) (first : ℕ) (item : ℕ → Pair) → ((x : ℕ) → x < n.items → IsNormalPair (item x) first) → (l : ℕ) → l ≤ stage_count n.items
    → (x : ℕ) → x < n.items → IsNormalPair (item_at n first item l x) (first + wires_before n l)
items_normal n first item normal = item_keeps (λ l pair w. IsNormalPair pair w) (λ l pair v w h q. normal_later pair v w h q) (λ l pair w q. q)
    (λ l k low pair w q. switch_normal.passes (form_of k l) low pair w q) n first item normal

stage_normal : (n : Network) (l : ℕ) (item : ℕ → Pair) (next : ℕ) → l < stage_count n.items → ((x : ℕ) → x < n.items → IsNormalPair (item x) next)
    → AreNormal (stage_of n l item next).list
unfolding stage_of
stage_normal n l item next within normal =
    let f = form_of n l in
    let piece : ℕ → Unit {0} → Circuit (Unit {0}) = λ at _. switch_of f (item (lower_slot n l at)) (item (upper_slot n l at)) in
    normal_turns piece tt next (switches_in n l) (λ at h.
    let upper = (switches_numbered.switch n.net n.items l at within h).upper in
    let start = turns-next piece tt next (width f) at (λ i a w. switch_sizes.end f (item (lower_slot n l i)) (item (upper_slot n l i)) w) in
    let after : next ≤ (turns at piece tt next).next = omega arith in
    switch_normal.puts f (item (lower_slot n l at)) (item (upper_slot n l at)) (turns at piece tt next).next
    (normal_later (item (lower_slot n l at)) next _ after (normal (lower_slot n l at) (omega arith)))
    (normal_later (item (upper_slot n l at)) next _ after (normal (upper_slot n l at) upper)))

puts_normal : (n : Network) (next : ℕ) (item : ℕ → Pair) → ((x : ℕ) → x < n.items → IsNormalPair (item x) next) → AreNormal (stages_of n item next).list
unfolding stages_of here pure ◌>>=◌
puts_normal n next item normal =
    let piece = stage_turn n (item_at n next item) in
    normal_turns piece tt next (stage_count n.items) (λ l within. subst (λ w. AreNormal (piece l tt w).list) (sym (stages_next n (item_at n next item) l next))
    (stage_normal n l (item_at n next item l) (next + wires_before n l) within (items_normal n next item normal l (omega arith))))

pub stages_normal : StagesAreNormal
stages_normal = record {
  puts = puts_normal;
  outputs = λ n next item normal x h. items_normal n next item normal (stage_count n.items) (omega arith) x h;
}
