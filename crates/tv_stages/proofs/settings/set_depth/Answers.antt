use Rattle.std.proofs.Common.{◌≡◌, ℕ, suc, ◌+◌, ◌*◌, ◌<◌, ◌≤◌, nat_lt, List, length, slice_index, sym, ◌∙◌, ap, subst, arith}
use Rattle.tv_stages.specs.Settings.{Mark, marks_of, narrowed, within}
use Rattle.tv_stages.specs.Stages.{height, stage_count, switch_count, places, IsReordering}
use Rattle.tv_stages.specs.Walks.{bit_by, AreMarked, AreSetTo}
use Rattle.tv_stages.proofs.DepthBits.{depth_set}
use Rattle.tv_stages.proofs.Indices.{spread_in}
use Rattle.tv_stages.proofs.Marked.{marks_marked}
use Rattle.tv_stages.proofs.SettingsLaws.{made_of}
use Rattle.tv_stages.proofs.Shapes.{depth_few, depth_wide, early_stage}
use Rattle.tv_stages.proofs.Walking.{q_in, r_below}
use Rattle.tv_stages.proofs.settings.set_depth.Goals as goal

pub settle-requires-clause-depth : goal.settle-requires-clause-depth
settle-requires-clause-depth c = let few = depth_few (length c.args.q.now) c.args.d c.requires.small c.requires.depth in omega arith

pub settle-requires-clause-wide : goal.settle-requires-clause-wide
settle-requires-clause-wide c = depth_wide (length c.args.q.now) c.args.d c.requires.depth

pub set_stage-requires-clause-stage : goal.set_stage-requires-clause-stage
set_stage-requires-clause-stage c = subst (λ n. c.args.d < stage_count n) (sym c.requires.inverse.back_long)
    (early_stage (length c.args.q.now) c.args.d c.requires.depth)

pub set_stage-requires-clause-within : goal.set_stage-requires-clause-within
set_stage-requires-clause-within c = r_below (length c.args.q.now) c.args.d c.args.q.now c.args.r.now c.requires.inverse

pub set_after-requires-clause-within : goal.set_after-requires-clause-within
set_after-requires-clause-within c = r_below (length c.args.q.now) c.args.d c.args.q.now c.args.r.now c.requires.inverse

pub narrow-requires-clause-marked : goal.narrow-requires-clause-marked
narrow-requires-clause-marked c =
    let L = length c.args.q.now in
    let d = c.args.d in
    subst (λ m. AreMarked L d m) (sym c.settle.ensures.is) (marks_marked d c.args.q.now c.args.r.now c.requires.inverse (depth_wide L d c.requires.depth))

pub narrow-requires-clause-depth : goal.narrow-requires-clause-depth
narrow-requires-clause-depth c = depth_few (length c.args.q.now) c.args.d c.requires.small c.requires.depth

pub narrow-requires-clause-within : goal.narrow-requires-clause-within
narrow-requires-clause-within c =
    let L = length c.args.q.now in
    let q = c.args.q.now in
    (λ x h. subst (λ y. y < L) (spread_in L q x h) (q_in L c.args.d q c.args.r.now c.requires.inverse x h))

made_is : (d : ℕ) (q : List ℕ) (marks : List Mark) (next now : List ℕ) → now ≡ next → next ≡ places (length q) (narrowed d q marks) → marks ≡ marks_of d q
    → now ≡ within d q
made_is d q marks next now e f g = e ∙ f ∙ ap (λ m. places (length q) (narrowed d q m)) g

pub invert-requires-clause-permutes : goal.invert-requires-clause-permutes
invert-requires-clause-permutes c =
    let L = length c.args.q.now in
    let is = made_is c.args.d c.args.q.now c.settle.new.marks c.narrow.new.next c.copy_from_slice.new.self c.copy_from_slice.ensures.after c.narrow.ensures
    c.settle.ensures.is in
    subst (λ l. IsReordering (length l) (λ i. slice_index l i)) (sym is)
    (subst (λ n. IsReordering n (λ i. slice_index (within c.args.d c.args.q.now) i)) (sym (ap length (sym is) ∙ c.copy_from_slice.ensures.len))
    (made_of c.args.d c.args.q.now c.args.r.now L c.requires.inverse c.requires.depth).permutes)

pub returns-clause-within : goal.returns-clause-within
returns-clause-within c =
    made_is c.args.d c.args.q.now c.settle.new.marks c.narrow.new.next c.copy_from_slice.new.self c.copy_from_slice.ensures.after c.narrow.ensures
    c.settle.ensures.is

pub returns-clause-set : goal.returns-clause-set
returns-clause-set c =
    let net = c.args.net in
    let d = c.args.d in
    let r = c.args.r.now in
    let inv = c.requires.inverse in
    let marks = c.settle.new.marks in
    let old = c.args.bits.now in
    let mid = c.set_stage.new.bits in
    let new = c.set_after.new.bits in
    depth_set net d c.args.q.now r marks c.settle.ensures.is inv c.requires.depth old mid new
    (subst (λ n. AreSetTo net n d (switch_count net n d) (bit_by (nat_lt d (height n)) r marks) old mid) inv.back_long c.set_stage.ensures)
    (subst (λ n. suc d ≡ height n → new ≡ mid) inv.back_long c.set_after.ensures.last)
    (subst (λ n. (l : ℕ) → height n ≤ l → l + d + 2 ≡ 2 * height n → AreSetTo net n l (switch_count net n l) (bit_by (nat_lt l (height n)) r marks) mid new)
    inv.back_long c.set_after.ensures.set) c.set_after.ensures.long
