use Rattle.tv_core.proofs.Common.{◌≡◌, ◌≤◌, ◌<◌, ◌+◌, ◌%◌, ◌∙◌, sym, ap, arith, length, subst, slice_index}
use Rattle.std.proofs.lemmas.List.{length_push}
use Rattle.std.proofs.lemmas.Nat.{mod_below}
use Rattle.tv_shrink.proofs.OccurrenceLaws.{filed_here, filed_more, head_inside, linked_push, linked_set}
use Rattle.tv_shrink.proofs.occurrences.Occurrences.add.Goals as goal
use Rattle.tv_shrink.proofs.occurrences.Occurrences.add.Goals.{After-self-1}

-- the place of the list, by the number of lists
sized : (c : After-self-1) → c.len.result ≡ length c.self.inside.heads.items
sized c = omega (arith, c.len.ensures)

inside : (c : After-self-1) → c.args.wire % c.len.result < length c.self.inside.heads.items
inside c = subst (λ n. c.args.wire % n < length c.self.inside.heads.items) (sym (sized c))
    (mod_below c.args.wire (length c.self.inside.heads.items) c.self.invariant.some)

-- the entry that the list begins with
head : (c : After-self-1) → (c.index-next.result.now ≤ length c.self.inside.entries.items)
    × (c.index-next.result.now ≡ slice_index c.self.inside.heads.items (c.args.wire % c.len.result))
head c = head_inside c.self.inside.entries.items c.self.inside.heads.items (c.args.wire % c.len.result) c.index-next.result.now c.self.invariant (inside c)
    c.index-next.ensures

last : (c : After-self-1) → c.len-2.result ≡ length c.self.inside.entries.items + 1
last c =
    omega (
      arith,
      c.len-2.ensures,
      ap length c.in_ok-push.ensures.items,
      length_push c.self.inside.entries.items (record { row = c.args.row; next = c.index-next.result.now }),
    )

pub invariant_of-self-2 : goal.invariant_of-self-2
invariant_of-self-2 c =
    let w = (goal.at.invariant_of-self-2 c).After-self-1 in
    linked_set c.push.new.self.items c.self.inside.heads.items (c.args.wire % c.len.result) c.len-2.result
    (omega (
      arith,
      last w,
      ap length c.in_ok-push.ensures.items,
      length_push c.self.inside.entries.items (record { row = c.args.row; next = c.index-next.result.now }),
    ))
    (linked_push c.self.inside.entries.items c.push.new.self.items c.self.inside.heads.items _ c.in_ok-push.ensures.items
    (ap length c.in_ok-push.ensures.items ∙ length_push c.self.inside.entries.items _)
    (head w).0 c.self.invariant)

pub returns-clause-has : goal.returns-clause-has
returns-clause-has c =
    filed_here c.self.inside.entries.items c.push.new.self.items c.self.inside.heads.items c.args.row c.index-next.result.now (c.args.wire % c.len.result)
    c.len-2.result c.self.invariant c.in_ok-push.ensures.items (inside c) (last c) c.args.wire (ap (λ n. c.args.wire % n) (sym (sized c)))

pub returns-clause-more : goal.returns-clause-more
returns-clause-more c = λ w i e.
    filed_more c.self.inside.entries.items c.push.new.self.items c.self.inside.heads.items c.args.row c.index-next.result.now (c.args.wire % c.len.result)
    c.len-2.result c.self.invariant c.in_ok-push.ensures.items (inside c) (last c) c.args.self.now w i c.self.view_is (head c).1 e
