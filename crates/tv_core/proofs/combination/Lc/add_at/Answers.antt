use Rattle.std.proofs.Common.{◌≡◌, ◌+◌, ◌%◌, [], ◌∷◌, ◌++◌, ℕ, set, length, length-set, get_or, ap, sym, ◌∙◌, arith}
use Rattle.std.proofs.lemmas.List.{get_or_default}
use Rattle.std.proofs.lemmas.Bool.{eqb-true}
use Rattle.std.specs.List.{insert, remove}
use Rattle.arrayvec.specs.ArrayVec.{with_items}
use Rattle.arrayvec.proofs.ArrayVecLemmas.{items-with_items}
use Rattle.tv_core.specs.Constraints.{Combination}
use Rattle.tv_core.specs.Normal.{normal, put_at}
use Rattle.tv_core.specs.declared.field.TheConstants.{P}
use Rattle.tv_core.proofs.Addition.{put_at-kept, put_at-none, added_same, added_apart, replaced}
use Rattle.tv_core.proofs.combination.Lc.add_at.Goals.{Then-found-wire, Else-found-wire}
use Rattle.tv_core.proofs.combination.Lc.add_at.Goals as goal

-- before a term of another wire
apart : (c : Then-found-wire) (out : Combination) → out ≡ put_at c.args.coefficient c.args.wire c.args.at c.args.self.now
    → out ≡ normal (c.args.self.now ++ (c.args.coefficient, c.args.wire) ∷ [])
apart c out =
    let v = c.index-deref-at-2.result in
    let lent : c.deref.result.now ≡ c.args.self.now = c.deref.ensures.0 ∙ c.self.view_is in
    added_apart c.args.coefficient c.args.wire c.args.at v c.args.self.now out c.requires.normal c.requires.place
    (λ h e. c.if-found-wire.true (c.found.view_is ∙ ap (λ l. (get_or l c.args.at v).1) lent ∙ e ∙ sym c.wire.view_is))

-- at a term of the same wire
same : (c : Else-found-wire) (out : Combination) → out ≡ put_at c.add-sum.result c.args.wire c.args.at (remove c.args.self.now c.args.at)
    → out ≡ normal (c.args.self.now ++ (c.args.coefficient, c.args.wire) ∷ [])
same c out =
    let x = c.args.self.now in
    let at = c.args.at in
    let u = c.index-deref-at.result in
    let v = c.index-deref-at-2.result in
    let lent : c.deref.result.now ≡ x = c.deref.ensures.0 ∙ c.self.view_is in
    let found : u ≡ get_or x at u = c.index-deref-at.is ∙ ap (λ l. get_or l at u) lent in
    added_same c.args.coefficient c.args.wire at c.add-sum.result u x out c.requires.normal c.requires.place c.requires.within found
    (ap (λ t. t.1) (found ∙ get_or_default x at u v c.requires.within) ∙ ap (λ l. (get_or l at v).1) (sym lent)
    ∙ sym c.found.view_is ∙ c.if-found-wire.false ∙ c.wire.view_is)
    (c.add-sum.ensures ∙ ap (λ t. (c.args.coefficient + t.0) % P) (sym c.index-deref-at.is))

pub returns-then-ne : goal.returns-then-ne
returns-then-ne c =
    let t : ℕ × ℕ = (c.args.coefficient, c.args.wire) in
    apart (goal.at.returns-then-ne c).Then-found-wire c.insert.new.self.items
    (c.insert.ensures.items ∙ ap (λ l. insert l c.args.at t) c.self.view_is
    ∙ sym (put_at-kept c.args.coefficient c.args.wire c.args.at c.args.self.now (search arith) (search (arith))))

pub returns-else-ne : goal.returns-else-ne
returns-else-ne c = apart (goal.at.returns-else-ne c).Then-found-wire c.args.self.now (search (arith, put_at-none, eqb-true))

pub returns-then-eq : goal.returns-then-eq
returns-then-eq c =
    let zero : c.add-sum.result ≡ 0 = eqb-true c.add-sum.result 0 (sym c.eq.ensures ∙ c.if-eq.true) in
    same (goal.at.returns-then-eq c).Else-found-wire c.remove.new.self.items
    (c.remove.ensures.items ∙ ap (λ l. remove l c.args.at) c.self.view_is
    ∙ ap (λ k. put_at k c.args.wire c.args.at (remove c.args.self.now c.args.at)) (sym zero))

pub returns-else-eq : goal.returns-else-eq
returns-else-eq c =
    let x = c.args.self.now in
    let t : ℕ × ℕ = (c.add-sum.result, c.args.wire) in
    let written : set c.deref_mut.result.now c.args.at t ≡ set x c.args.at t = ap (λ l. set l c.args.at t) (c.deref_mut.ensures.value ∙ c.self.view_is) in
    let count : length (set c.deref_mut.result.now c.args.at t) ≡ length c.self.inside.terms.items = search (length-set, c.deref_mut.ensures.value) in
    same (goal.at.returns-else-eq c).Else-found-wire (with_items c.self.inside.terms (set c.deref_mut.result.now c.args.at t)).items
    (items-with_items c.self.inside.terms (set c.deref_mut.result.now c.args.at t) count
    ∙ written ∙ replaced x c.args.at t c.requires.within
    ∙ sym (put_at-kept c.add-sum.result c.args.wire c.args.at (remove x c.args.at) (omega (arith, c.add-sum.ensures)) (sym c.eq.ensures ∙ c.if-eq.false)))
