use Rattle.tv_core.proofs.Common.{◌≡◌, ◌+◌, ◌*◌, ◌/◌, ◌%◌, ◌<◌, ◌++◌, ◌∷◌, [], ◌∙◌}
use Rattle.tv_core.proofs.Common.{ap, ap₂, sym, arith, append_assoc, append-nil, drop, get_or, length, slice_index, subst}
use Rattle.std.proofs.lemmas.List.{length_push}
use Rattle.tv_outline.proofs.TurnLaws.{count_some, digits_none, digits_step, size_more, size_some}
use Rattle.tv_outline.specs.Expansion.{digits_of}
use Rattle.tv_outline.proofs.turn.values_of.Goals as goal

pub nonzero_div-size : goal.nonzero_div-size
nonzero_div-size c =
    let counts = c.deref-count-items.ensures.value in
    let h : c.loop-count.count-index < length c.args.region.now.counts.items = omega (arith, ap length counts) in
    rw counts (count_some _ _ c.loop-count.size h c.loop-count.invariant.size c.loop-count.invariant.some)

pub nonzero_div-rest : goal.nonzero_div-rest
nonzero_div-rest c =
    let counts = c.deref-count-items.ensures.value in
    let i = c.loop-count.invariant in
    let h : c.loop-count.count-index < length c.args.region.now.counts.items = omega (arith, ap length counts) in
    rw (counts, size_more _ _ c.loop-count.size h i.size i.some) (size_some _ _ c.loop-count.size h i.size i.some)

pub nonzero_rem-rest : goal.nonzero_rem-rest
nonzero_rem-rest c =
    let counts = c.deref-count-items.ensures.value in
    let i = c.loop-count.invariant in
    let h : c.loop-count.count-index < length c.args.region.now.counts.items = omega (arith, ap length counts) in
    rw (counts, size_more _ _ c.loop-count.size h i.size i.some) (size_some _ _ c.loop-count.size h i.size i.some)

pub loop-count-preserved : goal.loop-count-preserved
loop-count-preserved c =
    let counts = c.deref-count-items.ensures.value in
    let i = c.loop-count.invariant in
    let at = c.loop-count.count-index in
    let h : at < length c.args.region.now.counts.items = omega (arith, ap length counts) in
    let read : c.loop-count.size / get_or c.deref-count-items.result.now at 0 ≡ c.loop-count.size / get_or c.args.region.now.counts.items at 0 =
    ap (λ l. c.loop-count.size / get_or l at 0) counts in
    let each = c.loop-count.size / get_or c.deref-count-items.result.now at 0 in
    let size = read ∙ size_more _ _ c.loop-count.size h i.size i.some in
    record {
      size = size;
      some = subst (λ n. 0 < n) (sym size) (size_some _ _ c.loop-count.size h i.size i.some);
      digits = ap (λ l. l ++ digits_of (drop (at + 1) c.args.region.now.counts.items) (c.loop-count.rest % each)) c.push.ensures.items
          ∙ digits_step c.args.region.now.counts.items c.loop-count.values.items _ at c.loop-count.rest each h size i.digits;
      long = ap length c.push.ensures.items ∙ length_push _ _ ∙ ap (λ n. n + 1) i.long;
    }

pub returns : goal.returns
returns c =
    let words = c.args.words.now in
    let digits = digits_of c.args.region.now.counts.items c.args.turn in
    let none = digits_none c.args.region.now.counts.items c.loop-count.rest c.loop-count.count-index
    (omega (arith, ap length c.deref-count-items.ensures.value)) in
    let made : c.loop-count.values.items ≡ digits = sym (append-nil _) ∙ ap (λ l. c.loop-count.values.items ++ l) (sym none) ∙ c.loop-count.invariant.digits in
    let pair = ap₂ (λ m n. 2 * (m + n)) c.from.ensures c.from-2.ensures in
    let first = c.word_at.ensures ∙ ap (λ n. slice_index words n) pair in
    let second = c.word_at-2.ensures ∙ ap (λ n. slice_index words (n + 1)) pair in
    c.push-3.ensures.items
    ∙ ap₂ (λ l w. l ++ w ∷ []) (c.push-2.ensures.items ∙ ap₂ (λ l w. l ++ w ∷ []) made first) second
    ∙ append_assoc digits _ _
