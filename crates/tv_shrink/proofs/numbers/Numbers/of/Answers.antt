use Rattle.tv_core.proofs.Common.{◌≡◌, ◌∙◌, ap, length, subst, sym}
use Rattle.std.proofs.Common.{eqb}
use Rattle.std.specs.List.{dedup, list_any}
use Rattle.std.specs.List.Sorted.{IsStrictlyIncreasing}
use Rattle.std.proofs.lemmas.List.Filters.{dedup_is}
use Rattle.std.proofs.lemmas.List.Sorted.{list_any-IsPermutation}
use Rattle.std.proofs.lemmas.Map.Keys.{IsStrictlyIncreasing-dedup}
use Rattle.tv_r1cs_write.specs.Bytes.{others}
use Rattle.tv_shrink.proofs.Gone.{any-dedup}
use Rattle.tv_shrink.proofs.numbers.Numbers.of.Goals as goal
use Rattle.tv_shrink.proofs.numbers.Numbers.of.Goals.{After-deref}

left : (c : After-deref) → c.dedup.new.self.items ≡ dedup eqb c.sort_unstable.new.self.items
left c = dedup_is eqb c.sort_unstable.new.self.items c.dedup.new.self.items c.dedup.ensures.filtered

rising : (c : After-deref) → IsStrictlyIncreasing c.dedup.new.self.items
rising c = subst IsStrictlyIncreasing (sym (left c)) (IsStrictlyIncreasing-dedup c.sort_unstable.new.self.items c.sort_unstable.ensures.sorted)

pub lower_first-requires : goal.lower_first-requires
lower_first-requires c = subst IsStrictlyIncreasing (sym c.deref.ensures.value) (rising c)

pub invariant_of-result : goal.invariant_of-result
invariant_of-result c = (
  rising (goal.at.invariant_of-result c).After-deref,
  λ w h. c.in_ok-first.ensures w h ∙ ap (λ xs. length (others w xs)) c.deref.ensures.value,
)

pub returns : goal.returns
returns c = λ w.
    ap (list_any (λ v. eqb v w)) (left (goal.at.returns c).After-deref)
    ∙ any-dedup (λ v. eqb v w) c.sort_unstable.new.self.items
    ∙ sym (list_any-IsPermutation (λ v. eqb v w) c.args.gone.items c.sort_unstable.new.self.items c.sort_unstable.ensures.permutation)
