use Rattle.tv_core.proofs.Common.{◌≡◌, ◌∙◌, ◌++◌, ℕ, ap, arith, rules, sym, subst, normal}
use Rattle.std.proofs.Common.{leb, leb-true}
use Rattle.std.specs.List.Sorted.{IsNonDecreasingBy}
use Rattle.std.specs.Prelude.{IsPermutation}
use Rattle.std.proofs.lemmas.List.Sorted.{IsNonDecreasingBy-from_all_adjacent, IsNonDecreasingBy-from_sort_by_key, IsPermutation-map}
use Rattle.std.proofs.lemmas.Fn.{always_returns_same}
use Rattle.std.proofs.lemmas.Result.{on_ok_weaker}
use Rattle.tv_r1cs_read.specs.Rows.{combination_of}
use Rattle.tv_shrink.proofs.SortLaws.{normal-permuted, normal_single}
use Rattle.tv_shrink.proofs.normal.append_normal.Goals as goal

pub append_sums-requires : goal.append_sums-requires
append_sums-requires c =
    let ordered = rw c.if-is_sorted_by.true at (c.is_sorted_by.ensures.cases (λ (x y : ℕ × ℕ). leb x.0 y.0)
    (always_returns_same _ (λ a r. r ≡ leb a.0.now.0 a.1.0.now.0) _ (λ a r q k. search rules))) in
    IsNonDecreasingBy-from_all_adjacent (λ (t : ℕ × ℕ). t.0) c.args.terms.now (λ k d l. leb-true _ _ (sym (ordered k d l)))

pub append_sums-requires-2 : goal.append_sums-requires-2
append_sums-requires-2 c =
    subst (IsNonDecreasingBy (λ (t : ℕ × ℕ). t.0)) (sym c.deref.ensures.value)
    (IsNonDecreasingBy-from_sort_by_key (λ (t : ℕ × ℕ). t.0) c.sort_unstable_by_key.new.self.items c.sort_unstable_by_key.ensures.sorted
    (λ a r q k. search rules))

pub returns-clause-out : goal.returns-clause-out
returns-clause-out c =
    let sorted = c.sort_unstable_by_key.new.self.items in
    let read : c.extend_from_slice.new.self.items ≡ c.args.terms.now = search rules in
    let same = IsPermutation-map (λ (t : ℕ × ℕ). (t.1, t.0)) c.args.terms.now sorted
    (subst (λ xs. IsPermutation xs sorted) read c.sort_unstable_by_key.ensures.permutation) in
    on_ok_weaker c.append_sums-2.result (λ sums. sums
    ∙ ap (λ x. c.args.out.now.items ++ x) (ap (λ xs. normal (combination_of xs)) c.deref.ensures.value
    ∙ normal-permuted (combination_of c.args.terms.now) (combination_of sorted) same)) c.append_sums-2.ensures.out

pub returns-then-terms-eq1-clause-out : goal.returns-then-terms-eq1-clause-out
returns-then-terms-eq1-clause-out c =
    on_ok_weaker c.push_term.result (λ pushed. pushed
    ∙ ap (λ x. c.args.out.now.items ++ x)
    (normal_single c.args.terms.now c.index-terms-0.result c.index-terms-0-then-terms-eq1.result (grind arith))) c.push_term.ensures.term
