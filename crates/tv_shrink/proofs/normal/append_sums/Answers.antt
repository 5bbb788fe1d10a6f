use Rattle.tv_core.proofs.Common.{◌≡◌, ◌∙◌, ◌++◌, ◌+◌, ◌<◌, ◌%◌, ℕ, append-nil, append_assoc, ap, ap₂, arith, drop, get_or, length, sym, [], normal, length-map}
use Rattle.tv_core.specs.Normal.{with_term}
use Rattle.tv_core.specs.declared.field.TheConstants.{P}
use Rattle.std.proofs.lemmas.List.{get_or_default}
use Rattle.tv_r1cs_read.specs.Rows.{combination_of}
use Rattle.tv_shrink.proofs.SortLaws.{no_sum, read_at, read_rises, sum_ends, sum_goes_on, sum_past, with_sum}
use Rattle.tv_shrink.proofs.normal.append_sums.Goals as goal
use Rattle.tv_shrink.proofs.normal.append_sums.Goals.{then-at-terms+in_ok-push_term, then-at-terms-via-then-at-terms}
use Rattle.tv_shrink.proofs.normal.append_sums.Goals.{then-at-terms-via-else-at-terms+then-terms-at, else-at-terms+else-terms-at}

pub loop-at-init : goal.loop-at-init
loop-at-init c = record { so_far = ap (λ x. c.args.out.now.items ++ x) (no_sum (combination_of c.args.terms.now)); longer = omega arith }

pub loop-at-preserved : goal.loop-at-preserved
loop-at-preserved c =
    let terms = c.args.terms.now in
    let x = combination_of terms in
    let i = c.loop-at.at in
    let long : length x ≡ length terms = length-map {B = ℕ × ℕ} terms (λ (t : ℕ × ℕ). (t.1, t.0)) in
    let h : i < length x = omega (arith, c.loop-at-test.true) in
    let read : ℕ × ℕ = get_or terms i c.index-terms-at.result in
    let t : ℕ × ℕ = (read.1, read.0) in
    let at : t ≡ get_or x i t = sym (read_at terms i c.index-terms-at.result t c.loop-at-test.true) in
    let coefficient : (get_or terms i c.index-terms-at-in-loop-at.result).1
    ≡ t.0 = ap (λ u. u.1) (get_or_default terms i c.index-terms-at-in-loop-at.result c.index-terms-at.result c.loop-at-test.true) in
    elim c.if-at-terms.branch [
      | then-at-terms+in_ok-push_term w ↦
          let done = sum_ends x i c.loop-at.sum t h at (read_rises terms c.requires) (λ d inside e. elim w.then-at-terms.branch [
            | then-at-terms-via-then-at-terms u ↦ absurd (omega (arith, u.if-at-terms.true))
            | then-at-terms-via-else-at-terms+then-terms-at u ↦
                let next = ap (λ v. v.1) (read_at terms (i + 1) u.index-terms-at-else-at-terms.result d (omega arith)) in
                absurd (grind arith)
          ]) in
          record {
            so_far = ap₂ (λ xs s. xs ++ normal (with_sum s (drop (i + 1) x))) (ap (λ v. v.items) w.out-is ∙ w.in_ok-push_term.ensures.term) w.sum-is
                ∙ append_assoc c.loop-at.out.items (with_term c.add-sum.result t.1 []) (normal (with_sum 0 (drop (i + 1) x)))
                ∙ ap (λ y. c.loop-at.out.items ++ y) (ap (λ k. with_term k t.1 [] ++ normal (with_sum 0 (drop (i + 1) x)))
                (c.add-sum.ensures ∙ ap (λ k. (c.loop-at.sum + k) % P) coefficient)
                ∙ sym done)
                ∙ c.loop-at.invariant.so_far;
            longer = omega (arith, c.loop-at.invariant.longer, w.push_term.ensures.longer, ap (λ v. length v.items) w.out-is);
          }
      | else-at-terms+else-terms-at w ↦
          let next : ℕ × ℕ = get_or terms (i + 1) w.index-terms-at-else-at-terms.result in
          let u : ℕ × ℕ = (next.1, next.0) in
          let inside : i + 1 < length terms = omega (arith, w.if-at-terms.false) in
          let same : u.1 ≡ t.1 = grind arith in
          record {
            so_far = ap₂ (λ xs s. xs ++ normal (with_sum s (drop (i + 1) x))) (ap (λ v. v.items) w.out-is)
                (w.sum-is ∙ c.add-sum.ensures ∙ ap (λ k. (c.loop-at.sum + k) % P) coefficient)
                ∙ ap (λ y. c.loop-at.out.items ++ y) (sym (sum_goes_on x i c.loop-at.sum t h at u (omega arith)
                (sym (read_at terms (i + 1) w.index-terms-at-else-at-terms.result u inside)) same))
                ∙ c.loop-at.invariant.so_far;
            longer = omega (arith, c.loop-at.invariant.longer, ap (λ v. length v.items) w.out-is);
          }
    ]

pub returns-clause-out : goal.returns-clause-out
returns-clause-out c =
    let x = combination_of c.args.terms.now in
    let long : length x ≡ length c.args.terms.now = length-map {B = ℕ × ℕ} c.args.terms.now (λ (t : ℕ × ℕ). (t.1, t.0)) in
    sym (append-nil c.loop-at.out.items)
    ∙ ap (λ y. c.loop-at.out.items ++ y) (sym (sum_past c.loop-at.sum c.loop-at.at x (omega (arith, c.loop-at-test.false))))
    ∙ c.loop-at.invariant.so_far
