use Rattle.tv_core.proofs.Common.{◌≡◌, ℕ, ◌+◌, ◌-◌, ◌%◌, ◌<◌, ◌∙◌, ap, ap₂, sym, arith, mod-lt, mod-eq_of_lt, gives_refused}
use Rattle.std.proofs.Common.{one-mul}
use Rattle.tv_bits.proofs.PrefixLaws.{next_factor}
use Rattle.tv_bits.specs.Prefixes.{product_below}
use Rattle.tv_core.proofs.LoopLaws.{gives_no_turn, gives_turn, gives_turn_refused}
use Rattle.tv_core.specs.declared.field.TheConstants.{P}
use Rattle.tv_lines.specs.PackedLines.{line_of_numbers}
use Rattle.tv_lines.specs.SortedPair.{factor_in}
use Rattle.tv_lines.proofs.keys.fill_rises.Goals as goal

-- the first factor, as a product
first : (f : ℕ → ℕ) → f 0 < P → f 0 ≡ product_below 1 f % P
first f small = sym (ap (λ n. n % P) (one-mul (f 0)) ∙ mod-eq_of_lt small)

pub loop-i-init : goal.loop-i-init
loop-i-init g c =
    let factor : ℕ → ℕ = factor_in (line_of_numbers c.args.before.now) (line_of_numbers c.args.after.now) in
    record {
      gives = gives_no_turn _ _ _;
      whole = c.requires;
      product = c.sub-product.ensures ∙ ap₂ (λ x s. (x + (P - s)) % P) c.prefix_less_in.ensures c.size-size.ensures ∙ first factor (mod-lt _ (omega arith));
    }

pub loop-i-preserved : goal.loop-i-preserved
loop-i-preserved g c =
    let factor : ℕ → ℕ = factor_in (line_of_numbers c.args.before.now) (line_of_numbers c.args.after.now) in
    let one_more = c.sub.ensures ∙ ap₂ (λ x s. (x + (P - s)) % P) c.prefix_less_in-in-loop-i.ensures c.size-size.ensures in
    let product = c.mul-product.ensures ∙ next_factor c.loop-i.i factor _ _ c.loop-i.invariant.product one_more in
    let one = rw product at c.in_ok-give.ensures.gives in
    record {
      gives = gives_turn g.V.Values.giving (λ i. product_below (i + 2) factor % P) _ _ _ _ c.loop-i.invariant.gives one;
      whole = c.in_ok-give.ensures.whole;
      product = product ∙ ap (λ n. product_below n factor % P) (let same : c.loop-i.i + 2 ≡ c.loop-i.i + 1 + 1 = omega arith in same);
    }

pub returns-in_err-give-clause-gives : goal.returns-in_err-give-clause-gives
returns-in_err-give-clause-gives g c =
    let factor : ℕ → ℕ = factor_in (line_of_numbers c.args.before.now) (line_of_numbers c.args.after.now) in
    let one_more = c.sub.ensures ∙ ap₂ (λ x s. (x + (P - s)) % P) c.prefix_less_in-in-loop-i.ensures c.size-size.ensures in
    let product = c.mul-product.ensures ∙ next_factor c.loop-i.i factor _ _ c.loop-i.invariant.product one_more in
    let one = rw product at c.in_err-give.ensures.gives in
    gives_refused g.V.Values.giving _ _ _ c.from_residual.result c.from_residual.ensures.1
    (gives_turn_refused g.V.Values.giving (λ i. product_below (i + 2) factor % P) 3 c.loop-i.i _ _ _ _ (omega arith) c.loop-i.invariant.gives one)
