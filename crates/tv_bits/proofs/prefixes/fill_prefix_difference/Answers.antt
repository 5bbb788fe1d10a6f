use Rattle.tv_core.proofs.Common.{◌≡◌, ℕ, ◌+◌, ◌-◌, ◌*◌, ◌%◌, ◌∙◌, ap, arith, gives_refused}
use Rattle.tv_core.proofs.LoopLaws.{gives_no_turn, gives_turn, gives_turn_refused}
use Rattle.tv_core.specs.declared.field.TheConstants.{P}
use Rattle.tv_bits.proofs.PrefixLaws.{first_factor, next_factor}
use Rattle.tv_bits.specs.Prefixes.{prefix_less_in, product_below}
use Rattle.tv_bits.proofs.prefixes.fill_prefix_difference.Goals as goal

pub loop-i-init : goal.loop-i-init
loop-i-init g c =
    let factor : ℕ → ℕ = λ j. prefix_less_in c.args.x c.args.y c.args.d (c.args.chunk * j) in
    record {
      gives = gives_no_turn g.V.Values.giving (λ i. product_below (i + 2) factor % P) _;
      whole = c.requires.whole;
      product = c.prefix_less_in-product.ensures ∙ first_factor c.args.x c.args.y c.args.d c.args.chunk;
    }

pub loop-i-preserved : goal.loop-i-preserved
loop-i-preserved g c =
    let factor : ℕ → ℕ = λ j. prefix_less_in c.args.x c.args.y c.args.d (c.args.chunk * j) in
    let product = c.mul-product.ensures ∙ next_factor c.loop-i.i factor _ _ c.loop-i.invariant.product c.prefix_less_in.ensures in
    let one = rw product at c.in_ok-give.ensures.gives in
    record {
      gives = gives_turn g.V.Values.giving (λ i. product_below (i + 2) factor % P) _ _ _ _ c.loop-i.invariant.gives one;
      whole = c.in_ok-give.ensures.whole;
      product = product ∙ ap (λ n. product_below n factor % P) (let same : c.loop-i.i + 2 ≡ c.loop-i.i + 1 + 1 = omega arith in same);
    }

pub returns-in_err-give-clause-gives : goal.returns-in_err-give-clause-gives
returns-in_err-give-clause-gives g c =
    let factor : ℕ → ℕ = λ j. prefix_less_in c.args.x c.args.y c.args.d (c.args.chunk * j) in
    let product = c.mul-product.ensures ∙ next_factor c.loop-i.i factor _ _ c.loop-i.invariant.product c.prefix_less_in.ensures in
    let one = rw product at c.in_err-give.ensures.gives in
    gives_refused g.V.Values.giving _ _ _ c.from_residual.result c.from_residual.ensures.1
    (gives_turn_refused g.V.Values.giving (λ i. product_below (i + 2) factor % P) (c.args.count - 2) c.loop-i.i _ _ _ _
    (omega arith) c.loop-i.invariant.gives one)
