use Rattle.tv_core.proofs.Common.{◌≡◌, ℕ, ◌∙◌, ap, arith, top}
use Rattle.std.proofs.Common.{max}
use Rattle.tv_bits.proofs.pairs.set_side.Goals as goal

max_four : (a b c d : ℕ) → max (max (max (max 1 a) b) c) d ≡ max 1 (max (max a b) (max c d))
max_four a b c d = omega arith

pub returns-clause-top : goal.returns-clause-top
returns-clause-top c =
    c.plus_scaled-2.ensures.top
    ∙ ap (λ n. max n (top c.args.y_b.now)) (c.plus_scaled.ensures.top ∙ ap (λ n. max n (top c.args.x_b.now)) (c.plus_terms-2.ensures.top
    ∙ ap (λ n. max n (top c.args.y_a.now)) (c.plus_terms.ensures.top ∙ ap (λ n. max n (top c.args.x_a.now)) (c.plus.ensures.top
    ∙ ap (λ l. max (top l) 1) c.clear.ensures))))
    ∙ max_four (top c.args.x_a.now) (top c.args.y_a.now) (top c.args.x_b.now) (top c.args.y_b.now)
