use Rattle.tv_core.proofs.Common.{◌≡◌, ℕ, ◌+◌, ◌*◌, ◌^◌, List, [], ◌∷◌, ◌++◌, sym, ap, ap₂, ◌∙◌, arith}
use Rattle.tv_double_argument.proofs.Written.{places_next}
use Rattle.tv_doubles.specs.Doubles.{DoubleLine, key}
use Rattle.tv_stages.proofs.Reorders.{places-zero}
use Rattle.tv_double_argument.proofs.address_order.keys.Goals as goal

pub loop-i-init : goal.loop-i-init
loop-i-init g c = c.in_ok-keys.ensures.items ∙ sym (places-zero (key (g.L.DoubleNumbers.numbers c.args.lines.now).line))

pub loop-i-preserved : goal.loop-i-preserved
loop-i-preserved g c =
    let line : ℕ → DoubleLine = (g.L.DoubleNumbers.numbers c.args.lines.now).line in
    let i = c.loop-i.i in
    let cell : c.line.result.cell ≡ (line i).cell = ap (λ (l : DoubleLine). l.cell) c.line.ensures in
    let one : c.from.result * 2 ^ 20 + c.from-in-loop-i.result ≡ key line i = omega (arith, c.from.ensures, c.from-in-loop-i.ensures, cell) in
    c.in_ok-push.ensures.items ∙ ap₂ (λ (ks : List ℕ) (k : ℕ). ks ++ k ∷ []) c.loop-i.invariant one ∙ sym (places_next i (key line))
