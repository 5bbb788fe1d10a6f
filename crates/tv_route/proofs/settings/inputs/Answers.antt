use Rattle.tv_core.proofs.Common.{ℕ, ◌*◌, ◌/◌, if◌then◌else◌, sym, ◌∙◌, ap, arith}
use Rattle.tv_benes.proofs.Permutations.{places-zero}
use Rattle.tv_route.proofs.Steps.{push_one}
use Rattle.tv_route.specs.Route.{down_input, up_input}
use Rattle.tv_route.proofs.settings.inputs.Goals as goal

pub loop-j-init : goal.loop-j-init
loop-j-init c =
    let f : ℕ → ℕ = λ j. (if c.args.lower then down_input c.args.marks.now c.args.p.now j else up_input c.args.marks.now c.args.p.now j) / 2 in
    c.in_ok-found.ensures.items ∙ sym (places-zero f)

pub loop-j-preserved : goal.loop-j-preserved
loop-j-preserved c =
    let f : ℕ → ℕ = λ j. (if c.args.lower then down_input c.args.marks.now c.args.p.now j else up_input c.args.marks.now c.args.p.now j) / 2 in
    push_one c.loop-j.found.items _ c.loop-j.j f _ c.loop-j.invariant (ap (λ k. k / 2) c.input.ensures) c.in_ok-push.ensures.items

pub input-requires-clause-first : goal.input-requires-clause-first
input-requires-clause-first c = omega (arith, c.requires.permutes.below (2 * c.loop-j.j) (omega arith), c.requires.long)
