use Rattle.tv_core.proofs.Common.{◌≡◌, ◌-◌, ◌*◌, ◌<◌}
use Rattle.tv_route.specs.Route.{walk}
use Rattle.tv_route.proofs.marks.walk.Given as goal

abbrev pub invariant-loop-step : goal.invariant-loop-step
invariant-loop-step l = record {
  within : l.x < 2 * l.n;
  rest : walk l.partner (l.n - l._step) l.start l.x l.marks ≡ walk l.partner l.n l.start l.start l.fn.marks;
}
