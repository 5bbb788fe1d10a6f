use Rattle.tv_core.proofs.Common.{◌-◌, ap, ◌∙◌}
use Rattle.std.proofs.Common.{min}
use Rattle.tv_network.proofs.Shapes.{depth_across, form_bound, form_open}
use Rattle.tv_network.proofs.shape.Network.form.Goals as goal

pub returns-then-min-self-eq0 : goal.returns-then-min-self-eq0
returns-then-min-self-eq0 c =
    form_bound c.args.self c.args.l c.min.result
    (c.min.ensures ∙ ap (λ n. min c.args.l (n - 1 - c.args.l)) c.stages.ensures.is ∙ depth_across c.args.self.items c.args.l c.requires.within)
    c.if-min-self-eq0.true

pub returns-else-min-self-eq0 : goal.returns-else-min-self-eq0
returns-else-min-self-eq0 c =
    form_open c.args.self c.args.l c.min.result
    (c.min.ensures ∙ ap (λ n. min c.args.l (n - 1 - c.args.l)) c.stages.ensures.is ∙ depth_across c.args.self.items c.args.l c.requires.within)
    c.if-min-self-eq0.false
