use Rattle.tv_core.proofs.Common.{◌++◌, ap, sym, ◌∙◌, append-nil}
use Rattle.tv_step.specs.Views.{state_of}
use Rattle.tv_trace.proofs.LineLaws.{left_is, line_shown, line_hidden}
use Rattle.tv_trace.proofs.run.trace_step.Goals as goal

pub returns-in_ok-push_step-clause-text : goal.returns-in_ok-push_step-clause-text
returns-in_ok-push_step-clause-text g c =
    let shown = line_shown g.row.W c.args.tracing.tapes c.args.tracing.shown c.args.step (state_of c.args.machine.now) (state_of c.step.new.self)
    c.in_ok-outcome.outcome c.in_ok-outcome.ensures.ok c.of-before.result c.after.result c.taken.result c.of-before.ensures.before
    (left_is g.row.W c.args.tracing.tapes c.args.tracing.shown c.args.step (state_of c.args.machine.now) (state_of c.step.new.self)
    c.in_ok-outcome.outcome c.in_ok-outcome.ensures.ok c.of-before.result c.args.left.now c.after.result c.of-before.ensures.before
    c.requires.left c.after.ensures)
    c.taken.ensures (sym c.shows.ensures ∙ c.if-shows.true) in
    c.in_ok-push_step.ensures ∙ ap (λ line. c.args.text.now.items ++ line) shown

pub returns-in_ok-push_step-clause-left : goal.returns-in_ok-push_step-clause-left
returns-in_ok-push_step-clause-left g c =
    left_is g.row.W c.args.tracing.tapes c.args.tracing.shown c.args.step (state_of c.args.machine.now) (state_of c.step.new.self)
    c.in_ok-outcome.outcome c.in_ok-outcome.ensures.ok c.of-before.result c.args.left.now c.after.result c.of-before.ensures.before
    c.requires.left c.after.ensures

pub returns-else-shows-clause-text : goal.returns-else-shows-clause-text
returns-else-shows-clause-text g c =
    let hidden = line_hidden g.row.W c.args.tracing.tapes c.args.tracing.shown c.args.step (state_of c.args.machine.now) (state_of c.step.new.self)
    c.in_ok-outcome.outcome c.in_ok-outcome.ensures.ok (sym c.shows.ensures ∙ c.if-shows.false) in
    sym (append-nil c.args.text.now.items) ∙ ap (λ line. c.args.text.now.items ++ line) hidden

pub returns-else-shows-clause-left : goal.returns-else-shows-clause-left
returns-else-shows-clause-left g c =
    left_is g.row.W c.args.tracing.tapes c.args.tracing.shown c.args.step (state_of c.args.machine.now) (state_of c.step.new.self)
    c.in_ok-outcome.outcome c.in_ok-outcome.ensures.ok c.of-before.result c.args.left.now c.after.result c.of-before.ensures.before
    c.requires.left c.after.ensures
