use Rattle.tv_core.proofs.Common.{◌≡◌, ℕ, ◌<◌, ◌^◌, nat_lt, ap, ap₂, sym, subst, ◌∙◌, Line}
use Rattle.std.specs.Prelude.{if◌then◌else◌}
use Rattle.tv_core.specs.declared.limits.TheConstants.{TAPE_CELLS}
use Rattle.tv_isa.specs.declared.instr.Instr.{Instr}
use Rattle.tv_mem.specs.Bytes.{word_in}
use Rattle.tv_step.proofs.LineLaws.{line_lc}
use Rattle.tv_step.proofs.ViewLaws.{came_after}
use Rattle.tv_step.specs.Machine.{executed, operand, state_after}
use Rattle.tv_step.specs.Ops.{op_of}
use Rattle.tv_step.specs.State.{State}
use Rattle.tv_step.specs.Trace.{looked_at, touched_line}
use Rattle.tv_step.specs.Views.{state_of}
use Rattle.tv_step.proofs.state.Machine.data_line.Goals as goal

pub returns-clause-line : goal.returns-clause-line
returns-clause-line g c =
    let w : ℕ = g.row.W in
    let st : State = state_of c.args.self.now in
    let instr : Instr = c.args.instr.now in
    let due = executed w st instr in
    let left : state_of c.executes.new.self ≡ state_after w 1 st = came_after w due c.in_ok-executes.field-0 st (state_of c.executes.new.self)
    (ap (executed w st) (sym c.requires.fetched)) c.in_ok-executes.ensures.ok in
    let line : Instr → Line = λ i. touched_line w c.args.n (op_of i.op) st (operand st i) c.args.time in
    let after : Line → State → Line = λ b s. record {
      cell = b.cell;
      time = b.time;
      old = b.old;
      new = if nat_lt b.cell TAPE_CELLS then word_in w s.memory b.cell else b.new;
    } in
    let before : c.line_before-before.result ≡ looked_at (line instr).cell c.args.time (line instr).old =
    c.line_before-before.ensures
    ∙ ap₂ (λ op a. looked_at (touched_line w c.args.n op st a c.args.time).cell c.args.time
    (touched_line w c.args.n op st a c.args.time).old) c.op_of.ensures c.operand-a.ensures.word in
    let small : operand st instr < 2 ^ w = subst (λ a. a < 2 ^ w) c.operand-a.ensures.word c.operand-a.ensures.small in
    c.line_after.ensures
    ∙ ap (λ b. after b (state_of c.executes.new.self)) before
    ∙ ap (after (looked_at (line instr).cell c.args.time (line instr).old)) left
    ∙ sym (line_lc w c.args.n c.requires.width (op_of instr.op) st (operand st instr) c.args.time small)
    ∙ ap line c.requires.fetched
