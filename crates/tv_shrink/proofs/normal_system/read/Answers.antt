use Rattle.tv_core.proofs.Common.{◌≡◌, ◌<◌, ◌^◌, ◌++◌, ◌∷◌, Ok, arith, sym, ap, subst, ◌∙◌, refl, rules, length, length-append, []}
use Rattle.std.proofs.lemmas.Option.{MatchOption-at_none, MatchOption-at_some}
use Rattle.tv_files.specs.Outside.{Outside}
use Rattle.tv_r1cs_read.specs.R1cs.{r1cs_system}
use Rattle.tv_r1cs_read.specs.Rows.{constraint_of, IsOver}
use Rattle.tv_container.proofs.Chain.{err_is}
use Rattle.tv_shrink.specs.Answers.{counted_system, read_fault, start_row, FaultMeans, Halted, IsReady}
use Rattle.tv_core.specs.Normal.{normal_constraint}
use Rattle.tv_shrink.specs.Tidy.{RowsAreNormal, AreWithin, RowIsWithin}
use Rattle.tv_shrink.proofs.Read.{each_started, few_terms, length-start_row, halted, halts_err}
use Rattle.tv_shrink.proofs.Read.{left_falls, narrow_within, no_wide, pushed_normal, ready_as_read, start_more}
use Rattle.tv_shrink.proofs.Read.{read_means, wide_halted, wide_more, wide_read}
use Rattle.tv_shrink.proofs.normal_system.read.Goals as goal

pub loop-scratch-init : goal.loop-scratch-init
loop-scratch-init g c = record {
  same = refl;
  outside = c.in-Ok.ensures.ok_looks;
  name = c.in-Ok.ensures.name;
  on = c.in-Ok.ensures.begun.stopped;
  header = refl;
  counted = omega (arith, ap length c.new-rows.ensures);
  within = subst (AreWithin c.in-Ok.reader.progress.header.wires) (sym c.new-rows.ensures) tt;
  normal = subst RowsAreNormal (sym c.new-rows.ensures) tt;
  place = λ file known. ([], c.in-Ok.ensures.gives file known, c.new-rows.ensures, no_wide);
}

pub returns-in-Err-clause-gives : goal.returns-in-Err-clause-gives
returns-in-Err-clause-gives g c = λ file known.
    subst (λ why. FaultMeans why file) (sym c.from.ensures) (read_means c.in-Err.unread.why file (c.in-Err.ensures.gives file known).1)

pub returns-in-Err-clause-looks : goal.returns-in-Err-clause-looks
returns-in-Err-clause-looks g c =
    let halts : (new : Outside) → new ≡ g.D.Files.seen c.in-Err.unread.files.now → Halted (g.D.Files.seen c.args.files.now) new c.args.name.now c.from.result =
    λ new is. rw (c.from.ensures, is) (halted _ _ _ _ c.in-Err.ensures.err_stopped) in
    halts _ (search rules)

pub returns-in_err-next_into-clause-gives : goal.returns-in_err-next_into-clause-gives
returns-in_err-next_into-clause-gives g c = λ file known.
    let before = c.loop-scratch.invariant.place file known in
    let on = rw (← c.loop-scratch.invariant.outside, ← c.loop-scratch.invariant.name) at known in
    let next = c.in_err-next_into.ensures.steps.gives before.0 file on before.1 in
    rw (err_is c.from_residual.result c.from_residual.ensures.1)
    (read_means c.in_err-next_into.field-0.0 file (MatchOption-at_some _ _ _ c.in_err-next_into.ensures.reports next))

pub returns-in_err-next_into-clause-looks : goal.returns-in_err-next_into-clause-looks
returns-in_err-next_into-clause-looks g c =
    let stopped = rw (c.loop-scratch.invariant.outside, c.loop-scratch.invariant.name) at
    (MatchOption-at_some _ _ _ c.in_err-next_into.ensures.reports (c.in_err-next_into.ensures.steps.looks c.loop-scratch.invariant.on)) in
    halts_err (g.D.Files.seen c.args.files.now) _ (g.D.Files.seen c.next_into.new.self.files.now) c.args.name.now (read_fault c.in_err-next_into.field-0.0)
    c.from_residual.result c.from_residual.ensures.1 (halted _ _ _ _ stopped) (search rules)

pub loop-scratch-preserved : goal.loop-scratch-preserved
loop-scratch-preserved g c =
    let counts = rw c.if-branch.true at c.in_ok-next_into.ensures.counts in
    let one = constraint_of c.next_into.new.row in
    record {
      same = c.in_ok-next_into.ensures.same ∙ c.loop-scratch.invariant.same;
      outside = MatchOption-at_none _ _ c.in_ok-next_into.ensures.reports (c.in_ok-next_into.ensures.steps.looks c.loop-scratch.invariant.on)
          ∙ c.loop-scratch.invariant.outside;
      name = c.in_ok-next_into.ensures.name ∙ c.loop-scratch.invariant.name;
      on = c.in_ok-next_into.ensures.reports;
      header = c.in_ok-next_into.ensures.steps.header ∙ c.loop-scratch.invariant.header;
      counted = omega (
        arith,
        counts.1,
        c.loop-scratch.invariant.counted,
        ap length c.in_ok-add.ensures.rows,
        length-append c.loop-scratch.rows (start_row (normal_constraint one)),
        length-start_row (normal_constraint one),
      );
      within =
          let wires = c.in-Ok.reader.progress.header.wires in
          let over : IsOver wires c.next_into.new.row = subst (λ header. IsOver header.wires c.next_into.new.row) c.loop-scratch.invariant.header counts.2 in
          each_started (RowIsWithin wires) c.loop-scratch.rows c.add.new.self (normal_constraint one) c.in_ok-add.ensures.rows
          (narrow_within wires c.next_into.new.row over c.in_ok-add.ensures.narrow) c.loop-scratch.invariant.within;
      normal = pushed_normal c.loop-scratch.rows c.add.new.self one c.in_ok-add.ensures.rows c.loop-scratch.invariant.normal;
      place = λ file known.
          let before = c.loop-scratch.invariant.place file known in
          let on = rw (← c.loop-scratch.invariant.outside, ← c.loop-scratch.invariant.name) at known in
          let next = MatchOption-at_none _ _ c.in_ok-next_into.ensures.reports (c.in_ok-next_into.ensures.steps.gives before.0 file on before.1) in (
            before.0 ++ one ∷ [],
            rw c.if-branch.true at next,
            c.in_ok-add.ensures.rows ∙ ap (λ rows. rows ++ start_row (normal_constraint one)) before.2 ∙ sym (start_more before.0 one),
            wide_more before.0 one before.3 ∙ c.in_ok-add.ensures.narrow,
          );
    }

pub loop-scratch-smaller : goal.loop-scratch-smaller
loop-scratch-smaller g c =
    let counts = rw c.if-branch.true at c.in_ok-next_into.ensures.counts in
    left_falls c.next_into.new.self.progress.left c.loop-scratch.reader.progress.left counts.1

pub returns-in_err-add-clause-gives : goal.returns-in_err-add-clause-gives
returns-in_err-add-clause-gives g c = λ file known.
    let before = c.loop-scratch.invariant.place file known in
    let on = rw (← c.loop-scratch.invariant.outside, ← c.loop-scratch.invariant.name) at known in
    let next = MatchOption-at_none _ _ c.in_ok-next_into.ensures.reports (c.in_ok-next_into.ensures.steps.gives before.0 file on before.1) in
    rw (err_is c.from_residual-in_err-add.result c.from_residual-in_err-add.ensures.1)
    (wide_read c.in_err-add.field-0.0 c.next_into.new.self.progress file before.0 (constraint_of c.next_into.new.row)
    (c.requires.small file known) before.3 (rw c.if-branch.true at next) c.in_err-add.ensures.err)

pub returns-in_err-add-clause-looks : goal.returns-in_err-add-clause-looks
returns-in_err-add-clause-looks g c =
    let outside = g.D.Files.seen c.args.files.now in
    halts_err outside _ outside c.args.name.now c.in_err-add.field-0.0 c.from_residual-in_err-add.result c.from_residual-in_err-add.ensures.1
    (wide_halted _ _ _ _ c.in_err-add.ensures.err) (search rules)

pub returns-clause-ready : goal.returns-clause-ready
returns-clause-ready g c =
    subst (λ counts. counts.wires < 2 ^ 32 → counts.constraints < 2 ^ 32 → IsReady counts c.loop-scratch.rows) (sym c.counts-counts.ensures)
    (ready_as_read c.in-Ok.reader.progress c.loop-scratch.rows c.loop-scratch.reader.progress.left c.in-Ok.ensures.begun c.loop-scratch.invariant.counted
    c.loop-scratch.invariant.within c.loop-scratch.invariant.normal) (omega arith) (omega arith)

pub returns-clause-gives : goal.returns-clause-gives
returns-clause-gives g c = λ file known.
    let before = c.loop-scratch.invariant.place file known in
    let on = rw (← c.loop-scratch.invariant.outside, ← c.loop-scratch.invariant.name) at known in
    let next = MatchOption-at_none _ _ c.in_ok-next_into.ensures.reports (c.in_ok-next_into.ensures.steps.gives before.0 file on before.1) in
    let all = rw c.if-branch.false at next in
    let is : r1cs_system file ≡ Ok (counted_system c.counts-counts.result before.0) =
    rw (c.counts-counts.ensures, ← c.loop-scratch.invariant.header, ← c.in_ok-next_into.ensures.steps.header) all.system in
    record {
      list = before.0;
      is = is;
      same = before.2;
      few = few_terms file (counted_system c.counts-counts.result before.0) (c.requires.small file known) is;
      narrow = before.3;
    }

pub returns-clause-looks : goal.returns-clause-looks
returns-clause-looks g c =
    let stays = MatchOption-at_none _ _ c.in_ok-next_into.ensures.reports (c.in_ok-next_into.ensures.steps.looks c.loop-scratch.invariant.on)
    ∙ c.loop-scratch.invariant.outside in
    let same : (new : Outside) → new ≡ g.D.Files.seen c.next_into.new.self.files.now → new ≡ g.D.Files.seen c.args.files.now = λ new is. is ∙ stays in
    same _ (search rules)
