use Rattle.tv_core.proofs.Common.{◌≡◌, ◌+◌, ◌-◌, ◌∙◌, ℕ, refl, sym, rules, arith, ap, ap₂, length, subst, PutsAll}
use Rattle.std.specs.List.{filter_map}
use Rattle.std.specs.List.Sorted.{IsStrictlyIncreasing}
use Rattle.std.specs.Prelude.{is_err}
use Rattle.tv_container.proofs.Streamed.{not_created}
use Rattle.tv_core.proofs.Chain.{puts_then, puts_then_refused}
use Rattle.tv_core.specs.Constraints.{System}
use Rattle.tv_core.specs.Sinks.{PutsSome}
use Rattle.tv_core.specs.declared.lines.Counts.{Counts}
use Rattle.tv_r1cs_write.specs.Bytes.{others}
use Rattle.tv_r1cs_write.proofs.StreamLaws.{IsBegun, streamed_all, streamed_some}
use Rattle.tv_r1cs_write.specs.Streams.{begun, stream, stream_meaning, SystemProgress}
use Rattle.tv_r1cs_write.specs.declared.stream.StreamSink.{StreamSink}
use Rattle.tv_container.proofs.Chain.{err_is}
use Rattle.tv_shrink.specs.Emission.{rows_circuit, wires_circuit}
use Rattle.tv_r1cs_write.specs.Shrunken.{shrunken_bytes}
use Rattle.tv_shrink.specs.Tidy.{AreWithin}
use Rattle.tv_shrink.proofs.Puts.{circuit_of, circuit_list, circuit_next}
use Rattle.tv_shrink.proofs.shrunk.Shrunk.write.Given as given
use Rattle.tv_shrink.proofs.shrunk.Shrunk.write.Goals as goal
use Rattle.tv_shrink.proofs.shrunk.Shrunk.write.Goals.{In-Ok}

-- the system that is written, its counts, and how many private wires it has
abbrev system_in : (g : given.Over) → In-Ok g → System
system_in g c = record {
  wires = c.self.inside.kept;
  outputs = c.self.inside.outputs;
  inputs = c.self.inside.inputs;
  constraints = filter_map (λ row. row) c.self.inside.rows;
}

abbrev counts_in : (g : given.Over) → In-Ok g → Counts
counts_in g c = record {
  wires = c.self.inside.kept;
  outputs = c.self.inside.outputs;
  inputs = c.self.inside.inputs;
  constraints = c.count_rows-tally.result.constraints;
  terms = c.count_rows-tally.result.terms;
}

abbrev private_in : (g : given.Over) → In-Ok g → ℕ
private_in g c = c.self.inside.kept - (1 + c.self.inside.outputs + c.self.inside.inputs)

is_begun : (g : given.Over) (c : In-Ok g)
    → IsBegun {S = StreamSink g.row.D.Denot} (stream g.D.Files.seen) c.args.name.now (g.D.Files.seen c.args.files.now) c.in-Ok.sink
    (circuit_of (private_in g c) c.self.inside.rows) (system_in g c) (counts_in g c) c.self.inside.wires
is_begun g c =
    let first : ℕ = 1 + c.self.inside.outputs + c.self.inside.inputs in
    record {
      creates = c.in-Ok.ensures.ok_creates;
      named = c.in-Ok.ensures.begins.name;
      begins = c.in-Ok.ensures.begins.begun ∙ ap (λ labels. begun (counts_in g c) labels) c.from-labels.ensures;
      stands = c.in-Ok.ensures.begins.stands;
      counted = rw (c.count_rows-tally.ensures.constraints, c.count_rows-tally.ensures.terms) refl;
      list = circuit_list (private_in g c) c.self.inside.rows first;
      next = circuit_next (private_in g c) c.self.inside.rows first ∙ omega (arith, c.self.invariant.0);
      publics = c.self.invariant.0;
      wires_fit = omega arith;
      constraints_fit = omega (arith, c.count_rows-tally.ensures.few, c.self.invariant.4);
    }

-- the wires and constraints that the sink begins with
first_wire : (g : given.Over) (c : In-Ok g) → (stream g.D.Files.seen c.in-Ok.sink).progress.wires ≡ 1 + c.self.inside.outputs + c.self.inside.inputs
first_wire g c = ap (λ (p : SystemProgress). p.wires) c.in-Ok.ensures.begins.begun

no_constraint : (g : given.Over) (c : In-Ok g) → (stream g.D.Files.seen c.in-Ok.sink).progress.constraints ≡ 0
no_constraint g c = ap (λ (p : SystemProgress). p.constraints) c.in-Ok.ensures.begins.begun

pub begin_labelled-requires-clause-wires : goal.begin_labelled-requires-clause-wires
begin_labelled-requires-clause-wires g c = c.self.invariant.0

pub begin_labelled-requires-clause-terms : goal.begin_labelled-requires-clause-terms
begin_labelled-requires-clause-terms g c = omega (arith, c.count_rows-tally.ensures.bound, c.self.invariant.4)

pub make_wires-requires : goal.make_wires-requires
make_wires-requires g c =
    let ok = (goal.at.make_wires-requires g c).In-Ok in
    record {
      room = record {
        whole = ap (λ (p : SystemProgress). is_err p.outcome) c.in-Ok.ensures.begins.begun;
        constant = omega (arith, first_wire g ok);
        wires = omega (arith, first_wire g ok, c.self.invariant.0);
        constraints = omega (arith, no_constraint g ok);
      };
    }

pub put_rows-requires-clause-room : goal.put_rows-requires-clause-room
put_rows-requires-clause-room g c =
    let ok = (goal.at.put_rows-requires-clause-room g c).In-Ok in
    let grown = c.make_wires.ensures.emits.grows in
    record {
      whole = grown.whole;
      constant = omega (arith, first_wire g ok, grown.wires);
      wires = omega (arith, first_wire g ok, grown.wires, c.self.invariant.0);
      constraints = omega (arith, no_constraint g ok, grown.constraints, c.self.invariant.4);
    }

pub put_rows-requires-clause-within : goal.put_rows-requires-clause-within
put_rows-requires-clause-within g c =
    let ok = (goal.at.put_rows-requires-clause-within g c).In-Ok in
    subst (λ n. AreWithin n c.self.inside.rows) (omega (arith, first_wire g ok, c.make_wires.ensures.emits.grows.wires, c.self.invariant.0)) c.self.invariant.3

pub finish_without-requires-clause-whole : goal.finish_without-requires-clause-whole
finish_without-requires-clause-whole g c = c.in_ok-put_rows.ensures.whole

pub finish_without-requires-clause-rising : goal.finish_without-requires-clause-rising
finish_without-requires-clause-rising g c = subst IsStrictlyIncreasing (sym c.deref.ensures.value) c.self.invariant.2

pub returns-in-Err : goal.returns-in-Err
returns-in-Err g c =
    let none = not_created _ _ _ (shrunken_bytes c.args.self.now) _ c.in-Err.ensures.err_creates in
    record { file = search (rules, none); read = tt }

pub returns : goal.returns
returns g c =
    let ok = (goal.at.returns g c).In-Ok in
    let seen : StreamSink g.row.D.Denot → _ = stream g.D.Files.seen in
    let rows = c.self.inside.rows in
    let more : PutsAll (stream_meaning seen) c.make_wires.new.s c.put_rows.new.s (rows_circuit rows (length rows)) tt = c.in_ok-put_rows.ensures.puts in
    let puts = puts_then (stream_meaning seen) (wires_circuit (private_in g ok))
    (λ _. rows_circuit rows (length rows)) c.in-Ok.sink c.make_wires.new.s c.put_rows.new.s tt tt c.make_wires.ensures.emits.puts more in
    let labels : c.put_rows.new.s.labels ≡ c.self.inside.wires = puts.keeps.labels
    ∙ ap (λ (p : SystemProgress). p.labels) c.in-Ok.ensures.begins.begun ∙ c.from-labels.ensures in
    let written = streamed_all _ _ _ _ _ _ _ _ (λ _. others c.self.inside.wires c.self.inside.gone.items) (is_begun g ok)
    c.put_rows.new.s _ tt c.finish_without.result (sym c.self.invariant.1) puts
    (rw (ap₂ others labels c.deref.ensures.value) at c.finish_without.ensures) in
    rw (← c.self.view_is) (search (rules, written))

pub returns-in_err-put_rows : goal.returns-in_err-put_rows
returns-in_err-put_rows g c =
    let ok = (goal.at.returns-in_err-put_rows g c).In-Ok in
    let seen : StreamSink g.row.D.Denot → _ = stream g.D.Files.seen in
    let rows = c.self.inside.rows in
    let fault = c.in_err-put_rows.field-0.0 in
    let more : PutsSome (stream_meaning seen) c.make_wires.new.s c.put_rows.new.s (rows_circuit rows (length rows)) fault = c.in_err-put_rows.ensures.puts in
    let some = puts_then_refused (stream_meaning seen) (wires_circuit (private_in g ok))
    (λ _. rows_circuit rows (length rows)) c.in-Ok.sink c.make_wires.new.s c.put_rows.new.s tt fault c.make_wires.ensures.emits.puts more in
    let written = streamed_some _ _ _ _ _ _ _ _ (λ _. others c.self.inside.wires c.self.inside.gone.items) (is_begun g ok) c.put_rows.new.s fault some in
    rw (err_is c.from_residual.result c.from_residual.ensures.1, ← c.self.view_is) (search (rules, written))
