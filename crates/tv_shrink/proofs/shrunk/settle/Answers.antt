use Rattle.tv_core.proofs.Common.{◌≡◌, ◌+◌, ◌∙◌, ℕ, ap, ap₂, arith, length, refl, subst, sym, [], range_with_len, length-map}
use Rattle.std.specs.List.{filter_map, fold}
use Rattle.std.specs.Option.{option_map}
use Rattle.tv_r1cs_write.specs.Bytes.{others}
use Rattle.tv_shrink.specs.Renumbering.{moved_in}
use Rattle.tv_shrink.specs.Pass.{turn}
use Rattle.tv_shrink.specs.Tidy.{pass_of, AreWithin}
use Rattle.tv_shrink.proofs.Labels.{is_gone}
use Rattle.tv_shrink.proofs.Settlement.{labels_enough, rows_within, system_is}
use Rattle.tv_shrink.proofs.States.{ran, ran_length}
use Rattle.tv_shrink.proofs.shrunk.settle.Goals as goal
use Rattle.tv_shrink.proofs.shrunk.settle.Goals.{After-into_gone}

abbrev publics_of : After-into_gone → ℕ
publics_of c = 1 + c.args.system.counts.outputs + c.args.system.counts.inputs

-- what the pass left
runs : (c : After-into_gone) → pass_of c.into_parts-rows.result.0 c.run.new.self.state.pass.gone
    ≡ fold (turn (publics_of c)) (pass_of c.args.system.rows []) (range_with_len 0 (length c.args.system.rows))
runs c = ran c.new-pass.result.state c.run.new.self.state c.into_parts-rows.result.0 c.run.new.self.state.pass.gone (publics_of c)
    c.args.system.rows (c.new-pass.ensures ∙ c.in_ok-state.ensures) c.in_ok-run.ensures c.into_parts-rows.ensures.rows refl

-- the wires of the list are those that are gone
listed : (c : After-into_gone) (w : ℕ) → is_gone c.in_ok-numbers.numbers w ≡ is_gone c.run.new.self.state.pass.gone w
listed c w = c.in_ok-numbers.ensures w ∙ ap (λ xs. is_gone xs w) c.into_parts-rows.ensures.gone

pub invariant_of-result : goal.invariant_of-result
invariant_of-result c = (
  omega (
    arith,
    c.get.ensures,
    labels_enough c.args.system.counts c.args.system.rows c.requires (publics_of c) refl c.into_parts-rows.result.0
        c.run.new.self.state.pass.gone (runs c) c.in_ok-numbers.numbers c.renumber.new.self (listed c) c.renumber.ensures,
  ),
  c.get.ensures ∙ ap (λ xs. length (others c.args.system.counts.wires xs)) (sym c.into_gone.ensures.gone),
  c.into_gone.ensures.rising,
  subst (λ n. AreWithin n c.renumber.new.self) (sym c.get.ensures)
      (rows_within c.args.system.counts c.args.system.rows c.requires (publics_of c) refl c.into_parts-rows.result.0 c.run.new.self.state.pass.gone (runs c)
      c.in_ok-numbers.numbers c.renumber.new.self (listed c) c.renumber.ensures),
  omega (
    arith,
    ap length c.renumber.ensures,
    length-map c.into_parts-rows.result.0 (option_map (moved_in c.in_ok-numbers.numbers)),
    ran_length c.new-pass.result.state c.run.new.self.state c.into_parts-rows.result.0 c.run.new.self.state.pass.gone (publics_of c)
        c.args.system.rows (c.new-pass.ensures ∙ c.in_ok-state.ensures) c.in_ok-run.ensures c.into_parts-rows.ensures.rows refl,
    c.requires.few,
  ),
)

pub returns : goal.returns
returns c = λ list same.
    let w = (goal.at.returns c).After-into_gone in
    ap₂ (λ n labels. record {
      system = record {
        wires = n;
        outputs = c.args.system.counts.outputs;
        inputs = c.args.system.counts.inputs;
        constraints = filter_map (λ row. row) c.renumber.new.self;
      };
      labels = labels;
      wires = c.args.system.counts.wires;
    }) c.get.ensures (ap (others c.args.system.counts.wires) c.into_gone.ensures.gone)
    ∙ system_is c.args.system.counts c.args.system.rows c.requires (publics_of w) refl c.into_parts-rows.result.0 c.run.new.self.state.pass.gone (runs w)
    c.in_ok-numbers.numbers c.renumber.new.self (listed w) c.renumber.ensures list same
