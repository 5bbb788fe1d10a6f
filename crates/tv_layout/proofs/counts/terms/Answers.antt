use Rattle.tv_core.proofs.Common.{◌*◌, All, sym, ap, ap₂, ◌∙◌, subst, arith}
use Rattle.tv_argument.specs.Memory.{IsMade, argument_terms}
use Rattle.tv_block.specs.Block.{block_of}
use Rattle.tv_layout.proofs.LinePlaces.{lines_made}
use Rattle.tv_layout.proofs.SystemSizes.{checks_short, own_few, network_room, system_sized}
use Rattle.tv_layout.specs.Checks.{checks_of}
use Rattle.tv_layout.specs.Layout.{own_lines}
use Rattle.tv_layout.specs.Places.{runs_of}
use Rattle.tv_layout.proofs.counts.terms.Goals as goal

pub argument_terms-memory-requires-clause-few : goal.argument_terms-memory-requires-clause-few
argument_terms-memory-requires-clause-few g c = own_few c.args.net _ c.requires

pub argument_terms-memory-requires-clause-checks : goal.argument_terms-memory-requires-clause-checks
argument_terms-memory-requires-clause-checks g c = checks_short _ c.requires _

pub argument_terms-memory-requires-clause-made : goal.argument_terms-memory-requires-clause-made
argument_terms-memory-requires-clause-made g c =
    subst (λ at. All (IsMade at) (own_lines (block_of g.row.W) (runs_of g.row.W c.args.image.now c.args.n c.args.t))) (sym c.memory_at-first.ensures)
    (lines_made _ c.requires)

pub argument_terms-memory-requires-clause-room : goal.argument_terms-memory-requires-clause-room
argument_terms-memory-requires-clause-room g c = omega (arith, c.memory_at-first.ensures, network_room c.args.net _ c.requires)

pub returns-clause-is : goal.returns-clause-is
returns-clause-is g c =
    let law = system_sized c.args.net _ c.requires in
    let memory = ap (λ at. argument_terms c.args.net (checks_of (runs_of g.row.W c.args.image.now c.args.n c.args.t)) at
    (own_lines (block_of g.row.W) (runs_of g.row.W c.args.image.now c.args.n c.args.t))) c.memory_at-first.ensures in
    let steps = ap₂ (λ a b. a * b) c.from.ensures (c.from-2.ensures ∙ c.step_terms.ensures.is) in
    omega (arith, law.terms, steps, c.from-3.ensures, c.argument_terms-memory.ensures.is, memory)
