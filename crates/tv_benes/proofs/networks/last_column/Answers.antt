use Rattle.tv_core.proofs.Common.{◌-◌, ◌^◌, arith, ap₂, all_then, some_then, some_first, refused_whole, all_last, emits_as, emits_here, refl}
use Rattle.tv_benes.proofs.NetworkChain.{last_made}
use Rattle.tv_benes.proofs.ThroughLaws.{missing_small, above}
use Rattle.tv_benes.specs.Network.{last_column_of}
use Rattle.tv_benes.proofs.networks.last_column.Goals as goal

pub column-requires-clause-count : goal.column-requires-clause-count
column-requires-clause-count g c = omega (arith, c.requires.level, c.power.ensures)

pub column-requires-clause-made : goal.column-requires-clause-made
column-requires-clause-made g c =
    let below = above c.args.net c.args.h (λ none. omega (arith, c.requires.some)) in
    rw (ap₂ (λ a b. a - b) c.power.ensures c.missing.ensures) (last_made c.args.net c.args.upper.now c.args.lower.now (2 ^ c.args.h) _
    (omega (arith, below.size, below.some)) c.requires.upper c.requires.lower)

pub returns-in_err-column : goal.returns-in_err-column
unfolding last_column_of
returns-in_err-column g c =
    refused_whole _ _ _ c.from_residual.ensures (some_then _ (emits_here c.requires.room.whole c.wires.ensures) (some_first _
    (rw (ap₂ (λ a b. a - b) c.power.ensures c.missing.ensures) at c.in_err-column.ensures.emits)))

pub last_outputs-requires : goal.last_outputs-requires
last_outputs-requires g c =
    let below = above c.args.net c.args.h (λ none. omega (arith, c.requires.some)) in
    omega (arith, c.wires.ensures, c.requires.room.wires, missing_small c.args.net, below.size, below.some)

pub returns : goal.returns
unfolding last_column_of
returns g c =
    let column = rw (ap₂ (λ a b. a - b) c.power.ensures c.missing.ensures) at c.in_ok-column.ensures.emits in
    record {
      emits = rw c.last_outputs.ensures (emits_as (omega arith) (omega arith) (all_then _ (emits_here c.requires.room.whole c.wires.ensures)
          (all_last _ column refl)));
    }
