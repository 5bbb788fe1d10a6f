use Rattle.tv_core.proofs.Common.{◌≡◌, ℕ, ◌^◌, ◌∙◌, arith, some_first, refused_whole, then_in, emits_in}
use Rattle.tv_double_argument.proofs.Made.{items_taken}
use Rattle.tv_double_argument.specs.Memory.{items_of, argument_of}
use Rattle.tv_network.proofs.NetworkLaws.{network_fills}
use Rattle.tv_double_argument.proofs.argument.memory.Goals as goal

pub network-requires-clause-items : goal.network-requires-clause-items
network-requires-clause-items g c =
    rw (c.network_on-on.ensures, c.count.ensures) (items_taken c.args.net (2 ^ g.row.W) (g.S.Sink.meaning.wires c.args.s.now)
    (g.L.DoubleLines.lines c.args.lines.now) c.requires.few c.requires.made)

pub returns-in_err-first : goal.returns-in_err-first
unfolding argument_of
returns-in_err-first g c =
    refused_whole _ _ _ c.from_residual.ensures (some_first _ (rw (c.network_on-on.ensures, c.count.ensures) at c.in_err-first.ensures.emits))

pub new-requires-clause-room : goal.new-requires-clause-room
new-requires-clause-room g c =
    let lines = g.L.DoubleLines.lines c.args.lines.now in
    let wires : ℕ = g.S.Sink.meaning.wires c.args.s.now in
    let first : c.in_ok-first.first ≡ wires =
    c.in_ok-first.ensures.emits.puts.answers ∙ network_fills.answer c.network_on-on.result wires (items_of (2 ^ g.row.W) lines) in
    rw (c.network_on-on.ensures, c.count.ensures) (omega (arith, first, c.requires.room.wires))

pub check_all-requires-clause-below : goal.check_all-requires-clause-below
check_all-requires-clause-below g c =
    let lines = g.L.DoubleLines.lines c.args.lines.now in
    let wires : ℕ = g.S.Sink.meaning.wires c.args.s.now in
    let first : c.in_ok-first.first ≡ wires =
    c.in_ok-first.ensures.emits.puts.answers ∙ network_fills.answer c.network_on-on.result wires (items_of (2 ^ g.row.W) lines) in
    rw (c.new.ensures.network, c.new.ensures.first) (omega (arith, first, c.in_ok-first.ensures.emits.grows.wires))

pub returns : goal.returns
unfolding argument_of
returns g c = record {
  emits = emits_in _ _ _ _ _ (omega arith) (omega arith)
      (then_in _ _ _ _ _ (rw (c.network_on-on.ensures, c.count.ensures) at c.in_ok-first.ensures.emits)
      (rw (c.new.ensures.network, c.new.ensures.first, c.network_on-on.ensures, c.count.ensures) at c.check_all.ensures.emits));
}
