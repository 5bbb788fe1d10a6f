use Rattle.tv_core.proofs.Common.{◌≡◌, false, arith}
use Rattle.tv_network.proofs.LastStage.{switch_wire, switch_below}
use Rattle.tv_network.proofs.SlotLaws.{no_switch}
use Rattle.tv_network.specs.Network.{is_loose}
use Rattle.tv_network.proofs.outputs.Outputs.wire.Goals as goal

pub overflow_mul-at : goal.overflow_mul-at
overflow_mul-at c =
    let s = c.args.self.now in
    let off : is_loose s.network c.args.slot ≡ false = no_switch (is_loose s.network c.args.slot) _ _ c.in-None.is c.loose_at.ensures in
    let is = switch_wire s.network c.args.slot c.requires off s.first in
    let below = switch_below s.network c.args.slot c.requires off s.first in
    omega (arith, is, below, s.are.stage, s.are.below, c.loose_count.ensures)

pub overflow_add-at : goal.overflow_add-at
overflow_add-at c =
    let s = c.args.self.now in
    let off : is_loose s.network c.args.slot ≡ false = no_switch (is_loose s.network c.args.slot) _ _ c.in-None.is c.loose_at.ensures in
    let is = switch_wire s.network c.args.slot c.requires off s.first in
    let below = switch_below s.network c.args.slot c.requires off s.first in
    omega (arith, is, below, s.are.stage, s.are.below, c.loose_count.ensures)

pub overflow_add-at-in-None : goal.overflow_add-at-in-None
overflow_add-at-in-None c =
    let s = c.args.self.now in
    let off : is_loose s.network c.args.slot ≡ false = no_switch (is_loose s.network c.args.slot) _ _ c.in-None.is c.loose_at.ensures in
    let is = switch_wire s.network c.args.slot c.requires off s.first in
    let below = switch_below s.network c.args.slot c.requires off s.first in
    omega (arith, is, below, s.are.stage, s.are.below, c.loose_count.ensures)

pub offset-requires-in-None : goal.offset-requires-in-None
offset-requires-in-None c =
    let s = c.args.self.now in
    let off : is_loose s.network c.args.slot ≡ false = no_switch (is_loose s.network c.args.slot) _ _ c.in-None.is c.loose_at.ensures in
    let is = switch_wire s.network c.args.slot c.requires off s.first in
    let below = switch_below s.network c.args.slot c.requires off s.first in
    omega (arith, is, below, s.are.stage, s.are.below, c.loose_count.ensures)

pub returns-in-None-clause-is : goal.returns-in-None-clause-is
returns-in-None-clause-is c =
    let s = c.args.self.now in
    let off : is_loose s.network c.args.slot ≡ false = no_switch (is_loose s.network c.args.slot) _ _ c.in-None.is c.loose_at.ensures in
    let is = switch_wire s.network c.args.slot c.requires off s.first in
    let below = switch_below s.network c.args.slot c.requires off s.first in
    omega (arith, is, below, s.are.stage, s.are.below, c.loose_count.ensures, c.offset-in-None.ensures)

pub returns-in-None-clause-room : goal.returns-in-None-clause-room
returns-in-None-clause-room c =
    let s = c.args.self.now in
    let off : is_loose s.network c.args.slot ≡ false = no_switch (is_loose s.network c.args.slot) _ _ c.in-None.is c.loose_at.ensures in
    let is = switch_wire s.network c.args.slot c.requires off s.first in
    let below = switch_below s.network c.args.slot c.requires off s.first in
    omega (arith, is, below, s.are.stage, s.are.below, c.loose_count.ensures, c.offset-in-None.ensures)
