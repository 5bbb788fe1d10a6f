-- Records of a step by their fields, what holds of its three lines, and a state that is one wire.
use Rattle.tv_core.proofs.Common.{◌≡◌, ℕ, zero, suc, ◌<◌, ◌≤◌, List, [], ◌∷◌, All, arith}
use Rattle.std.proofs.Common.{replicate}
use Rattle.std.proofs.lemmas.List.Elements.{All-nil, All-cons}
use Rattle.tv_core.specs.declared.lines.LineLc.{LineLc}
use Rattle.tv_bits.specs.Wires.{wires_top}
use Rattle.tv_inputs.specs.States.{StateUnder}
use Rattle.tv_inputs.specs.declared.records.Spot.{Spot}
use Rattle.tv_inputs.specs.declared.records.StateWires.{StateWires}
use Rattle.tv_block.specs.declared.records.Block.{Block}

abbrev state_from : ℕ → List ℕ → ℕ → ℕ → ℕ → StateWires
state_from pc regs flag taken ended = record { pc = pc; regs = regs; flag = flag; taken_of_primary = taken; aux_ended = ended }

pub same_state : (a1 b1 : ℕ) (a2 b2 : List ℕ) (a3 b3 a4 b4 a5 b5 : ℕ)
    → a1 ≡ b1 → a2 ≡ b2 → a3 ≡ b3 → a4 ≡ b4 → a5 ≡ b5 → state_from a1 a2 a3 a4 a5 ≡ state_from b1 b2 b3 b4 b5
same_state a1 b1 a2 b2 a3 b3 a4 b4 a5 b5 e1 e2 e3 e4 e5 = cc

abbrev wires_from : StateWires → LineLc → LineLc → LineLc → Spot → ℕ → ℕ → Block
wires_from next first second third spot answers value = record {
  next = next;
  lines = first ∷ second ∷ third ∷ [];
  spot = spot;
  answers = answers;
  value = value;
}

pub same_wires : (a b : StateWires) (c d e f g h : LineLc) (i j : Spot) (k l m n : ℕ) → a ≡ b → c ≡ d → e ≡ f → g ≡ h → i ≡ j → k ≡ l → m ≡ n
    → wires_from a c e g i k m ≡ wires_from b d f h j l n
same_wires a b c d e f g h i j k l m n e1 e2 e3 e4 e5 e6 e7 = cc

-- what holds of each of three
pub all_three : {A : Type 0} (Q : A → Type 0) (x y z : A) → Q x → Q y → Q z → All Q (x ∷ y ∷ z ∷ [])
all_three Q x y z p q r = All-cons Q x (y ∷ z ∷ []) p (All-cons Q y (z ∷ []) q (All-cons Q z [] r (All-nil Q)))

-- a state all of which is one wire
same_top : (k wires w : ℕ) → w < wires → wires_top (replicate k w) ≤ wires
same_top zero wires w h = omega arith
same_top (suc k) wires w h = let more = same_top k wires w h in omega arith

pub one_wire_under : (wires w : ℕ) → w < wires → StateUnder wires (state_from w (replicate 16 w) w w w)
one_wire_under wires w h = record { pc = h; regs = same_top 16 wires w h; flag = h; taken = h; ended = h }
