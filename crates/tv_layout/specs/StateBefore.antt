-- The state before a step, by the step's place.
use Rattle.std.specs.Prelude.{ℕ, zero, suc, ◌+◌, ◌*◌}
use Rattle.tv_block.specs.Complete.{block_made}
use Rattle.tv_block.specs.Places.{next_state}
use Rattle.tv_inputs.specs.declared.records.StateWires.{StateWires}
use Rattle.tv_layout.specs.Layout.{first_state}

-- the state before a step, where the first one's wires begin at `first`: the first state, or that after the step before
abbrev pub state_before : ℕ → ℕ → ℕ → ℕ → StateWires
state_before w zero_wires first zero = first_state zero_wires
state_before w zero_wires first (suc i) = next_state w (first + i * block_made w)
