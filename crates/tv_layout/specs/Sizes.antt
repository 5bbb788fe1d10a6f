-- How many wires, constraints and terms a system has.
use Rattle.std.specs.Prelude.{◌≡◌, ℕ, ◌+◌, ◌-◌, ◌*◌, ◌^◌, ◌<◌, ◌≤◌, ◌==◌, if◌then◌else◌, length}
use Rattle.tv_stages.specs.declared.nets.Net.{Net}
use Rattle.tv_stages.specs.declared.nets.Net.TheVariants.{Benes, Waksman}
use Rattle.tv_block.specs.Block.{block_of}
use Rattle.tv_block.specs.Complete.{block_made, block_added}
use Rattle.tv_block.specs.Costs.{block_terms}
use Rattle.tv_core.specs.Constraints.{System}
use Rattle.tv_core.specs.Meanings.{terms_in}
use Rattle.tv_core.specs.declared.limits.TheConstants.{CELL_BITS}
use Rattle.tv_argument.specs.Checks.{check_made, check_added}
use Rattle.tv_argument.specs.Costs.{network_made}
use Rattle.tv_argument.specs.Memory.{argument_terms}
use Rattle.tv_argument.specs.declared.kinds.Kind.{Kind}
use Rattle.tv_argument.specs.declared.kinds.Kind.TheVariants.{ZeroOld, Boot, Within}
use Rattle.tv_layout.specs.Checks.{first_kind, checks_of}
use Rattle.tv_layout.specs.declared.totals.CheckCosts.{CheckCosts}
use Rattle.tv_layout.specs.Layout.{own_lines}
use Rattle.tv_layout.specs.Places.{ProgramRuns, WithinLimits, line_count, log_of, memory_at}
use Rattle.tv_layout.specs.Systems.{system_of}
use Rattle.tv_layout.specs.declared.places.TheConstants.{STATE_WIRES}

-- ---- the checks of all lines
-- what checks cost, in wires or in constraints: of the first image word and of the first tape word, of each other word at
-- boot, and of the three lines of the first step and of each other step
abbrev pub costs_are : ℕ → ℕ → ℕ → ℕ → ℕ → CheckCosts
costs_are image_word tape_word boot_word first_step step =
    record { image_word = image_word; tape_word = tape_word; boot_word = boot_word; first_step = first_step; step = step }

-- the same by what a check of each kind costs
module _ (cost : Kind → ℕ) where
  abbrev pub step_cost : ℕ → Kind → ℕ
  step_cost k first = cost first + (cost (Within k) + cost (Within CELL_BITS))

  abbrev pub check_costs : ℕ → ℕ → CheckCosts
  check_costs k words =
      costs_are (cost ZeroOld) (cost (Within CELL_BITS)) (cost (Boot 0)) (step_cost k (first_kind words 0)) (step_cost k (Within CELL_BITS))

-- n in a row, of which the first costs something else
abbrev pub in_row : ℕ → ℕ → ℕ → ℕ
in_row n first other = if n == 0 then 0 else first + (n - 1) * other

-- of an image's and a tape's words and of t steps
abbrev pub checks_total : CheckCosts → ℕ → ℕ → ℕ → ℕ
checks_total of words n t = in_row words of.image_word of.boot_word + in_row n of.tape_word of.boot_word + in_row t of.first_step of.step

-- so cheap that sums are far below 2 ^ 64
pub record AreCheap (of : CheckCosts) : Type 0 where
  pub image_word : of.image_word ≤ 2 ^ 10
  pub tape_word : of.tape_word ≤ 2 ^ 10
  pub boot_word : of.boot_word ≤ 2 ^ 10
  pub first_step : of.first_step ≤ 2 ^ 10
  pub step : of.step ≤ 2 ^ 10

abbrev pub of_system : (Kind → ℕ) → ProgramRuns → ℕ
of_system cost runs =
    checks_total (check_costs cost (log_of (line_count runs)) (length runs.image)) (length runs.image) runs.n runs.t

-- ---- the memory argument: its network and its checks
abbrev pub memory_wires : Net → ProgramRuns → ℕ
memory_wires net runs = network_made net (line_count runs) + of_system check_made runs

abbrev pub memory_constraints : Net → ProgramRuns → ℕ
memory_constraints net runs = network_made net (line_count runs) + of_system check_added runs

-- ---- what is emitted
-- the wires after the public ones: the bits of the tape's words, the first state's, the steps, and the memory argument
abbrev pub system_made : Net → ProgramRuns → ℕ
system_made net runs = runs.n * runs.width + STATE_WIRES + runs.t * block_made runs.width + memory_wires net runs

-- the constraints: of the tape's words, of the first state, of the steps, of the last one, and of the memory argument
abbrev pub system_added : Net → ProgramRuns → ℕ
system_added net runs = runs.n * (runs.width + 1) + STATE_WIRES + runs.t * block_added runs.width + 2 + memory_constraints net runs

-- the terms of the constraints, of the same parts: those of the memory argument are a sum over its switches and lines
abbrev pub system_terms : Net → ProgramRuns → ℕ
system_terms net runs =
    runs.n * (4 * runs.width + 2) + 2 * STATE_WIRES + runs.t * block_terms runs.width runs.n + 6
    + argument_terms net (checks_of runs) (memory_at runs) (own_lines (block_of runs.width) runs)

-- ---- what it is at most
abbrev pub network_most : Net → ℕ → ℕ
network_most Benes k = 5 * 2 ^ k * (2 * k - 1)
network_most Waksman k = 10 * (2 ^ k * (k - 1) + 1)

-- with 2 ^ k lines, n words of the tape and t steps
abbrev pub size_most : Net → ℕ → ℕ → ℕ → ℕ
size_most net k n t = 2048 * t + network_most net k + 200 * 2 ^ k + 40 * (n + 1) + 64

abbrev pub system_most : Net → ProgramRuns → ℕ
system_most net runs = size_most net (log_of (line_count runs)) runs.n runs.t

-- The counts of a system within the limits, and at most: wires and constraints by the number of lines, and terms up to
-- the sum over switches and lines. They are numbers of 32 bits, and of 60 bits.
pub record IsSized (net : Net) (runs : ProgramRuns) (system : System) : Type 0 where
  pub wires : system.wires ≡ 2 + runs.n + system_made net runs
  pub constraints : length system.constraints ≡ system_added net runs
  pub terms : terms_in system.constraints ≡ system_terms net runs
  pub wires_most : system.wires ≤ system_most net runs
  pub constraints_most : length system.constraints ≤ system_most net runs
  pub wires_fit : system.wires < 2 ^ 32
  pub constraints_fit : length system.constraints < 2 ^ 32
  pub terms_fit : terms_in system.constraints < 2 ^ 60

abbrev pub SystemIsSized : Type 0
SystemIsSized = (net : Net) (runs : ProgramRuns) → WithinLimits runs → IsSized net runs (system_of net runs)
