-- What the code knows of a network's items, and of its stages.
use Rattle.std.specs.Prelude.{◌≡◌, ℕ, ◌+◌, ◌^◌, ◌<◌, ◌≤◌, List, length, get_or}
use Rattle.tv_core.specs.declared.lines.Pair.{Pair}
use Rattle.tv_network.specs.Stages.{form_of, stages_wires, wires_before}
use Rattle.tv_network.specs.Switches.{ArePairsMade}
use Rattle.tv_network.specs.declared.levels.Level.{Level}
use Rattle.tv_network.specs.declared.shape.Network.{Network}
use Rattle.tv_stages.specs.Stages.{stage_count}

-- items for a network: few enough of them, with at most 15 terms a combination, over wires below `wires`
pub record AreItems (n : Network) (pair : ℕ → Pair) (count wires : ℕ) : Type 0 where
  pub rate : 1 ≤ n.rate
  pub few : n.items ≤ 2 ^ 25
  pub all : n.items ≤ count
  pub made : ArePairsMade 15 pair n.items wires

-- what the code keeps of stage l of a network whose wires begin at `first`
pub record IsLevel (n : Network) (first l : ℕ) (level : Level) : Type 0 where
  pub net : level.stage.net ≡ n.net
  pub slots : level.stage.slots ≡ n.items
  pub number : level.stage.number ≡ l
  pub form : level.form ≡ form_of n l
  pub start : level.start ≡ first + wires_before n l

-- the first of these are the network's stages
pub record AreLevels (n : Network) (first : ℕ) (levels : List Level) : Type 0 where
  pub few : n.items ≤ 2 ^ 25
  pub below : first + stages_wires n < 2 ^ 32
  pub long : length levels ≡ 49
  pub each : (l : ℕ) (level : Level) → l < stage_count n.items → level ≡ get_or levels l level → IsLevel n first l level
