-- What the code keeps of a stage.
use Rattle.std.specs.Prelude.{◌≡◌, ℕ, ◌^◌, ◌<◌, ◌≤◌}
use Rattle.tv_stages.specs.Stages.{stage_count, depth, number_count, gap_start, gap_size}
use Rattle.tv_stages.specs.declared.nets.Net.{Net}

-- the depth d of stage l, the count n of its numbers, and where a gap of g numbers begins
pub record IsStage (net : Net) (L l d n start g : ℕ) : Type 0 where
  pub small : L ≤ 2 ^ 31
  pub within : l < stage_count L
  pub deep : d ≡ depth L l
  pub numbers : n ≡ number_count L l
  pub starts : start ≡ gap_start L l
  pub gap : g ≡ gap_size net L l
