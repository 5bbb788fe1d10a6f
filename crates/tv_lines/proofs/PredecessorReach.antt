-- How many bits a reach has, and that keys rise.
use Rattle.tv_core.proofs.Common.{◌-◌, ◌^◌, ◌<◌, ◌==◌, inl, inr, arith, cond_both}
use Rattle.tv_lines.specs.Predecessor.{FollowsReaches, FollowsRises}

pub follows_reaches : FollowsReaches
follows_reaches = record {
  far = λ p l range. cond_both (p.cell == l.cell) (l.time - p.time - 1) (l.cell - p.cell - 1) (λ r. r < 2 ^ 31) (λ same. omega (arith, range.time))
      (λ apart. omega (arith, range.cell));
  near = λ k p l next time. cond_both (p.cell == l.cell) (l.time - p.time - 1) (l.cell - p.cell - 1) (λ r. r < 2 ^ k) (λ same. omega arith)
      (λ apart. omega arith);
}

pub follows_rises : FollowsRises
follows_rises p l early late follows = elim follows.rises [ inl higher ↦ omega arith | inr both ↦ omega (arith, both.0, both.1) ]
