use Rattle.tv_core.proofs.Common.{ℕ, List, Constraint}
use Rattle.tv_r1cs_read.specs.Held.{IsHeld}
use Rattle.tv_r1cs_read.specs.Places.{IsAt}
use Rattle.tv_r1cs_read.specs.Progress.{IsWithin, Reached, terms_given}
use Rattle.tv_r1cs_read.specs.Steps.{Fewer, Tried}
use Rattle.tv_r1cs_read.specs.declared.progress.Progress.TheInside.{Inside}
use Rattle.tv_r1cs_read.proofs.progress.Progress.try_rows.Given as goal

-- reading at this place, with `left` constraints left
abbrev pub reached : Inside → (at left : ℕ) → Reached
reached p at left = record {
  header = p.header;
  piece = p.window;
  at = at;
  left = left;
  terms = terms_given p.header at left;
  stopped = p.stopped;
}

abbrev pub invariant-loop-holds : goal.invariant-loop-holds
invariant-loop-holds g l = record {
  held : IsHeld l.self-inside.window l.bounds.end l.held;
  within : IsWithin l.self-inside.header l.held.from l.left;
  fewer : Fewer l.holds l.self-inside.left l.left;
  place : (file : List ℕ) (rows : List Constraint) → IsAt (reached l.self-inside l.self-inside.at l.self-inside.left) file rows →
      Tried l.holds l.values (reached l.self-inside l.self-inside.at l.self-inside.left) (reached l.self-inside l.held.from l.left) file rows;
}

abbrev pub decreases-loop-holds : goal.decreases-loop-holds
decreases-loop-holds g l = l.left
