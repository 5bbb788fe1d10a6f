use Rattle.tv_core.proofs.Common.{arith, ap, Ok, rules}
use Rattle.tv_container.proofs.Pieces.{there_if_read, front_of, is_piece}
use Rattle.tv_container.proofs.window.Window.reach.Goals as goal

pub returns-clause-reads : goal.returns-clause-reads
returns-clause-reads g c =
    let held = c.in_ok-self-inside.ensures in
    let place = rw (← c.self.view_is) at c.go.ensures.at in
    record {
      looks = search rules;
      piece = λ file known piece.
          let start = front_of _ file _ _ _ (omega (arith, c.self.invariant)) (rw (← c.self.view_is) at (c.go.ensures.piece file piece)) place in
          is_piece _ file _ _ _ (omega (arith, held.within)) (held.piece file known start) place;
      gives = λ file known piece.
          let start = front_of _ file _ _ _ (omega (arith, c.self.invariant)) (rw (← c.self.view_is) at (c.go.ensures.piece file piece)) place in
          ap Ok (there_if_read _ file _ _ _ (omega (arith, held.within)) (held.piece file known start) (held.end file known) c.requires.some (omega arith));
    }
