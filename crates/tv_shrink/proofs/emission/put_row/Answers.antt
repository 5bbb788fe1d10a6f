use Rattle.tv_core.proofs.Common.{ap, arith, emits_no_turn, pure, subst, turns}
use Rattle.tv_shrink.specs.Tidy.{IsWithin, RowIsWithin}
use Rattle.tv_shrink.proofs.Read.{top_put}
use Rattle.tv_shrink.proofs.emission.put_row.Goals as goal

pub put-requires : goal.put-requires
put-requires g c =
    let n = g.S.Sink.meaning.wires c.args.s.now in
    let within : IsWithin n c.in-Some.row = subst (RowIsWithin n) c.in-Some.is c.requires.within in
    record {
      whole = c.requires.room.whole;
      room = omega (arith, c.requires.room.constraints);
      a_made = top_put n _ _ c.in-Some.row.a c.refill.ensures (ap (λ row. row.a) c.row.view_is) within.a;
      b_made = top_put n _ _ c.in-Some.row.b c.refill-2.ensures (ap (λ row. row.b) c.row.view_is) within.b;
      c_made = top_put n _ _ c.in-Some.row.c c.refill-3.ensures (ap (λ row. row.c) c.row.view_is) within.c;
    }

pub returns-in_default : goal.returns-in_default
unfolding turns
returns-in_default g c = record { emits = rw c.in_default.is (emits_no_turn (λ _ _. pure tt) tt c.requires.room.whole) }
