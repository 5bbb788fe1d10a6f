use Rattle.std.proofs.Common.{length, ◌≡◌, false, ◌++◌, ◌∷◌, [], ◌∙◌, map, ap, ap₂, sym, refl, arith}
use Rattle.std.proofs.lemmas.List.{length-append}
use Rattle.tv_core.proofs.RowLaws.{constraints-push}
use Rattle.tv_core.specs.Circuits.{put}
use Rattle.tv_core.specs.Constraints.{Constraint}
use Rattle.tv_core.specs.Rows.{constraint_at}
use Rattle.tv_core.proofs.list_sink.ListSinkSink.put.Goals as goal

pub returns-in-Ok : goal.returns-in-Ok
unfolding put
returns-in-Ok c =
    let inside = c.self.inside in
    let it : Constraint = record { a = c.args.a.now; b = c.args.b.now; c = c.args.c.now } in
    let kept : map (constraint_at c.append.new.terms.items) c.append.new.rows.items ≡ map (constraint_at inside.terms.items) inside.rows.items ++ it ∷ [] =
    ap₂ (λ terms rows. map (constraint_at terms) rows) c.in-Ok.ensures.terms c.in-Ok.ensures.rows
    ∙ constraints-push inside.terms.items it.a it.b it.c inside.rows.items c.self.invariant.0 in
    record {
      emits = rw (← c.self.view_is) (record {
        puts = record {
          answers = refl;
          stands = λ list s. (kept ∙ ap (λ l. l ++ it ∷ []) s.0, s.1);
          next = refl;
          keeps = tt;
          faults = omega arith;
          wants = omega arith;
        };
        grows = record {
          wires = omega arith;
          constraints = ap length kept ∙ length-append _ _;
          whole = ap (λ s. s.broken) c.self.view_is ∙ c.requires.whole;
        };
      });
    }

pub returns-in-Err : goal.returns-in-Err
unfolding put
returns-in-Err c =
    let inside = c.self.inside in
    let it : Constraint = record { a = c.args.a.now; b = c.args.b.now; c = c.args.c.now } in
    let kept : map (constraint_at c.append.new.terms.items) c.append.new.rows.items ≡ map (constraint_at inside.terms.items) inside.rows.items =
    ap₂ (λ terms rows. map (constraint_at terms) rows) c.in-Err.ensures.err.0 c.in-Err.ensures.err.1 in
    let unbroken : inside.broken ≡ false = ap (λ s. s.broken) c.self.view_is ∙ c.requires.whole in
    record {
      emits = rw (← c.self.view_is) (record {
        front = [];
        refused = it;
        back = [];
        at = refl;
        tried = λ list s. (it, ap (λ l. l ++ it ∷ []) (sym s.0 ∙ sym kept));
        broken = refl;
        keeps = tt;
        cause = rw unbroken (omega arith);
        faults = omega arith;
        wants = rw unbroken (omega arith);
      });
    }
