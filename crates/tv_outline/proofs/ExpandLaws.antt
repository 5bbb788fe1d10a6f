-- A loop that puts the constraints of a list, one a turn.
use Rattle.tv_core.proofs.Common.{◌≡◌, List, [], ◌∷◌, ◌++◌, All, false, length, refl, subst, sym, ◌∙◌, arith, append_assoc}
use Rattle.std.proofs.lemmas.List.{drop_at, length_push}
use Rattle.std.proofs.lemmas.List.Elements.{All-drop, All-head, All-same}
use Rattle.tv_core.proofs.Chain.{puts_nothing, puts_then, puts_then_refused, refused_then}
use Rattle.tv_core.specs.Circuits.{pure, put, ◌>>=◌}
use Rattle.tv_core.specs.Constraints.{Constraint}
use Rattle.tv_core.specs.Sinks.{EmitsAll, Meaning, PutsSome}
use Rattle.tv_core.specs.declared.sink.SinkFault.{SinkFault}
use Rattle.tv_outline.specs.Expansion.{put_all}

module _ {S : Type 0} (m : Meaning S) where
  pub emits_none : (s : S) → m.broken s ≡ false → EmitsAll m s s (put_all []) 0 0 tt
  unfolding put_all pure
  emits_none s whole = record { puts = puts_nothing m s tt; grows = record { wires = omega arith; constraints = omega arith; whole = whole } }

  module _ (done : List Constraint) (it : Constraint) (old mid new : S) (before : EmitsAll m old mid (put_all done) 0 (length done) tt) where
    pub emits_more : EmitsAll m mid new (put it.a it.b it.c) 0 1 tt → EmitsAll m old new (put_all (done ++ it ∷ [])) 0 (length (done ++ it ∷ [])) tt
    unfolding put_all put ◌>>=◌
    emits_more next = record {
      puts = puts_then m (put_all done) (λ _. put it.a it.b it.c) old mid new tt tt before.puts next.puts;
      grows = record {
        wires = omega (arith, before.grows.wires, next.grows.wires);
        constraints = omega (arith, before.grows.constraints, next.grows.constraints, length_push done it);
        whole = next.grows.whole;
      };
    }

    pub refused_next : (rest all : List Constraint) (fault : SinkFault) → done ++ it ∷ rest ≡ all → PutsSome m mid new (put it.a it.b it.c) fault
        → PutsSome m old new (put_all all) fault
    unfolding put_all put ◌>>=◌
    refused_next rest all fault is next =
        let some = puts_then_refused m (put_all done) (λ _. put it.a it.b it.c) old mid new tt fault before.puts next in
        let more = refused_then m (put_all (done ++ it ∷ [])) (λ _. put_all rest) old new fault some in
        subst (λ l. PutsSome m old new (put_all l) fault) (append_assoc done (it ∷ []) rest ∙ is) more

-- what holds of each of a list holds of one in it
pub holds_next : (P : Constraint → Type 0) (done rest all : List Constraint) (it : Constraint) → done ++ it ∷ rest ≡ all → All P all → P it
holds_next P done rest all it is h =
    let joined : All P (done ++ it ∷ rest) = All-same P (done ++ it ∷ rest) all is h in
    All-head P it rest (All-same P (it ∷ rest) _ (sym (drop_at done (it ∷ rest) (length done) refl)) (All-drop P (length done) _ joined))
