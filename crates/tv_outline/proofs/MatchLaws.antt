-- The sink that tests against an outline, after one constraint more, and what it says in the end.
use Rattle.tv_core.proofs.Common.{◌≡◌, ◌≢◌, ◌+◌, List, [], ◌∷◌, ◌++◌, true, false, drop, sym, ◌∙◌, ap}
use Rattle.std.proofs.lemmas.List.{length_push}
use Rattle.tv_core.specs.Constraints.{Constraint}
use Rattle.tv_outline.proofs.ListLaws.{next_other, next_same, not_whole, nothing_over, still_other, whole}
use Rattle.tv_outline.specs.Expansion.{expansion_of}
use Rattle.tv_outline.specs.Matching.{IsMatched, Matched}

module _ (old new : Matched) (list : List Constraint) (it : Constraint) (outline : new.outline ≡ old.outline)
    (one_more : new.constraints ≡ old.constraints + 1) (before : IsMatched old list) where
  -- where all constraints so far were the expansion's, this one is tested
  pub IsMatched-tested : old.same ≡ true → new.left ≡ drop 1 old.left
      → (new.same ≡ true → old.left ≡ it ∷ drop 1 old.left) × (old.left ≡ it ∷ drop 1 old.left → new.same ≡ true)
      → IsMatched new (list ++ it ∷ [])
  IsMatched-tested same left test =
      let all = expansion_of old.outline in
      record {
        constraints = one_more ∙ ap (λ n. n + 1) before.constraints ∙ sym (length_push list it);
        same = λ on. ap (λ l. (list ++ it ∷ []) ++ l) left ∙ next_same list old.left all it (before.same same) (test.0 on) ∙ ap expansion_of (sym outline);
        other = λ off rest e. next_other list old.left all it (before.same same) (λ h. let on = test.1 h in absurd (cc)) rest (e ∙ ap expansion_of outline);
      }

  -- where one was another, it stays so
  pub IsMatched-other : old.same ≡ false → new.same ≡ false → IsMatched new (list ++ it ∷ [])
  IsMatched-other was is = record {
    constraints = one_more ∙ ap (λ n. n + 1) before.constraints ∙ sym (length_push list it);
    same = λ on. absurd (cc);
    other = λ off rest e. still_other list (expansion_of old.outline) it (before.other was) rest (e ∙ ap expansion_of outline);
  }

module _ (sink : Matched) (list : List Constraint) (stands : IsMatched sink list) where
  pub is_whole : sink.same ≡ true → sink.left ≡ [] → list ≡ expansion_of sink.outline
  is_whole same none = whole list sink.left (expansion_of sink.outline) (stands.same same) none

  pub is_other : sink.same ≡ false → list ≢ expansion_of sink.outline
  is_other same = not_whole list (expansion_of sink.outline) (stands.other same)

  pub is_part : sink.same ≡ true → sink.left ≢ [] → list ≢ expansion_of sink.outline
  is_part same some e = some (nothing_over list sink.left (expansion_of sink.outline) (stands.same same) e)
