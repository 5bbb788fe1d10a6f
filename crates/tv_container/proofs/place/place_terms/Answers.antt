use Rattle.tv_core.proofs.Common.{◌≡◌, ℕ, ◌<◌, ◌++◌, get_or, take, append_assoc, sym, ap, ap₂, ◌∙◌, subst, arith}
use Rattle.std.proofs.lemmas.List.Elements.{All-more}
use Rattle.tv_core.specs.declared.field.TheConstants.{P}
use Rattle.tv_container.proofs.Buffers.{each_more}
use Rattle.tv_container.specs.Bytes.{eight_bytes, four_bytes, term_bytes, terms_bytes}
use Rattle.tv_container.proofs.place.place_terms.Goals as goal

pub loop-coefficient-preserved : goal.loop-coefficient-preserved
loop-coefficient-preserved c =
    let i = c.loop-coefficient.coefficient-index in
    let front = take c.args.start c.args.bytes.now in
    let others = terms_bytes (take i c.args.terms.now) in
    let last = four_bytes c.wire.inside.0 ++ eight_bytes c.number.result in
    let is : last ≡ term_bytes (get_or c.args.terms.now i c.loop-coefficient-item.result) =
    ap₂ (λ short long. four_bytes short ++ eight_bytes long) c.wire.view_is c.number.ensures.same ∙ ap term_bytes c.loop-coefficient-item.is in
    record {
      place = omega arith;
      bytes = c.place_pair.ensures
          ∙ ap (λ l. l ++ last) c.loop-coefficient.invariant.bytes
          ∙ append_assoc front others last
          ∙ ap (λ l. front ++ l) (sym (each_more term_bytes c.args.terms.now i c.loop-coefficient-item.result last (omega arith) is));
      canonical = All-more (λ t. t.0 < P) c.args.terms.now i c.loop-coefficient-item.result (omega arith)
          c.loop-coefficient.invariant.canonical (subst (λ (t : ℕ × ℕ). t.0 < P) c.loop-coefficient-item.is
          (rw c.number.ensures.same at c.number.ensures.below));
    }
