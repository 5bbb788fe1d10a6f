use Rattle.std.proofs.Common.{◌≡◌, ℕ, ◌+◌, ◌*◌, ◌%◌, ◌++◌, ◌∙◌, ap, length, length-append, max}
use Rattle.std.proofs.lemmas.List.{take_all, length-map}
use Rattle.tv_core.proofs.CombinationLaws.{appended_multiple, top-append, top-scaled}
use Rattle.tv_core.specs.Combinations.{scaled, top}
use Rattle.tv_core.specs.declared.field.TheConstants.{P}
use Rattle.tv_core.proofs.combination.Lc.plus_scaled.Goals as goal

pub loop-coefficient-preserved : goal.loop-coefficient-preserved
loop-coefficient-preserved c =
    let i = c.loop-coefficient.coefficient-index in
    appended_multiple c.args.terms.now i c.loop-coefficient-item.result c.loop-coefficient-test.true c.loop-coefficient-item.is c.args.self.now
    c.loop-coefficient.self c.plus.new.self c.args.factor c.times.result c.times.ensures c.loop-coefficient.invariant c.plus.ensures.terms

pub returns : goal.returns
returns c =
    let x = c.args.self.now in
    let k = c.args.factor in
    let terms = c.args.terms.now in
    let is : c.loop-coefficient.self ≡ x ++ scaled k terms =
    c.loop-coefficient.invariant ∙ ap (λ y. x ++ scaled k y) (take_all c.loop-coefficient.coefficient-index terms c.loop-coefficient-test.false) in
    record {
      terms = is;
      len = ap length is ∙ length-append x (scaled k terms) ∙ ap (λ n. length x + n) (length-map {B = ℕ × ℕ} terms (λ (t : ℕ × ℕ). (k * t.0 % P, t.1)));
      top = ap top is ∙ top-append x (scaled k terms) ∙ ap (λ n. max (top x) n) (top-scaled k terms);
    }
