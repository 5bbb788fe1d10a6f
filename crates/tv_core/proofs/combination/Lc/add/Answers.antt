use Rattle.std.proofs.Common.{◌≡◌, ℕ, List, [], ◌∷◌, ◌++◌, length, ap, sym, ◌∙◌, arith}
use Rattle.std.proofs.lemmas.Bool.{eqb-true}
use Rattle.std.proofs.lemmas.List.Edits.{insert_end}
use Rattle.tv_core.specs.Constraints.{Combination}
use Rattle.tv_core.specs.Normal.{normal, place, put_at}
use Rattle.tv_core.proofs.Addition.{put_at-kept, put_at-none, added_apart, normal_of, length_of, top_of}
use Rattle.tv_core.proofs.combination.Lc.add.Goals.{Else-at-len}
use Rattle.tv_core.proofs.combination.Lc.add.Goals as goal

-- past the last term
past : (c : Else-at-len) (out : Combination) → out ≡ put_at c.args.coefficient c.args.wire (length c.args.self.now) c.args.self.now
    → out ≡ normal (c.args.self.now ++ (c.args.coefficient, c.args.wire) ∷ [])
past c out put =
    let x = c.args.self.now in
    let lent : c.terms.result.now ≡ x = c.terms.ensures.terms in
    let last : c.place-at.result ≡ length x = omega
    (arith, c.if-at-len.false, c.place-at.ensures.within, c.len.ensures.value, ap length c.self.view_is, ap length lent) in
    added_apart c.args.coefficient c.args.wire (length x) (0, 0) x out c.requires.normal
    (sym last ∙ c.place-at.ensures.place ∙ ap (place c.args.wire) lent) (λ h e. absurd (omega arith)) put

pub returns-then-at-len : goal.returns-then-at-len
returns-then-at-len c =
    let x = c.args.self.now in
    let t : List (ℕ × ℕ) = (c.args.coefficient, c.args.wire) ∷ [] in
    let is : c.add_at.new.self ≡ normal (x ++ t) = c.add_at.ensures in
    record {
      terms = is;
      normal = normal_of (x ++ t) c.add_at.new.self is;
      len = length_of x t c.add_at.new.self is;
      top = omega (arith, top_of x t c.add_at.new.self is);
    }

pub returns-then-ne : goal.returns-then-ne
returns-then-ne c =
    let x = c.args.self.now in
    let t : List (ℕ × ℕ) = (c.args.coefficient, c.args.wire) ∷ [] in
    let is : c.push.new.self.items ≡ normal (x ++ t) =
    past (goal.at.returns-then-ne c).Else-at-len c.push.new.self.items
    (c.push.ensures.items ∙ ap (λ l. l ++ t) c.self.view_is ∙ sym (insert_end x (c.args.coefficient, c.args.wire))
    ∙ sym (put_at-kept c.args.coefficient c.args.wire (length x) x (search arith) (search arith))) in
    record {
      terms = is;
      normal = normal_of (x ++ t) c.push.new.self.items is;
      len = length_of x t c.push.new.self.items is;
      top = omega (arith, top_of x t c.push.new.self.items is);
    }

pub returns-else-ne-clause-terms : goal.returns-else-ne-clause-terms
returns-else-ne-clause-terms c =
    past (goal.at.returns-else-ne-clause-terms c).Else-at-len c.args.self.now (search (arith, put_at-none, eqb-true))
