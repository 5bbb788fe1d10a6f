use Rattle.tv_core.proofs.Common.{common_steps, ◌≡◌, suc, ◌+◌, ◌-◌, ◌^◌, [], ◌∷◌, ◌++◌, sym, ◌∙◌, ap, ap₂, arith, append_assoc}
use Rattle.std.proofs.Math.Nat.{pow-suc}
use Rattle.std.proofs.lemmas.List.{append-nil}
use Rattle.tv_core.specs.declared.field.TheConstants.{P}
use Rattle.tv_shift.specs.Thermometer.{both, mark}
use Rattle.tv_shift.proofs.MarkTerms.{mark-none, mark-low, mark-high}
use Rattle.tv_shift.proofs.thermometer.Marks.+plus_mark.Goals as goal

pub returns-then-k-eq0-clause-terms : goal.returns-then-k-eq0-clause-terms
returns-then-k-eq0-clause-terms t c = grind (arith, common_steps, append-nil, mark-none)

pub plus_both-requires-else-j-half-clause-there : goal.plus_both-requires-else-j-half-clause-there
plus_both-requires-else-j-half-clause-there t c =
    let same : suc (c.args.k - 1) ≡ c.args.k = omega arith in
    omega (arith, c.power-half.ensures, ap (λ k. 2 ^ k) same, pow-suc 2 (c.args.k - 1))

pub returns-then-j-half-clause-terms : goal.returns-then-j-half-clause-terms
returns-then-j-half-clause-terms t c =
    let bits = c.args.self.now.bits in
    let products = c.args.self.now.products in
    let k = c.args.k - 1 in
    let same : suc k ≡ c.args.k = omega arith in
    let low = mark-low bits products k c.args.j (omega (arith, c.power-half.ensures)) in
    let first = rw c.offset.ensures at c.plus.ensures.terms in
    let second = c.plus_both.ensures.terms ∙ ap₂ (λ l n. l ++ both products n k c.args.j) first c.neg.ensures in
    let third = c.plus_mark.ensures.terms ∙ ap (λ l. l ++ mark bits products k c.args.j) second in
    third
    ∙ append_assoc (c.args.lc.now ++ (1, bits + k) ∷ []) (both products (P - 1) k c.args.j) (mark bits products k c.args.j)
    ∙ append_assoc c.args.lc.now ((1, bits + k) ∷ []) (both products (P - 1) k c.args.j ++ mark bits products k c.args.j)
    ∙ ap (λ l. c.args.lc.now ++ l) (sym low ∙ ap (λ n. mark bits products n c.args.j) same)

pub returns-else-j-half-clause-terms : goal.returns-else-j-half-clause-terms
returns-else-j-half-clause-terms t c =
    let bits = c.args.self.now.bits in
    let products = c.args.self.now.products in
    let k = c.args.k - 1 in
    let same : suc k ≡ c.args.k = omega arith in
    let high = mark-high bits products k c.args.j (omega (arith, c.power-half.ensures)) in
    c.plus_both-else-j-half.ensures.terms
    ∙ ap (λ n. c.args.lc.now ++ both products 1 k (c.args.j - n)) c.power-half.ensures
    ∙ ap (λ l. c.args.lc.now ++ l) (sym high ∙ ap (λ n. mark bits products n c.args.j) same)
