use Rattle.tv_core.proofs.Common.{common_steps, ◌≡◌, ◌+◌, ◌*◌, ◌%◌, ◌^◌, [], ◌∷◌, ◌++◌, sym, ◌∙◌, ap, ap₂, arith, add-one, append_assoc}
use Rattle.std.proofs.Math.Nat.{pow-suc, mul_assoc}
use Rattle.std.proofs.lemmas.List.{append-nil}
use Rattle.std.proofs.lemmas.Nat.{mul-mod_first}
use Rattle.tv_core.proofs.BelowLaws.{weighted-zero, weighted-suc}
use Rattle.tv_core.specs.declared.field.TheConstants.{P}
use Rattle.tv_rows.specs.Digits.{digits_combination}
use Rattle.tv_rows.specs.declared.digits.TheConstants.{BASE}
use Rattle.tv_rows.proofs.digits.plus_digits.Goals as goal

pub loop-j-init : goal.loop-j-init
loop-j-init c = grind (arith, common_steps, weighted-zero, append-nil)

pub loop-j-preserved : goal.loop-j-preserved
loop-j-preserved c =
    let k = c.args.factor in
    let first = c.args.first in
    let more : k * BASE ^ j * BASE ≡ k * BASE ^ (j + 1) =
    mul_assoc k (BASE ^ j) BASE ∙ ap (λ n. k * n) (sym (pow-suc BASE j) ∙ ap (λ n. BASE ^ n) (sym (add-one j))) in
    let term = rw c.offset.ensures at c.plus.ensures.terms in
    record {
      terms = term
          ∙ ap₂ (λ l n. l ++ (n, first + j) ∷ []) invariant.terms invariant.coefficient
          ∙ append_assoc c.args.lc.now (digits_combination k first j) ((k * BASE ^ j % P, first + j) ∷ [])
          ∙ ap (λ l. c.args.lc.now ++ l) (rw add-one (sym (weighted-suc first j (λ j. k * BASE ^ j % P))));
      coefficient = c.mul-coefficient.ensures
          ∙ ap₂ (λ m n. m * n % P) invariant.coefficient c.from.ensures
          ∙ mul-mod_first (k * BASE ^ j) BASE P
          ∙ ap (λ n. n % P) more;
      len = omega (arith, c.plus.ensures.len);
      made = omega (arith, c.plus.ensures.top, c.offset.ensures);
    }
  where
    open c.loop-j use {j, invariant}
