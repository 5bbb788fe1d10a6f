use Rattle.tv_core.proofs.Common.{common_steps, ◌≡◌, ◌+◌, ◌*◌, ◌%◌, ◌^◌, [], ◌∷◌, ◌++◌, sym, ◌∙◌, ap, ap₂, arith, add-one, append_assoc, scaled}
use Rattle.std.proofs.Math.Nat.{pow-suc, add-mod}
use Rattle.std.proofs.lemmas.List.{append-nil}
use Rattle.tv_core.specs.declared.field.TheConstants.{P}
use Rattle.tv_bits.proofs.BitNumbers.{scaled-bits-zero, scaled-bits-suc}
use Rattle.tv_bits.specs.Bits.{bits_combination}
use Rattle.tv_bits.proofs.bit_wires.Bits.plus_to.Goals as goal

pub loop-i-init : goal.loop-i-init
loop-i-init c = grind (arith, common_steps, scaled-bits-zero, append-nil)

pub loop-i-preserved : goal.loop-i-preserved
loop-i-preserved c =
    let k = c.args.factor in
    let twice : 2 ^ i + 2 ^ i ≡ 2 ^ (i + 1) = rw add-one (omega (arith, pow-suc 2 i)) in
    let both : k * 2 ^ i + k * 2 ^ i ≡ k * 2 ^ (i + 1) = omega (arith, ap (λ n. k * n) twice) in
    let term = rw c.offset.ensures at c.plus.ensures.terms in
    record {
      terms = term
          ∙ ap₂ (λ l n. l ++ (n, c.args.self.now.first + i) ∷ []) invariant.terms invariant.coefficient
          ∙ append_assoc c.args.lc.now (scaled k (bits_combination c.args.self.now.first i)) ((k * 2 ^ i % P, c.args.self.now.first + i) ∷ [])
          ∙ ap (λ l. c.args.lc.now ++ l) (rw add-one (sym (scaled-bits-suc k c.args.self.now.first i)));
      coefficient = c.add-coefficient.ensures ∙ ap (λ n. (n + n) % P) invariant.coefficient ∙ sym (add-mod (k * 2 ^ i) (k * 2 ^ i) P) ∙ ap (λ n. n % P) both;
      len = omega (arith, c.plus.ensures.len);
      made = omega (arith, c.plus.ensures.top, c.offset.ensures);
    }
  where
    open c.loop-i use {i, invariant}
