use Rattle.tv_core.proofs.Common.{common_steps, ◌≡◌, ◌+◌, ◌%◌, ◌^◌, ◌++◌, length, sym, ◌∙◌, ap, ap₂, arith, add-one, pow-le-pow_right, scaled, top}
use Rattle.std.proofs.Math.Nat.{pow-suc, add-mod}
use Rattle.tv_core.specs.declared.field.TheConstants.{P}
use Rattle.tv_shift.specs.Thermometer.{mark, power_of}
use Rattle.tv_shift.proofs.thermometer.set_mark_power.Goals as goal

pub loop-i-init : goal.loop-i-init
unfolding power_of
loop-i-init c = grind (arith, common_steps, length)

pub plus_scaled-requires : goal.plus_scaled-requires
plus_scaled-requires c = grind (arith, common_steps, pow-le-pow_right, length)

pub loop-i-preserved : goal.loop-i-preserved
unfolding power_of
loop-i-preserved c =
    let marks = mark c.args.marks.now.bits c.args.marks.now.products c.args.k in
    let twice : 2 ^ i + 2 ^ i ≡ 2 ^ (i + 1) = rw add-one (omega (arith, pow-suc 2 i)) in
    record {
      terms = rw add-one (c.plus_scaled.ensures.terms
          ∙ ap₂ (λ l m. l ++ scaled c.loop-i.coefficient m) invariant.terms (c.terms.ensures.terms ∙ c.set_mark.ensures.terms)
          ∙ ap (λ n. power_of marks i ++ scaled n (marks i)) invariant.coefficient);
      coefficient = c.add-coefficient.ensures ∙ ap (λ n. (n + n) % P) invariant.coefficient ∙ sym (add-mod (2 ^ i) (2 ^ i) P) ∙ ap (λ n. n % P) twice;
      short = omega (arith, c.plus_scaled.ensures.len, ap length c.terms.ensures.terms, c.set_mark.ensures.len);
      made = omega (arith, c.plus_scaled.ensures.top, ap top c.terms.ensures.terms, c.set_mark.ensures.top);
    }
  where
    open c.loop-i use {i, invariant}
