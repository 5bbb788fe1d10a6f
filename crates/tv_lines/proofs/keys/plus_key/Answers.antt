use Rattle.tv_core.proofs.Common.{◌≡◌, ℕ, ◌-◌, ◌*◌, ◌%◌, ◌^◌, ◌≤◌, ◌∙◌, arith, pow-le-pow_right}
use Rattle.tv_core.specs.declared.field.TheConstants.{P}
use Rattle.tv_lines.proofs.keys.plus_key.Goals as goal

small_power : (n : ℕ) → n ≤ 20 → (1 * 2 ^ n % 2 ^ 64) % P ≡ 2 ^ n
small_power n h = let most : 2 ^ n ≤ 2 ^ 20 = pow-le-pow_right (omega arith) h in omega arith

pub returns-clause-terms : goal.returns-clause-terms
returns-clause-terms c =
    let power : c.of.result ≡ 2 ^ (20 - c.args.from) = c.of.ensures ∙ small_power (20 - c.args.from) (omega arith) in
    rw (c.plus.ensures.terms, c.requires.empty, power) at c.plus_less.ensures.terms
