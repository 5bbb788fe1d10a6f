use Rattle.tv_core.proofs.Common.{◌≡◌, ℕ, Bool, not, if◌then◌else◌, suc, ◌+◌, ◌-◌, ◌*◌, ◌/◌, ◌%◌, ◌^◌, ◌==◌, sym, ◌∙◌, ap, ap₂, arith}
use Rattle.std.proofs.Math.Bool.{beq}
use Rattle.tv_benes.proofs.Sources.{source_zero, source_suc, half_place}
use Rattle.tv_benes.proofs.ThroughLaws.{above}
use Rattle.tv_benes.specs.Items.{bit_at}
use Rattle.tv_benes.specs.Through.{through, from, last_bit}
use Rattle.tv_benes.proofs.items.+source.Goals as goal

pub returns-then-h-eq0-clause-is : goal.returns-then-h-eq0-clause-is
returns-then-h-eq0-clause-is t c =
    let bit = bit_at c.args.bits.now in
    let flag = c.flag.ensures.is ∙ ap (λ b. if not (beq b (c.args.i % 2 == 1)) then 1 else 0) c.bit.ensures in
    ap (λ k. 2 * (c.args.i / 2) + k) flag ∙ sym (source_zero c.args.net bit c.args.i)
    ∙ ap (λ k. through c.args.net k bit (λ j. j) c.args.i) (sym c.if-h-eq0.true)

pub source-inner-requires : goal.source-inner-requires
source-inner-requires t c =
    let below = above c.args.net c.args.h c.if-h-eq0.false in
    (omega (arith, below.level), (omega arith, omega (arith, c.requires.within, below.size, below.level, ap (λ k. 2 ^ k) below.level)))

pub returns-clause-is : goal.returns-clause-is
returns-clause-is t c =
    let net = c.args.net in
    let below = above net c.args.h c.if-h-eq0.false in
    let k = c.args.h - 1 in
    let bit : ℕ → Bool = bit_at c.args.bits.now in
    let t : ℕ = c.source-inner.result in
    let lower : Bool = not (beq c.last_bit.result (c.args.i % 2 == 1)) in
    let power : c.long_power-n.result ≡ 2 ^ suc k = c.long_power-n.ensures.is ∙ ap (λ l. 2 ^ l) below.level in
    let last = c.last_bit.ensures ∙ ap₂ (λ (n s : ℕ). last_bit net (from (n + 2 * s) bit) (c.args.i / 2)) power c.level_switches-s.ensures.is in
    let which = ap (λ (x : Bool). not (beq x (c.args.i % 2 == 1))) last in
    let skipped = c.only_if.ensures ∙ ap (λ (n : ℕ). if lower then n else 0) c.level_switches-s.ensures.is in
    let first = c.bits_from.ensures ∙ ap₂ (λ (n s : ℕ). from (n + s) bit) power skipped in
    let inner = c.source-inner.ensures.is ∙ ap (λ (f : ℕ → Bool). through net k f (λ j. j) (c.args.i / 2)) first in
    ap (λ n. 2 * t + n) c.flag-2.ensures.is ∙ sym (half_place lower c.bit-2.result bit t (sym c.bit-2.ensures))
    ∙ sym (source_suc net k bit c.args.i t lower which inner)
    ∙ ap (λ l. through net l bit (λ j. j) c.args.i) (sym below.level)
