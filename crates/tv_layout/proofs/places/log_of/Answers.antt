use Rattle.tv_core.proofs.Common.{◌≡◌, ℕ, zero, suc, ◌+◌, ◌-◌, ◌<◌, ◌≤◌, ◌^◌, true, false, refl, sym, ap, ◌∙◌, arith, subst, inl, inr}
use Rattle.std.specs.Prelude.{nat_le}
use Rattle.std.proofs.lemmas.Bool.Decides.{leb_tells}
use Rattle.tv_layout.proofs.Positions.{log_some}
use Rattle.tv_layout.specs.Places.{log_from, log_of}
use Rattle.tv_layout.proofs.places.log_of.Goals as goal

le_false : (a b : ℕ) → b < a → nat_le a b ≡ false
le_false a b h = elim (leb_tells a b) [ inl fits ↦ absurd (omega (arith, fits.1)) | inr over ↦ over.0 ]

le_true : (a b : ℕ) → a ≤ b → nat_le a b ≡ true
le_true a b h = elim (leb_tells a b) [ inl fits ↦ fits.0 | inr over ↦ absurd (omega (arith, over.1)) ]

-- one more turn, and none
log_more : (fuel k count : ℕ) → 2 ^ k < count → log_from (suc fuel) k count ≡ log_from fuel (k + 1) count
log_more fuel k count h = rw (le_false count (2 ^ k) h) refl

log_done : (fuel k count : ℕ) → count ≤ 2 ^ k → log_from fuel k count ≡ k
log_done zero k count h = refl
log_done (suc fuel) k count h = rw (le_true count (2 ^ k) h) refl

at_most : (k count : ℕ) → k ≤ 20 → count ≤ 2 ^ 20 → 2 ^ k < count → k < 20
at_most k count h fits more = elim (leb_tells 20 k) [
  | inl top ↦ let same : k ≡ 20 = omega (arith, top.1) in absurd (omega (arith, subst (λ n. 2 ^ n < count) same more))
  | inr below ↦ below.1
]

pub loop-k-preserved : goal.loop-k-preserved
loop-k-preserved c =
    let over : 2 ^ c.loop-k.k < c.args.count = omega arith in
    let below = at_most c.loop-k.k c.args.count c.loop-k.invariant.0 c.requires over in
    let same : 20 - c.loop-k.k ≡ suc (20 - (c.loop-k.k + 1)) = omega (arith, below) in (
      omega (arith, below),
      sym (log_more (20 - (c.loop-k.k + 1)) c.loop-k.k c.args.count over) ∙ ap (λ n. log_from n c.loop-k.k c.args.count) (sym same)
          ∙ c.loop-k.invariant.1,
    )

pub returns : goal.returns
unfolding log_of
returns c =
    let fits : c.args.count ≤ 2 ^ c.loop-k.k = omega arith in
    let is = sym (log_done (20 - c.loop-k.k) c.loop-k.k c.args.count fits) ∙ c.loop-k.invariant.1 in
    record { is = is; some = rw is (log_some c.args.count); few = omega arith; above = fits }
