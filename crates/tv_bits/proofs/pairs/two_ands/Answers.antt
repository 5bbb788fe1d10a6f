use Rattle.tv_core.proofs.Common.{◌≡◌, ℕ, ◌*◌, ◌∙◌, ap, ap₂, arith, Combination}
use Rattle.tv_bits.specs.Pairs.{plus_times, negative, side, two_ands_of}
use Rattle.tv_bits.proofs.pairs.two_ands.Goals as goal

pub returns : goal.returns
unfolding two_ands_of
returns g c = record {
  emits =
      let set_number : ℕ → ℕ → Combination = side c.args.x_a.now c.args.y_a.now c.args.x_b.now c.args.y_b.now in
      let γ = c.args.gamma in
      let negated : c.neg.result ≡ negative γ = omega (arith, c.neg.ensures) in
      let squared : c.neg-2.result ≡ negative (γ * γ) = rw c.mul.ensures at c.neg-2.ensures in
      let right = c.set_side-2.ensures.terms ∙ ap (λ k. set_number k 1) negated in
      let base = c.set_side-3.ensures.terms ∙ ap₂ set_number squared c.of.ensures in
      let rest = c.plus_scaled.ensures.terms ∙ ap₂ (λ l k. plus_times l k c.args.m.now) base c.of-2.ensures in
      rw (c.set_side.ensures.terms, right, rest) at c.put.ensures.emits;
}

pub put-requires : goal.put-requires
put-requires g c = record {
  whole = c.requires.room.whole;
  room = omega (arith, c.requires.room.constraints);
  a_made = omega (arith, c.set_side.ensures.top, c.requires.a_made, c.requires.b_made, c.requires.room.constant);
  b_made = omega (arith, c.set_side-2.ensures.top, c.requires.a_made, c.requires.b_made, c.requires.room.constant);
  c_made =
      omega (arith, c.plus_scaled.ensures.top, c.set_side-3.ensures.top, c.requires.a_made, c.requires.b_made, c.requires.m_made, c.requires.room.constant);
}
