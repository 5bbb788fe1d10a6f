use Rattle.tv_core.proofs.Common.{◌≡◌, ℕ, ◌*◌, ◌<◌, Bool, List, length, refl, sym, ◌∙◌, ap, ap₂, subst, arith, take, drop, ◌++◌, None, Some, slice_index}
use Rattle.std.proofs.Common.{replicate}
use Rattle.std.proofs.Math.Seq.{take-append_seam}
use Rattle.std.proofs.lemmas.List.{length-replicate}
use Rattle.tv_route.proofs.Halves.{halves-long}
use Rattle.tv_route.proofs.PairLaws.{partners-long, partners_pair}
use Rattle.tv_route.specs.Route.{Mark, walk, walks, halves}
use Rattle.tv_route.proofs.marks.halves.Goals as goal

-- where something holds of a mark that holds of no settled one, it is `None`
only_none : (R : Mark → Type 0) → ((b : Bool) → R (Some b) → ⊥) → (y : Mark) → R y → y ≡ None
only_none R not_some None holds = refl
only_none R not_some (Some b) holds = absurd (not_some b holds)

pub settle-requires-clause-long : goal.settle-requires-clause-long
settle-requires-clause-long c = ap length (c.deref.ensures.value ∙ c.in_ok-partner.ensures) ∙ partners-long c.args.n c.args.p.now c.requires.permutes c.args.n

pub settle-requires-clause-within : goal.settle-requires-clause-within
settle-requires-clause-within c =
    let same = c.deref.ensures.value ∙ c.in_ok-partner.ensures in
    λ x h. subst (λ (l : List ℕ). slice_index l x < 2 * c.args.n) (sym same) ((partners_pair c.args.n c.args.p.now c.requires.permutes).below x h)

pub returns-clause-marks : goal.returns-clause-marks
returns-clause-marks c =
    let none : c.in_ok-marks.marks.items ≡ replicate (2 * c.args.n) None = c.in_ok-marks.ensures.items_if_clones_equal (only_none _ (λ b e. e)) in
    let ws = c.settle.new.marks in
    let first = slice_index c.args.p.now 0 in
    let is : ws ≡ halves c.args.p.now c.args.n =
    c.settle.ensures ∙ ap₂ (λ (q : List ℕ) (m : List Mark). walks q c.args.n c.args.n (walk q c.args.n first first m))
    (c.deref.ensures.value ∙ c.in_ok-partner.ensures) (c.as_mut_slice.ensures.value ∙ none) in
    let size : c.in_ok-marks.marks.len ≡ length ws =
    omega (
      arith,
      c.in_ok-marks.marks.ok.0,
      ap length is,
      halves-long c.args.n c.args.p.now c.requires.permutes c.requires.some,
      ap length none,
      length-replicate {A = Mark} (2 * c.args.n) None,
    ) in
    ap (λ k. take k (ws ++ drop (length ws) c.in_ok-marks.marks.items)) size ∙ take-append_seam ws (drop (length ws) c.in_ok-marks.marks.items) ∙ is

pub returns-clause-long : goal.returns-clause-long
returns-clause-long c = ap length (returns-clause-marks c) ∙ halves-long c.args.n c.args.p.now c.requires.permutes c.requires.some
