use Rattle.tv_core.proofs.Common.{◌≡◌, ◌+◌, ◌-◌, ◌*◌, ◌<◌, ◌≤◌, ℕ, List, length, arith, sym, refl, ◌∙◌, cases_lt}
use Rattle.std.proofs.Common.{⊎_elim}
use Rattle.std.proofs.lemmas.List.Elements.{All-push}
use Rattle.tv_core.specs.declared.field.TheConstants.{P}
use Rattle.tv_wtns.specs.Values.{AreWords}
use Rattle.tv_wtns.proofs.Ahead.{goes_in, goes_by, no_residue}
use Rattle.tv_wtns.proofs.values.take_values.Goals as goal
use Rattle.tv_wtns.proofs.values.take_values.Goals.{then-len-most+in_ok-push, else-len-most}

pub returns-in_default-clause-gives : goal.returns-in_default-clause-gives
returns-in_default-clause-gives c = λ file words answer n enough ahead.
    let left : n - c.loop-index.index ≡ n - (c.loop-index.index + 1) + 1 = omega (arith, c.loop-index-test.true) in
    no_residue answer _ _ file _ _ _ _ (c.loop-index.invariant.ahead file words answer n enough ahead) left
    (sym (c.number_of.ensures ∙ words.words_are c.loop-index.index _ c.loop-index-test.true)) (c.in_default.ensures.none.0 refl)

pub loop-index-preserved : goal.loop-index-preserved
loop-index-preserved c =
    let canonical : c.number_of.result < P = ⊎_elim (λ below. below) (λ above. cc (c.in-Some.ensures.none.1 above)) (cases_lt c.number_of.result P) in
    let here = λ (file : List ℕ) (words : AreWords c.args.words.now file c.args.at). sym
    (c.number_of.ensures ∙ words.words_are c.loop-index.index _ c.loop-index-test.true) in
    let left = λ (n : ℕ) (enough : length c.args.words.now ≤ n). let one : n - c.loop-index.index
    ≡ n - (c.loop-index.index + 1) + 1 = omega (arith, c.loop-index-test.true) in one in
    let next : c.args.at + 8 * c.loop-index.index + 8 ≡ c.args.at + 8 * (c.loop-index.index + 1) = omega arith in
    elim c.if-len-most.branch [
      | then-len-most+in_ok-push w ↦ rw (w.values-is, w.in_ok-push.ensures.items, c.in-Some.ensures.some) record {
        ahead = λ file words answer n enough ahead.
            rw (← next) (goes_in answer _ _ file _ _ _ _ (c.loop-index.invariant.ahead file words answer n enough ahead) (left n enough)
            (here file words) canonical (omega (arith, w.if-len-most.true, c.len.ensures)));
        below = λ old. All-push (λ v. v < P) _ _ (c.loop-index.invariant.below old) canonical;
      }
      | else-len-most w ↦ rw w.values-is record {
        ahead = λ file words answer n enough ahead.
            rw (← next) (goes_by answer _ _ file _ _ _ _ (c.loop-index.invariant.ahead file words answer n enough ahead) (left n enough)
            (here file words) canonical (omega (arith, w.if-len-most.false, c.len.ensures)));
        below = c.loop-index.invariant.below;
      }
    ]
