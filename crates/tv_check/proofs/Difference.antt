-- The first difference of two lists, place by place, as a loop looks for it.
use Rattle.tv_core.proofs.Common.{◌≡◌, ℕ, suc, ◌+◌, true, List, [], ◌∷◌, length, drop, Option, Some, refl, sym, ap, ◌∙◌, arith, nat_tests}
use Rattle.std.proofs.Common.{ltb, length-drop}
use Rattle.std.specs.Bool.{then_some}
use Rattle.std.specs.Option.{option_map}
use Rattle.std.proofs.Math.ListN.{drop_of_length-le}
use Rattle.tv_check.specs.Verdict.{first_difference}

-- the place found after the front that was compared
abbrev pub behind : ℕ → Option ℕ → Option ℕ
behind at place = option_map (λ k. at + k) place

longer : (at : ℕ) (ys : List ℕ) → behind at (first_difference [] ys) ≡ then_some (ltb 0 (length ys)) at
longer at [] = refl
longer at (y ∷ ys) = let yes : ltb 0 (suc (length ys)) ≡ true = grind (arith, nat_tests) in rw yes (ap (λ (n : ℕ). Some n) (omega arith))

pub is_done : (xs ys : List ℕ) (at : ℕ) (total : Option ℕ) → at ≡ length xs
    → behind at (first_difference (drop at xs) (drop at ys)) ≡ total → total ≡ then_some (ltb (length xs) (length ys)) (length xs)
is_done xs ys at total e so_far =
    let len = length-drop at ys in
    let test : ltb 0 (length (drop at ys)) ≡ ltb (length xs) (length ys) = grind (arith, nat_tests) in
    let one : behind at (first_difference (drop at xs) (drop at ys)) ≡ then_some (ltb (length xs) (length ys)) at
    = ap (λ l. behind at (first_difference l (drop at ys))) (drop_of_length-le xs (omega arith)) ∙ longer at (drop at ys) ∙ ap (λ b. then_some b at) test in
    sym so_far ∙ one ∙ ap (λ n. then_some (ltb (length xs) (length ys)) n) e
