-- The first values of an assignment, where it has no more.
use Rattle.tv_core.proofs.Common.{◌≡◌, ℕ, ◌≤◌, List, length, Result, Ok, Err, ap, sym, ◌∙◌, arith}
use Rattle.std.proofs.lemmas.List.{take_all}
use Rattle.tv_container.specs.Places.{Fault}
use Rattle.tv_wtns.specs.Wtns.{Firsts, firsts_of, firsts}

-- where no more values are counted than are kept, those that are kept are all
pub are_all : (most : ℕ) (answer : Result (List ℕ) Fault) (first : Firsts) → first.count ≤ most → firsts most answer ≡ Ok first → answer ≡ Ok first.values
are_all most (Ok z) first few is =
    let same : firsts_of most z ≡ first = cc in
    let counts : length z ≡ first.count = ap (λ (f : Firsts). f.count) same in
    ap Ok (sym (take_all most z (omega (arith, counts, few))) ∙ ap (λ (f : Firsts). f.values) same)
are_all most (Err fault) first few is = cc
