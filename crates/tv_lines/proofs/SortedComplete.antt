-- A sorted pair is complete.
use Rattle.tv_core.proofs.Common.{◌≡◌, ℕ, ◌+◌, ◌-◌, List, [], ◌∷◌, ◌++◌, length, inl, inr, sym, ◌∙◌, ap, subst, arith, slice_index, cases_eq, length-append}
use Rattle.tv_core.proofs.Common.{bit_at, length-each_below, Meets-join, HasFrom-split, ◌>>=◌, HasFrom}
use Rattle.tv_bits.proofs.BitNumbers.{HasBits-small}
use Rattle.tv_bits.specs.Bits.{bits_values}
use Rattle.tv_bits.specs.Prefixes.{products_values}
use Rattle.tv_bits.specs.Zero.{zero_values}
use Rattle.tv_lines.proofs.PairParts.{apart_answer, apart_next, apart_complete, carried_next, carried_complete, size_next, size_complete}
use Rattle.tv_lines.proofs.PrefixOrder.{is_size, rises_complete}
use Rattle.tv_lines.proofs.SortedLaws.{flag_same, flag_apart}
use Rattle.tv_lines.specs.SortedPair.{apart_of, carried_of, size_of, sorted_pair_of, cells_apart, size, size_values, factor_in, SortedPairIsComplete}

pub size_many : (v : ℕ) → length (size_values v) ≡ 12
size_many v = length-append (bits_values (v - 1) 11) (v ∷ []) ∙ ap (λ n. n + 1) (length-each_below 11 (bit_at (v - 1)))

pub sorted_pair_complete : SortedPairIsComplete
unfolding sorted_pair_of ◌>>=◌
sorted_pair_complete z next before after l m b a assigns sl sm follows has =
    let apart = apart_of before after next in
    let carried = carried_of apart.answer before after apart.next in
    let sized = size_of 11 carried.next in
    let x = cells_apart l m in
    let flags : List ℕ = zero_values x in
    let sizes : List ℕ = size_values (size l m) in
    let products : List ℕ = products_values (factor_in l m) 5 in
    let l_cell = HasBits-small sl.cell (omega arith) in
    let m_cell = HasBits-small sm.cell (omega arith) in
    let l_new = HasBits-small sl.new (omega arith) in
    let there : slice_index z next ≡ x = has.0 in
    let is : slice_index z apart.answer ≡ x = ap (λ w. slice_index z w) (apart_answer before after next) ∙ there in
    let one = HasFrom-split z (next + 1) flags (sizes ++ products) has.1 in
    let at_flags : next + 1 ≡ apart.next = sym (apart_next before after next) in
    let at_sizes : next + 1 + 2 ≡ carried.next = ap (λ n. n + 2) at_flags ∙ sym (carried_next apart.answer before after apart.next) in
    let two = HasFrom-split z (next + 1 + 2) sizes products one.1 in
    let at_products : next + 1 + 2 + length sizes ≡ sized.next = omega (arith, size_many (size l m), at_sizes, size_next 11 carried.next) in
    let s = is_size z before after l m b a assigns sl sm follows.rises in
    let size_met = size_complete z carried.next (size l m) s.some s.most assigns (subst (λ n. HasFrom z n sizes) at_sizes two.0) in
    Meets-join z apart.list _ (apart_complete z before after l m b a assigns sl sm next there)
    (Meets-join z carried.list _ (carried_complete z before after l m b a assigns sl sm apart.answer x apart.next is
    (elim (cases_eq l.cell m.cell) [
      | inl same ↦ flag_same l.cell m.cell l.new l_cell m_cell l_new same ∙ sym (follows.carried same)
      | inr apart ↦ flag_apart l.cell m.cell l.new l_cell m_cell l_new apart ∙ sym (follows.fresh apart)
    ]) (subst (λ n. HasFrom z n flags) at_flags one.0))
    (Meets-join z sized.list _ size_met.0
    (rises_complete z before after l m b a assigns sl sm apart.answer sized.answer sized.next is size_met.1 follows.rises
    (subst (λ n. HasFrom z n products) at_products two.1))))
