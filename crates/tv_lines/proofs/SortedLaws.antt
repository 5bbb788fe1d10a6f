-- A sorted pair is sound.
use Rattle.tv_core.proofs.Common.{◌≡◌, ◌≢◌, ℕ, ◌+◌, ◌-◌, ◌*◌, ◌%◌, ◌<◌, sym, ◌∙◌, ap, arith, Meets-split, ◌>>=◌}
use Rattle.tv_bits.proofs.BitNumbers.{HasBits-small}
use Rattle.tv_bits.proofs.ZeroLaws.{zero_flag-zero, zero_flag-other}
use Rattle.tv_bits.specs.Zero.{zero_flag}
use Rattle.tv_core.proofs.DifferenceLaws.{same_of_minus}
use Rattle.tv_core.specs.declared.field.TheConstants.{P}
use Rattle.tv_lines.proofs.PairParts.{apart_sound, carried_sound, size_sound}
use Rattle.tv_lines.proofs.PrefixOrder.{rises_sound}
use Rattle.tv_lines.specs.SortedPair.{apart_of, carried_of, size_of, sorted_pair_of, cells_apart, SortedPairIsSound}

-- the rule of words, as numbers, c and d being the cells
module _ (c d n : ℕ) (small_c : c < P) (small_d : d < P) (small_n : n < P) where
  pub flag_same : c ≡ d → zero_flag ((d + (P - c)) % P) * n % P ≡ n
  flag_same same = ap (λ f. f * n % P) (zero_flag-zero ((d + (P - c)) % P) (omega arith)) ∙ omega arith

  pub flag_apart : c ≢ d → zero_flag ((d + (P - c)) % P) * n % P ≡ 0
  flag_apart apart =
      ap (λ f. f * n % P) (zero_flag-other ((d + (P - c)) % P) (λ none. apart (sym (same_of_minus d c small_d small_c none)))) ∙ omega arith

pub sorted_pair_sound : SortedPairIsSound
unfolding sorted_pair_of ◌>>=◌
sorted_pair_sound z next before after l m b a assigns sl sm meets =
    let apart = apart_of before after next in
    let carried = carried_of apart.answer before after apart.next in
    let size = size_of 11 carried.next in
    let one = Meets-split z apart.list _ meets in
    let two = Meets-split z carried.list _ one.1 in
    let three = Meets-split z size.list _ two.1 in
    let is = apart_sound z before after l m b a assigns sl sm next one.0 in
    let word = carried_sound z before after l m b a assigns sl sm apart.answer (cells_apart l m) apart.next is two.0 in
    let sized = size_sound z 11 carried.next (omega arith) assigns three.0 in
    let l_cell = HasBits-small sl.cell (omega arith) in
    let m_cell = HasBits-small sm.cell (omega arith) in
    let l_new = HasBits-small sl.new (omega arith) in
    record {
      rises = rises_sound z before after l m b a assigns sl sm apart.answer size.answer size.next is sized.0 sized.1 three.1;
      carried = λ same. sym word ∙ flag_same l.cell m.cell l.new l_cell m_cell l_new same;
      fresh = λ not. sym word ∙ flag_apart l.cell m.cell l.new l_cell m_cell l_new not;
    }
