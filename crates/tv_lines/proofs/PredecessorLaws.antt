-- The laws of a line that follows.
use Rattle.tv_core.proofs.Common.{◌≡◌, ◌⊎◌, ℕ, ◌+◌, ◌-◌, ◌*◌, ◌%◌, ◌^◌, ◌<◌, ◌≤◌, List, inl, inr, sym, ◌∙◌, ap, arith, slice_index, pow-le-pow_right}
use Rattle.tv_core.proofs.Common.{value-wire, value-below, wire-below, Meets-split, put, ◌>>=◌, wire, Combination, value, Assigns, Meets, Line}
use Rattle.tv_bits.specs.Bits.{HasBits, binary_value, new_bits_of}
use Rattle.tv_bits.specs.Times.{kept_of}
use Rattle.tv_bits.specs.declared.bit_wires.Bits.{Bits}
use Rattle.tv_bits.proofs.BitNumbers.{HasBits-below}
use Rattle.tv_bits.proofs.BitsLaws.{new_bits_answer, new_bits_sound}
use Rattle.tv_bits.proofs.TimesLaws.{kept_sound}
use Rattle.tv_core.proofs.PrimeLaws.{p_zero_product_below}
use Rattle.tv_core.specs.declared.field.TheConstants.{P}
use Rattle.tv_core.specs.declared.lines.LineLc.{LineLc}
use Rattle.tv_core.specs.declared.lines.Pair.{Pair}
use Rattle.tv_core.specs.declared.lines.PairNum.{PairNum}
use Rattle.tv_lines.specs.Ordered.{Follows}
use Rattle.tv_lines.specs.PackedLines.{LineInRange}
use Rattle.tv_lines.proofs.PredecessorNumbers.{other_cells, same_cells, same_times}
use Rattle.tv_lines.proofs.PredecessorValues.{value-excess, value-cells, value-times}
use Rattle.tv_lines.specs.Predecessor.{excess, cell_difference, time_difference, either_of, follows_of, FollowsIsSound}

-- what e, the cells and the times are as numbers, and what follows from them
met_follows : (p l : Line) (r e : ℕ) → LineInRange p → LineInRange l → r < 2 ^ 31 → e ≡ (2 ^ 32 * (r + 1 + p.cell) + (P - (2 ^ 32 * l.cell + l.old))) % P
    → (e ≡ 0) ⊎ (((2 ^ 32 * p.cell + (P - 2 ^ 32 * l.cell)) % P ≡ 0) × (((e + (2 ^ 32 * p.time + p.new)) % P + (P - 2 ^ 32 * l.time)) % P ≡ 0))
    → Follows p l
met_follows p l r e in_p in_l small is (inl none) =
    let known = other_cells r p.cell l.cell l.old small in_p.cell in_l.cell in_l.old (sym is ∙ none) in
    record { rises = inl (omega (arith, known.1)); carried = λ same. absurd (omega (arith, known.1)); fresh = λ apart. known.0 }
met_follows p l r e in_p in_l small is (inr (cells, times)) =
    let same : p.cell ≡ l.cell = same_cells p.cell l.cell in_p.cell in_l.cell cells in
    let whole : ((2 ^ 32 * (r + 1 + l.cell) + (P - (2 ^ 32 * l.cell + l.old))) % P + (2 ^ 32 * p.time + p.new) + (P - 2 ^ 32 * l.time)) % P ≡ 0 =
    let is' : e ≡ (2 ^ 32 * (r + 1 + l.cell) + (P - (2 ^ 32 * l.cell + l.old))) % P = is
    ∙ ap (λ c. (2 ^ 32 * (r + 1 + c) + (P - (2 ^ 32 * l.cell + l.old))) % P) same in
    let added : (e + (2 ^ 32 * p.time + p.new) + (P - 2 ^ 32 * l.time)) % P ≡ 0 = omega (arith, times) in
    ap (λ x. (x + (2 ^ 32 * p.time + p.new) + (P - 2 ^ 32 * l.time)) % P) (sym is') ∙ added in
    let known = same_times r l.cell l.old l.time p.time p.new small in_l.cell in_l.old in_l.time in_p.time in_p.new whole in
    record { rises = inr (same, omega (arith, known.1)); carried = λ _. known.0; fresh = λ apart. absurd (apart same) }

pub either_sound : (z : List ℕ) (next e : ℕ) (line : LineLc) (item : Pair) → Assigns z → Meets z (either_of e line item next).list
    → (slice_index z e ≡ 0) ⊎ ((value (cell_difference line item) z ≡ 0) × (value (time_difference e line item) z ≡ 0))
unfolding either_of put ◌>>=◌
either_sound z next e line item assigns meets =
    let zero_product = λ (c : Combination) (met : value (wire e) z * value c z % P ≡ 0).
    p_zero_product_below (slice_index z e) (value c z) (wire-below assigns e) (value-below c z)
    (ap (λ n. n * value c z % P) (sym (value-wire assigns e)) ∙ met) in
    elim (zero_product (cell_difference line item) meets.0) [
      | inl none ↦ inl none
      | inr first ↦ elim (zero_product (time_difference e line item) meets.1.0) [ inl none ↦ inl none | inr second ↦ inr (first, second) ]
    ]

pub follows_sound : FollowsIsSound
unfolding follows_of ◌>>=◌
follows_sound z next m line item p l short assigns is_l is_p in_p in_l meets =
    let reach = new_bits_of m next in
    let kept = kept_of (excess reach.answer line item) reach.next in
    let one = Meets-split z reach.list _ meets in
    let two = Meets-split z kept.list _ one.1 in
    let r : ℕ = binary_value z reach.answer.first m in
    let s : HasBits z reach.answer.first m r = new_bits_sound z next m assigns one.0 in
    let n : reach.answer.n ≡ m = ap (λ (b : Bits). b.n) (new_bits_answer m next) in
    let power : 2 ^ m ≤ 2 ^ 31 = pow-le-pow_right (omega arith) short in
    let small : r < 2 ^ 31 = omega (arith, HasBits-below s) in
    let is_first : value item.first z ≡ 2 ^ 32 * p.cell = ap (λ (x : PairNum). x.first) is_p ∙ omega arith in
    let is_second : value item.second z ≡ 2 ^ 32 * p.time + p.new = ap (λ (x : PairNum). x.second) is_p ∙ omega arith in
    let is_cell : value line.cell z ≡ l.cell = ap (λ (x : Line). x.cell) is_l in
    let is_time : value line.time z ≡ l.time = ap (λ (x : Line). x.time) is_l in
    let is_old : value line.old z ≡ l.old = ap (λ (x : Line). x.old) is_l in
    let is_e : slice_index z kept.answer ≡ (2 ^ 32 * (r + 1 + p.cell) + (P - (2 ^ 32 * l.cell + l.old))) % P =
    kept_sound z reach.next (excess reach.answer line item) assigns two.0
    ∙ value-excess z line item assigns reach.answer m r p.cell l.old l.cell n short small s is_first is_old is_cell in_p.cell in_l.old in_l.cell in
    let cells = value-cells z line item assigns p.cell l.cell is_first is_cell in_l.cell in
    let times = value-times z line item assigns kept.answer (slice_index z kept.answer) _ l.time (λ i. slice_index z kept.answer) is_second is_time
    (omega (arith, in_l.time)) in
    met_follows p l r (slice_index z kept.answer) in_p in_l small is_e
    (elim (either_sound z kept.next kept.answer line item assigns two.1) [ inl none ↦ inl none | inr both ↦ inr (sym cells ∙ both.0, sym times ∙ both.1) ])
