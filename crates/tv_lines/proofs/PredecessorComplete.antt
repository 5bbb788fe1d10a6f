-- A line that follows is complete.
use Rattle.tv_core.proofs.Common.{◌≡◌, ◌⊎◌, ℕ, ◌+◌, ◌-◌, ◌*◌, ◌%◌, ◌^◌, ◌<◌, ◌≤◌, ◌==◌, Bool, true, false, if◌then◌else◌, List, [], ◌∷◌, length, inl, inr, refl}
use Rattle.tv_core.proofs.Common.{sym, subst, ◌∙◌, ap, arith, pow-le-pow_right, eqb-true, bit_at, slice_index, length-each_below, value-wire, Meets-join}
use Rattle.tv_core.proofs.Common.{HasFrom-split, put, ◌>>=◌, wire, value, Assigns, Meets, HasFrom, Line}
use Rattle.std.proofs.lemmas.Bool.{eqb-false}
use Rattle.tv_bits.specs.Bits.{HasBits, bits_values, new_bits_of}
use Rattle.tv_bits.specs.Times.{kept_of}
use Rattle.tv_bits.specs.declared.bit_wires.Bits.{Bits}
use Rattle.tv_bits.proofs.BitNumbers.{HasBits-from_values}
use Rattle.tv_bits.proofs.BitsLaws.{new_bits_answer, new_bits_next, new_bits_complete}
use Rattle.tv_bits.proofs.TimesLaws.{kept_answer, kept_complete}
use Rattle.tv_core.specs.declared.field.TheConstants.{P}
use Rattle.tv_core.specs.declared.lines.LineLc.{LineLc}
use Rattle.tv_core.specs.declared.lines.Pair.{Pair}
use Rattle.tv_core.specs.declared.lines.PairNum.{PairNum}
use Rattle.tv_lines.specs.Ordered.{Follows}
use Rattle.tv_lines.specs.PackedLines.{LineInRange}
use Rattle.tv_lines.proofs.PredecessorValues.{value-excess, value-cells, value-times}
use Rattle.tv_lines.specs.Predecessor.{excess, cell_difference, time_difference, either_of, follows_of, reach_between, excess_between, FollowsIsComplete}

-- ---- the values in their two cases
-- what the three constraints ask of two numbers
record Fit (p l : Line) (r e : ℕ) : Type 0 where
  is : e ≡ (2 ^ 32 * (r + 1 + p.cell) + (P - (2 ^ 32 * l.cell + l.old))) % P
  either : (e ≡ 0) ⊎ (((2 ^ 32 * p.cell + (P - 2 ^ 32 * l.cell)) % P ≡ 0) × (((e + (2 ^ 32 * p.time + p.new)) % P + (P - 2 ^ 32 * l.time)) % P ≡ 0))

-- the numbers alone
excess_number : (c s t o n : ℕ) → c < 2 ^ 31 → s < t → t < 2 ^ 20 → o < 2 ^ 32 → o ≡ n
    → 2 ^ 32 * (t - s) - o ≡ (2 ^ 32 * (t - s - 1 + 1 + c) + (P - (2 ^ 32 * c + o))) % P
excess_number c s t o n h i j k e = omega arith

excess_time : (s t o n : ℕ) → s < t → t < 2 ^ 20 → o < 2 ^ 32 → o ≡ n → ((2 ^ 32 * (t - s) - o + (2 ^ 32 * s + n)) % P + (P - 2 ^ 32 * t)) % P ≡ 0
excess_time s t o n i j k e = omega arith

fit : (p l : Line) → LineInRange p → LineInRange l → Follows p l → Fit p l (reach_between p l) (excess_between p l)
fit p l in_p in_l follows = by (p.cell == l.cell) refl
  where
    by : (b : Bool) → (p.cell == l.cell) ≡ b
        → Fit p l (if b then l.time - p.time - 1 else l.cell - p.cell - 1) (if b then 2 ^ 32 * (l.time - p.time) - l.old else 0)
    by true e =
        let same = eqb-true p.cell l.cell e in
        let lt : p.time < l.time = omega (arith, follows.rises) in
        let word = follows.carried same in
        record {
          is = excess_number l.cell p.time l.time l.old p.new in_l.cell lt in_l.time in_l.old word
              ∙ ap (λ c. (2 ^ 32 * (l.time - p.time - 1 + 1 + c) + (P - (2 ^ 32 * l.cell + l.old))) % P) (sym same);
          either = inr (omega (arith, same, in_l.cell), excess_time p.time l.time l.old p.new lt in_l.time in_l.old word);
        }
    by false e =
        let apart = eqb-false p.cell l.cell e in
        let lt : p.cell < l.cell = omega (arith, follows.rises) in
        let word = follows.fresh apart in
        record { is = omega (arith, in_l.cell); either = inl refl }

-- ---- the circuit
either_complete : (z : List ℕ) (next e : ℕ) (line : LineLc) (item : Pair) → Assigns z
    → (slice_index z e ≡ 0) ⊎ ((value (cell_difference line item) z ≡ 0) × (value (time_difference e line item) z ≡ 0)) → Meets z
    (either_of e line item next).list
unfolding either_of put ◌>>=◌
either_complete z next e line item assigns (inl none) =
    let is = value-wire assigns e ∙ none in
    (ap (λ n. n * value (cell_difference line item) z % P) is ∙ omega arith, (ap (λ n. n * value (time_difference e line item) z % P) is ∙ omega arith, tt))
either_complete z next e line item assigns (inr (cells, times)) =
    (ap (λ n. value (wire e) z * n % P) cells ∙ omega arith, (ap (λ n. value (wire e) z * n % P) times ∙ omega arith, tt))

pub follows_complete : FollowsIsComplete
unfolding follows_of ◌>>=◌
follows_complete z next m line item p l short assigns is_l is_p in_p in_l follows fits has =
    let reach = new_bits_of m next in
    let kept = kept_of (excess reach.answer line item) reach.next in
    let r : ℕ = reach_between p l in
    let e : ℕ = excess_between p l in
    let both = HasFrom-split z next (bits_values r m) (e ∷ []) has in
    let at : next + length (bits_values r m) ≡ reach.next = ap (λ n. next + n) (length-each_below m (bit_at r)) ∙ sym (new_bits_next m next) in
    let there : slice_index z reach.next ≡ e = (subst (λ n. HasFrom z n (e ∷ [])) at both.1).0 in
    let there' : slice_index z kept.answer ≡ e = ap (λ w. slice_index z w) (kept_answer (excess reach.answer line item) reach.next) ∙ there in
    let s : HasBits z reach.answer.first m r = subst (λ (b : Bits). HasBits z b.first m r) (sym (new_bits_answer m next))
    (HasBits-from_values z next m r fits both.0) in
    let n : reach.answer.n ≡ m = ap (λ (b : Bits). b.n) (new_bits_answer m next) in
    let power : 2 ^ m ≤ 2 ^ 31 = pow-le-pow_right (omega arith) short in
    let small : r < 2 ^ 31 = omega (arith, fits) in
    let is_first : value item.first z ≡ 2 ^ 32 * p.cell = ap (λ (x : PairNum). x.first) is_p ∙ omega arith in
    let is_second : value item.second z ≡ 2 ^ 32 * p.time + p.new = ap (λ (x : PairNum). x.second) is_p ∙ omega arith in
    let is_cell : value line.cell z ≡ l.cell = ap (λ (x : Line). x.cell) is_l in
    let is_time : value line.time z ≡ l.time = ap (λ (x : Line). x.time) is_l in
    let is_old : value line.old z ≡ l.old = ap (λ (x : Line). x.old) is_l in
    let f : Fit p l r e = fit p l in_p in_l follows in
    let sum = value-excess z line item assigns reach.answer m r p.cell l.old l.cell n short small s is_first is_old is_cell in_p.cell in_l.old in_l.cell in
    let cells = value-cells z line item assigns p.cell l.cell is_first is_cell in_l.cell in
    let times = value-times z line item assigns kept.answer e _ l.time there' is_second is_time (omega (arith, in_l.time)) in
    Meets-join z reach.list _ (new_bits_complete z next m r assigns both.0)
    (Meets-join z kept.list _ (kept_complete z reach.next (excess reach.answer line item) assigns (there ∙ f.is ∙ sym sum, tt))
    (either_complete z kept.next kept.answer line item assigns
    (elim f.either [ inl none ↦ inl (there' ∙ none) | inr two ↦ inr (cells ∙ two.0, times ∙ two.1) ])))
