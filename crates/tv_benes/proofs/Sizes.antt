-- Which wires the outputs of a network are, and that its values are in the field.
use Rattle.tv_core.proofs.Common.{◌≡◌, ℕ, zero, suc, ◌+◌, ◌-◌, ◌*◌, ◌/◌, ◌^◌, ◌<◌, ◌≤◌, Bool, true, false, [], ◌∷◌, sym, ◌∙◌, ap, subst, arith, inl, inr}
use Rattle.tv_core.proofs.Common.{cases_eq, here, pure, ◌>>=◌, InField}
use Rattle.std.proofs.lemmas.List.Elements.{All-nil, All-cons, All-append}
use Rattle.std.proofs.lemmas.Nat.{pow_pos}
use Rattle.tv_benes.proofs.EndLaws.{output_zero, output_one, output_other}
use Rattle.tv_benes.proofs.NetworkComplete.{network_values-length}
use Rattle.tv_benes.proofs.NetworkLaws.{column_next, network_next}
use Rattle.tv_benes.proofs.ThroughLaws.{missing_small, alternating_keeps, upper_keeps, lower_keeps, through_keeps}
use Rattle.tv_benes.specs.Network.{column_of, network_of, last_column_of, switch_values, column_values, network_values, NetworkFills}
use Rattle.tv_benes.specs.Places.{fifth, row, column_outputs, last_outputs, last_pair, AreBelow}
use Rattle.tv_benes.specs.Through.{switches, missing, from, to_upper, to_lower, alternating, through}
use Rattle.tv_benes.specs.declared.places.Ends.{Ends}
use Rattle.tv_benes.specs.declared.shape.Net.{Net}
use Rattle.tv_benes.specs.declared.shape.Net.TheVariants.{Benes, Waksman}
use Rattle.tv_core.specs.declared.field.TheConstants.{P}
use Rattle.tv_core.specs.declared.lines.Pair.{Pair}
use Rattle.tv_core.specs.declared.lines.PairNum.{PairNum}

-- ---- outputs
outputs_below : (o : Ends) (n count end : ℕ) → count ≤ 2 * (n + 1) → o.first + 1 < end → o.second + 1 < end → o.others + 5 * n ≤ end → AreBelow o count end
outputs_below o n count end few first second others i within = elim (cases_eq i 0) [
  | inl none ↦ subst (λ w. w + 1 < end) (sym (output_zero o i none)) first
  | inr some ↦ elim (cases_eq i 1) [
    | inl one ↦ subst (λ w. w + 1 < end) (sym (output_one o i one)) second
    | inr more ↦ subst (λ w. w + 1 < end) (sym (output_other o i (omega arith)))
        (alternating_keeps (λ w. w + 1 < end) (fifth (o.others + 1)) (fifth (o.others + 3)) (i - 2) (omega arith) (omega arith))
  ]
]

-- those of a last column of n switches but for those that are missing
last_below : (net : Net) (n count g end : ℕ) (u l : Ends) → 1 ≤ n → count ≤ 2 * n → AreBelow u n g → AreBelow l n g → end ≡ g + 5 * (n - missing net)
    → AreBelow (last_outputs net g u l) count end
last_below Benes n count g end u l some few upper lower at = outputs_below (column_outputs g) (n - 1) count end (omega arith) (omega arith) (omega arith)
    (omega arith)
last_below Waksman n count g end u l some few upper lower at =
    let first = upper 0 (omega arith) in
    let second = lower 0 (omega arith) in
    outputs_below (last_outputs Waksman g u l) (n - 1) count end (omega arith) (omega arith) (omega arith) (omega arith)

pub network_below : (net : Net) (h next : ℕ) (item : ℕ → Pair) → AreBelow (network_of net h item next).answer (2 ^ suc h) (network_of net h item next).next
unfolding network_of last_column_of here pure ◌>>=◌
network_below net zero next item = let at = column_next 1 item next in
    outputs_below (column_outputs next) 0 2 (column_of 1 item next).next (omega arith) (omega arith) (omega arith) (omega arith)
network_below net (suc h) next item =
    let n = 2 ^ suc h in
    let c = column_of n item next in
    let u = network_of net h (row (next + 1)) c.next in
    let l = network_of net h (row (next + 3)) u.next in
    let l_next = network_next net h (row (next + 3)) u.next in
    let upper : AreBelow u.answer n l.next = λ i k. let within = network_below net h c.next (row (next + 1)) i k in omega arith in
    last_below net n (2 ^ suc (suc h)) l.next _ u.answer l.answer (pow_pos (suc h)) (omega arith) upper (network_below net h u.next (row (next + 3)))
    (column_next (n - missing net) (last_pair net u.answer l.answer) l.next)

-- ---- the values
-- a pair of numbers of the field
abbrev IsSmall : PairNum → Type 0
IsSmall p = (p.first < P) × (p.second < P)

five_small : (a : ℕ) (x y : PairNum) → a < P → IsSmall x → IsSmall y → InField (a ∷ x.first ∷ x.second ∷ y.first ∷ y.second ∷ [])
five_small a x y s p q =
    let Q : ℕ → Type 0 = λ n. n < P in
    All-cons Q a (x.first ∷ x.second ∷ y.first ∷ y.second ∷ []) s (All-cons Q x.first (x.second ∷ y.first ∷ y.second ∷ []) p.0
    (All-cons Q x.second (y.first ∷ y.second ∷ []) p.1 (All-cons Q y.first (y.second ∷ []) q.0 (All-cons Q y.second [] q.1 (All-nil Q)))))

switch_small : (b : Bool) (x y : PairNum) → IsSmall x → IsSmall y → InField (switch_values b x y)
switch_small true x y p q = five_small 1 y x (omega arith) q p
switch_small false x y p q = five_small 0 x y (omega arith) p q

column_small : (n : ℕ) (bit : ℕ → Bool) (v : ℕ → PairNum) → ((j : ℕ) → j < 2 * n → IsSmall (v j)) → InField (column_values n bit v)
unfolding column_values
column_small zero bit v each = All-nil (λ n. n < P)
column_small (suc n) bit v each =
    All-append (λ n. n < P) (column_values n bit v) (switch_values (bit n) (v (2 * n)) (v (2 * n + 1)))
    (column_small n bit v (λ j k. each j (omega arith)))
    (switch_small (bit n) (v (2 * n)) (v (2 * n + 1)) (each (2 * n) (omega arith)) (each (2 * n + 1) (omega arith)))

network_small : (net : Net) (h : ℕ) (bit : ℕ → Bool) (v : ℕ → PairNum) → ((j : ℕ) → j < 2 ^ suc h → IsSmall (v j)) → InField (network_values net h bit v)
unfolding network_values
network_small net zero bit v each = column_small 1 bit v (λ j k. each j (omega arith))
network_small net (suc h) bit v each =
    let n = 2 ^ suc h in
    let s = switches net h in
    let small = missing_small net in
    let each' : (j : ℕ) → j < 2 * n → IsSmall (v j) = λ j k. each j (omega arith) in
    let ups = upper_keeps IsSmall n bit v each' in
    let lows = lower_keeps IsSmall n bit v each' in
    let u = through net h (from n bit) (to_upper bit v) in
    let l = through net h (from (n + s) bit) (to_lower bit v) in
    All-append (λ n. n < P) _ _ (column_small n bit v each')
    (All-append (λ n. n < P) _ _ (network_small net h (from n bit) (to_upper bit v) ups)
    (All-append (λ n. n < P) _ _ (network_small net h (from (n + s) bit) (to_lower bit v) lows)
    (column_small (n - missing net) (from (n + 2 * s) bit) (λ i. alternating u l (i + 2 * missing net)) (λ j k.
    alternating_keeps IsSmall u l (j + 2 * missing net) (through_keeps IsSmall net h _ _ ups ((j + 2 * missing net) / 2) (omega arith))
    (through_keeps IsSmall net h _ _ lows ((j + 2 * missing net) / 2) (omega arith))))))

pub network_sizes : NetworkFills
network_sizes = record {
  fills = λ net h item bit v next. network_next net h item next ∙ ap (λ k. next + k) (sym (network_values-length net h bit v));
  ends = λ net h next item. network_next net h item next;
  below = λ net h next item. subst (λ end. AreBelow (network_of net h item next).answer (2 ^ suc h) end) (network_next net h item next)
      (network_below net h next item);
  small = network_small;
}
