-- What a line's check puts is normal, and has one term more for each new wire.
use Rattle.tv_core.proofs.Common.{◌≡◌, ℕ, ◌+◌, ◌-◌, ◌%◌, ◌^◌, ◌≤◌, List, [], ◌++◌, length, sym, ◌∙◌, ap, arith, length-append, value-append, put, wire}
use Rattle.tv_core.proofs.Common.{constant, scaled, top, Combination, value, normal, IsNormal}
use Rattle.tv_bits.specs.Bits.{bits_combination, new_bits_of}
use Rattle.tv_bits.specs.Times.{kept_of}
use Rattle.tv_bits.specs.declared.bit_wires.Bits.{Bits}
use Rattle.tv_bits.proofs.NormalLaws.{wire_normal, scaled_bits_normal, new_bits_normal, kept_normal}
use Rattle.tv_bits.proofs.BitsLaws.{new_bits_answer, new_bits_next}
use Rattle.tv_bits.proofs.TimesLaws.{kept_answer}
use Rattle.tv_core.proofs.CombinationLaws.{top-append, top-scaled}
use Rattle.tv_core.proofs.NormalCircuits.{normal_append, normal_put, normal_then}
use Rattle.tv_core.proofs.NormalLaws.{value-normal, IsNormalFrom-normal, top-normal}
use Rattle.tv_core.proofs.Unique.{same_values}
use Rattle.tv_core.specs.declared.field.TheConstants.{P}
use Rattle.tv_core.specs.declared.lines.LineLc.{LineLc}
use Rattle.tv_lines.specs.Predecessor.{less_above, cell_excess, excess, cell_difference, time_difference, either_of, follows_of, FollowsIsNormal}

-- ---- a new wire
-- after a normal combination
pub normal_with : (x : Combination) (w : ℕ) → IsNormal x → top x ≤ w → IsNormal (x ++ wire w)
normal_with x w n h = normal_append 0 w x (wire w) n h (omega arith) (wire_normal w w (omega arith))

-- in the midst of a combination that is made normal
length-new : (x y : Combination) (w : ℕ) → top x ≤ w → ((z : List ℕ) → value y z ≡ (value x z + value (wire w) z) % P)
    → length (normal y) ≡ length (normal x) + 1
length-new x y w h same =
    ap length (same_values 0 0 (normal y) (normal x ++ wire w) (IsNormalFrom-normal y) (normal_with (normal x) w (IsNormalFrom-normal x)
    (omega (arith, top-normal x)))
    (λ z. value-normal z y ∙ same z ∙ ap (λ v. (v + value (wire w) z) % P) (sym (value-normal z x)) ∙ sym (value-append (normal x) (wire w) z)))
    ∙ length-append (normal x) (wire w)

-- ---- the parts of a check, where the item is two wires after those of the line
later_twice : (a b c d : ℕ) → (((a + b) % P + c) % P + d) % P ≡ (((a + c) % P + d) % P + b) % P
later_twice a b c d = omega arith

above_top : (x y : Combination) (most : ℕ) → top x ≤ most → top y ≤ most → top (x ++ scaled (P - 2 ^ 32) y) ≤ most
above_top x y most h k = omega (arith, top-append x (scaled (P - 2 ^ 32) y), top-scaled (P - 2 ^ 32) y)

pub length-less_above : (y : Combination) (w : ℕ) → top y ≤ w → length (less_above (wire w) y) ≡ length (less_above [] y) + 1
length-less_above y w h =
    let z_last : Combination = scaled (P - 2 ^ 32) y in
    length-new z_last (wire w ++ z_last) w (omega (arith, top-scaled (P - 2 ^ 32) y))
    (λ z. value-append (wire w) z_last z ∙ ap (λ n. n % P) (omega arith))

pub length-cell_excess : (line : LineLc) (w : ℕ) → 1 ≤ w → top line.cell ≤ w → top line.old ≤ w
    → length (cell_excess line (wire w)) ≡ length (cell_excess line []) + 1
length-cell_excess line w some cell old =
    let b : Combination = constant (2 ^ 32) in
    let o : Combination = scaled (P - 1) line.old in
    let c : Combination = scaled (P - 2 ^ 32) line.cell in
    length-new ((b ++ o) ++ c) (((b ++ wire w) ++ o) ++ c) w
    (above_top (b ++ o) line.cell w (omega (arith, top-append b o, top-scaled (P - 1) line.old)) cell)
    (λ z.
    value-append ((b ++ wire w) ++ o) c z
    ∙ ap (λ n. (n + value c z) % P) (value-append (b ++ wire w) o z ∙ ap (λ n. (n + value o z) % P) (value-append b (wire w) z))
    ∙ later_twice (value b z) (value (wire w) z) (value o z) (value c z)
    ∙ ap (λ n. (n + value (wire w) z) % P) (sym (value-append (b ++ o) c z ∙ ap (λ n. (n + value c z) % P) (value-append b o z))))

-- ---- a check
pub follows_normal : FollowsIsNormal
unfolding follows_of either_of
follows_normal m line item next some short cell time old first second =
    let reach = new_bits_of m next in
    let kept = kept_of (excess reach.answer line item) reach.next in
    let at : reach.answer.first ≡ next = ap (λ (b : Bits). b.first) (new_bits_answer m next) in
    let n : reach.answer.n ≡ m = ap (λ (b : Bits). b.n) (new_bits_answer m next) in
    let e : kept.answer ≡ next + m = kept_answer (excess reach.answer line item) reach.next ∙ new_bits_next m next in
    let b : Combination = constant (2 ^ 32) ++ item.first in
    let o : Combination = scaled (P - 1) line.old in
    let x : Combination = (b ++ o) ++ scaled (P - 2 ^ 32) line.cell in
    let parts : top (b ++ o) ≤ next = omega (arith, top-append b o, top-append (constant (2 ^ 32)) item.first, top-scaled (P - 1) line.old) in
    let whole : top x ≤ next = above_top (b ++ o) line.cell next parts cell in
    let t : Combination = item.second ++ scaled (P - 2 ^ 32) line.time in
    let of_e : IsNormal (wire kept.answer) = wire_normal 0 kept.answer (omega arith) in
    normal_then (new_bits_of m) _ next (new_bits_normal m next)
    (normal_then (kept_of (excess reach.answer line item)) (λ e. either_of e line item) reach.next
    (kept_normal (excess reach.answer line item) reach.next
    (normal_append 0 reach.answer.first (normal x) (scaled (2 ^ 32) (bits_combination reach.answer.first reach.answer.n)) (IsNormalFrom-normal x)
    (omega (arith, top-normal x)) (omega arith)
    (scaled_bits_normal (2 ^ 32) reach.answer.first reach.answer.n (omega arith) (λ none. absurd (omega arith)))))
    (normal_then (put (wire kept.answer) (cell_difference line item) []) (λ _. put (wire kept.answer) (time_difference kept.answer line item) []) kept.next
    (normal_put _ _ _ kept.next of_e (IsNormalFrom-normal (item.first ++ scaled (P - 2 ^ 32) line.cell)) tt)
    (normal_put _ _ _ _ of_e (normal_with (normal t) kept.answer (IsNormalFrom-normal t)
    (omega (arith, top-normal t, above_top item.second line.time kept.answer (omega arith) (omega arith)))) tt)))
