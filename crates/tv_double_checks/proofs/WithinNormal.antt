-- What a check emits is normal.
use Rattle.tv_core.proofs.Common.{◌≡◌, ◌+◌, ◌*◌, ◌≤◌, [], ◌++◌, ◌∙◌, ap, arith, put, wire, constant, scaled, top, Combination, normal, IsNormal}
use Rattle.tv_bits.specs.Bits.{new_bits_of}
use Rattle.tv_bits.specs.Times.{kept_of}
use Rattle.tv_bits.specs.declared.bit_wires.Bits.{Bits}
use Rattle.tv_bits.proofs.NormalLaws.{wire_normal, new_bits_normal, kept_normal}
use Rattle.tv_bits.proofs.BitsLaws.{new_bits_answer, new_bits_next}
use Rattle.tv_bits.proofs.TimesLaws.{kept_answer}
use Rattle.tv_core.proofs.CombinationLaws.{top-scaled}
use Rattle.tv_core.proofs.NormalCircuits.{normal_put, normal_then}
use Rattle.tv_core.proofs.NormalLaws.{IsNormalFrom-normal, top-normal}
use Rattle.tv_double_checks.proofs.DifferenceLaws.{excess_normal}
use Rattle.tv_double_checks.proofs.Sums.{minus_top, normal_with}
use Rattle.tv_double_checks.specs.Differences.{minus, first_less, excess}
use Rattle.tv_double_checks.specs.Within.{either_of, within_of, WithinIsNormal}

pub within_normal : WithinIsNormal
unfolding within_of either_of
within_normal b m own item next base short some cell sum second u v =
    let reach = new_bits_of m next in
    let kept = kept_of (excess b reach.answer own item) reach.next in
    let at : reach.answer.first ≡ next = ap (λ (x : Bits). x.first) (new_bits_answer m next) in
    let n : reach.answer.n ≡ m = ap (λ (x : Bits). x.n) (new_bits_answer m next) in
    let g : kept.answer ≡ next + m = kept_answer (excess b reach.answer own item) reach.next ∙ new_bits_next m next in
    let d : Combination = first_less b own item.first in
    let y : Combination = minus (2 * b) (scaled 2 item.second) (constant own.place) in
    let y_top : top y ≤ next = minus_top (2 * b) (scaled 2 item.second) (constant own.place) next (omega (arith, top-scaled 2 item.second)) (omega arith) in
    let t : Combination = minus 2 (minus 1 y own.sum) own.second in
    let t_top : top t ≤ next = minus_top 2 (minus 1 y own.sum) own.second next (minus_top 1 y own.sum next y_top sum) second in
    let of_g : IsNormal (wire kept.answer) = wire_normal 0 kept.answer (omega arith) in
    normal_then (new_bits_of m) _ next (new_bits_normal m next)
    (normal_then (kept_of (excess b reach.answer own item)) (λ w. either_of b w own item) reach.next
    (kept_normal (excess b reach.answer own item) reach.next
    (excess_normal b own item reach.answer base (omega arith) (omega arith) (omega arith) (omega arith)))
    (normal_then (put (wire kept.answer) (normal (minus 1 d own.sum)) []) (λ _. put (wire kept.answer) (normal t ++ wire kept.answer) []) kept.next
    (normal_put _ _ _ kept.next of_g (IsNormalFrom-normal (minus 1 d own.sum)) tt)
    (normal_put _ _ _ _ of_g (normal_with (normal t) 1 kept.answer (IsNormalFrom-normal t) (omega (arith, top-normal t)) (omega arith) (omega arith)) tt)))
