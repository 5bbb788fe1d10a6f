-- Over normal items a network puts normal combinations.
use Rattle.tv_core.proofs.Common.{ℕ, zero, suc, ◌+◌, ◌-◌, ◌*◌, ◌^◌, ◌<◌, ◌≤◌, [], ◌++◌, sym, subst, arith, Circuit, here, fresh, put, pure, turns, ◌>>=◌, wire}
use Rattle.tv_core.proofs.Common.{Combination, IsNormal, AreNormal}
use Rattle.tv_bits.proofs.NormalLaws.{select_normal}
use Rattle.tv_bits.specs.Bit.{bit_of}
use Rattle.tv_bits.specs.Select.{pick_of}
use Rattle.tv_benes.proofs.NetworkLaws.{column_next, network_next}
use Rattle.tv_benes.proofs.Sizes.{network_below}
use Rattle.tv_benes.proofs.Sources.{last_even}
use Rattle.tv_benes.proofs.ThroughLaws.{missing_small}
use Rattle.tv_benes.specs.Network.{remainder_of, switch_of, column_of, last_column_of, network_of, NetworkIsNormal}
use Rattle.tv_benes.specs.Places.{wires_at, row, output, output_wire, last_pair, IsNormalPair}
use Rattle.tv_benes.specs.Through.{missing}
use Rattle.tv_core.proofs.NormalCircuits.{normal_both, normal_turns}
use Rattle.tv_core.proofs.NormalLaws.{IsNormalFrom-normal}
use Rattle.tv_core.specs.declared.lines.Pair.{Pair}

wire_normal : (w : ℕ) → IsNormal (wire w)
wire_normal w = (omega arith, omega arith, omega arith, tt)

two_normal : (v w : ℕ) → v < w → IsNormal (wire v ++ wire w)
two_normal v w h = (omega arith, omega arith, omega arith, (omega arith, omega arith, omega arith, tt))

wires_normal : (w wires : ℕ) → w + 1 < wires → IsNormalPair (wires_at w) wires
wires_normal w wires h = omega arith

remainder_normal : (x y : Combination) (p next : ℕ) → p < next → AreNormal (remainder_of x y p next).list
unfolding remainder_of fresh put pure ◌>>=◌
remainder_normal x y p next h = (record { a = IsNormalFrom-normal (x ++ y); b = wire_normal 0; c = two_normal p next h }, tt)

switch_normal : (x y : Pair) (next at : ℕ) → next ≤ at → IsNormalPair x next → AreNormal (switch_of x y at).list
unfolding switch_of remainder_of bit_of pick_of fresh put pure ◌>>=◌
switch_normal x y next at later n =
    let b = wire_normal at in
    let first = select_normal (wire at) y.first x.first (at + 1) b n.first (omega (arith, n.first_below)) in
    let second = select_normal (wire at) y.second x.second (at + 1 + 1) b n.second (omega (arith, n.second_below)) in
    let third = remainder_normal x.first y.first (at + 1) (at + 1 + 1 + 1) (omega arith) in
    let fourth = remainder_normal x.second y.second (at + 1 + 1) (at + 1 + 1 + 1 + 1) (omega arith) in
    (record { a = b; b = b; c = b }, (first.0, (second.0, (third.0, (fourth.0, tt)))))

column_normal : (n : ℕ) (item : ℕ → Pair) (next : ℕ) → ((j : ℕ) → j < n → IsNormalPair (item (2 * j)) next) → AreNormal (column_of n item next).list
unfolding column_of
column_normal n item next each =
    let piece : ℕ → Unit {0} → Circuit (Unit {0}) = λ j _. switch_of (item (2 * j)) (item (2 * j + 1)) in
    normal_turns piece tt next n (λ j h. switch_normal (item (2 * j)) (item (2 * j + 1)) next (turns j piece tt next).next
    (omega (arith, column_next j item next)) (each j h))

pub network_normal : NetworkIsNormal
unfolding network_of last_column_of here pure ◌>>=◌
network_normal net zero next item has =
    normal_both (column_of 1 item next).list [] (column_normal 1 item next (λ j k. has (2 * j) (omega arith))) tt
network_normal net (suc h) next item has =
    let n = 2 ^ suc h in
    let c = column_of n item next in
    let u = network_of net h (row (next + 1)) c.next in
    let l = network_of net h (row (next + 3)) u.next in
    let last = last_pair net u.answer l.answer in
    let d = column_of (n - missing net) last l.next in
    let c_next = column_next n item next in
    let u_next = network_next net h (row (next + 1)) c.next in
    let l_next = network_next net h (row (next + 3)) u.next in
    let first = column_normal n item next (λ j k. has (2 * j) (omega arith)) in
    let upper = network_normal net h c.next (row (next + 1)) (λ i k. wires_normal (next + 1 + 5 * i) c.next (omega arith)) in
    let lower = network_normal net h u.next (row (next + 3)) (λ i k. wires_normal (next + 3 + 5 * i) u.next (omega arith)) in
    let even : (j : ℕ) → j < n - missing net → IsNormalPair (last (2 * j)) l.next = λ j k.
    let below = network_below net h c.next (row (next + 1)) (j + missing net) (omega (arith, missing_small net)) in
    subst (λ (p : Pair). IsNormalPair p l.next) (sym (last_even (output u.answer) (output l.answer) j (missing net)))
    (wires_normal (output_wire u.answer (j + missing net)) l.next (omega arith)) in
    let end = column_normal (n - missing net) last l.next even in
    normal_both c.list (u.list ++ (l.list ++ (d.list ++ []))) first
    (normal_both u.list (l.list ++ (d.list ++ [])) upper (normal_both l.list (d.list ++ []) lower (normal_both d.list [] end tt)))
