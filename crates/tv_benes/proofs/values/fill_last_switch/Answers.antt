use Rattle.tv_core.proofs.Common.{◌≡◌, ℕ, Bool, List, suc, ◌+◌, ◌*◌, ◌^◌, ap, ap₂, sym, ◌∙◌, subst, add-one}
use Rattle.tv_benes.proofs.Bounds.{place_near}
use Rattle.tv_benes.proofs.ColumnChain.{values_as}
use Rattle.tv_benes.proofs.Sources.{inner_item, last_even, last_odd}
use Rattle.tv_benes.specs.Items.{bit_at, item_of, depth_of}
use Rattle.tv_benes.specs.Through.{switches, missing, from, to_upper, to_lower, through}
use Rattle.tv_core.specs.Values.{GivesIn}
use Rattle.tv_benes.proofs.values.fill_last_switch.Goals as goal

pub returns-clause-gives : goal.returns-clause-gives
returns-clause-gives g c =
    let net = c.args.net in
    let h = c.args.h in
    let j = c.args.j in
    let s = switches net h in
    let bit : ℕ → Bool = bit_at c.args.bits.now in
    let item = item_of c.args.items.now in
    let u = through net h (from (2 ^ suc h) bit) (to_upper bit item) in
    let l = through net h (from (2 ^ suc h + s) bit) (to_lower bit item) in
    let n : c.long_power-n.result ≡ 2 ^ suc h = c.long_power-n.ensures.is ∙ ap (λ k. 2 ^ k) (add-one h) in
    let place : j + c.long_missing.result ≡ j + missing net = ap (λ k. j + k) c.long_missing.ensures in
    let upper = c.bits_from.ensures ∙ ap (λ k. from k bit) n in
    let lower = c.bits_from-2.ensures ∙ ap₂ (λ k m. from (k + m) bit) n c.level_switches-s.ensures.is in
    let x = c.read-x.ensures ∙ inner_item net h (j + c.long_missing.result) c.source-from_upper.result _ (from (2 ^ suc h) bit) (to_upper bit item) upper
    c.source-from_upper.ensures.is ∙ ap u place ∙ sym (last_even u l j (missing net)) in
    let y = c.read-y.ensures ∙ inner_item net h (j + c.long_missing.result) c.source-from_lower.result _ (from (2 ^ suc h + s) bit) (to_lower bit item) lower
    c.source-from_lower.ensures.is ∙ ap l place ∙ sym (last_odd u l j (missing net)) in
    let b = c.bit.ensures ∙ ap₂ (λ k m. bit (k + 2 * m + j)) n c.level_switches-s.ensures.is in
    subst (λ (list : List ℕ). GivesIn g.V.Values.giving c.args.v.now c.fill_switch.new.v list c.fill_switch.result) (values_as _ _ _ _ _ _ b x y)
    c.fill_switch.ensures.gives

pub read-x-requires : goal.read-x-requires
read-x-requires g c = place_near c.source-from_upper.result (suc c.args.h) (depth_of c.args.items.now)
    (2 ^ 62) c.source-from_upper.ensures.below c.requires.near

pub read-y-requires : goal.read-y-requires
read-y-requires g c = place_near c.source-from_lower.result (suc c.args.h) (depth_of c.args.items.now)
    (2 ^ 62) c.source-from_lower.ensures.below c.requires.near
