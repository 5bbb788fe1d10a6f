use Rattle.std.proofs.Common.{◌≡◌, ◌++◌, length, slice_index, take, drop, sym, ◌∙◌, ap, subst}
use Rattle.std.proofs.Math.Seq.{take-append_seam}
use Rattle.tv_stages.specs.Settings.{settings_of}
use Rattle.tv_stages.specs.Stages.{IsReordering}
use Rattle.tv_stages.proofs.SettingsLaws.{settings_right}
use Rattle.tv_stages.proofs.settings.settings_for.Goals as goal

pub set_all-requires-clause-permutes : goal.set_all-requires-clause-permutes
set_all-requires-clause-permutes c =
    let same = c.as_mut_slice.ensures.value ∙ c.in_ok-q.ensures.items in
    subst (λ l. IsReordering (length l) (λ i. slice_index l i)) (sym same) c.requires.permutes

pub returns : goal.returns
returns c =
    let net = c.args.net in
    let made = c.set_all.new.bits in
    let same = c.as_mut_slice.ensures.value ∙ c.in_ok-q.ensures.items in
    let is : made ≡ settings_of net c.args.p.now = c.set_all.ensures ∙ ap (λ l. settings_of net l) same in
    let long : c.in_ok-bits.bits.len ≡ length made = c.in_ok-bits.ensures.len ∙ c.switches.ensures.is
    ∙ sym (ap length is ∙ settings_right.long net c.args.p.now) in
    ap (λ n. take n (made ++ drop (length made) c.in_ok-bits.bits.items)) long
    ∙ take-append_seam made (drop (length made) c.in_ok-bits.bits.items) ∙ is
