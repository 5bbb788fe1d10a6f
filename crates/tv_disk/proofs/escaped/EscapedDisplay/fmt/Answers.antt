use Rattle.std.proofs.Common.{ℕ, List, ◌++◌, sym, ap, ◌∙◌, append_assoc, append-nil, rules, subst}
use Rattle.std.specs.Fmt.{HasWritten}
use Rattle.std.proofs.Output.{has_written_append}
use Rattle.std.proofs.lemmas.Str.{IsUtf8-past_char}
use Rattle.tv_disk.specs.Escaped.{shown_char}
use Rattle.tv_disk.proofs.Shown.{escaped_more, escaped_none}
use Rattle.tv_disk.proofs.escaped.EscapedDisplay.fmt.Goals as goal

pub loop-c-preserved : goal.loop-c-preserved
loop-c-preserved g c =
    λ plain.
    let held = c.loop-c.invariant plain in
    let now = held.1 in
    let ch = c.in-Some.c in
    let parts = c.in-Some.ensures.steps.0 in (
      IsUtf8-past_char _ _ ch held.0 parts,
      (
        now.0 ++ shown_char ch,
        has_written_append _ _ _ _ _ _ now.1 (search rules),
        append_assoc now.0 (shown_char ch) _ ∙ ap (λ l. now.0 ++ l) (sym (escaped_more _ _ ch held.0 parts)) ∙ now.2,
      ),
    )

pub returns-clause-writes : goal.returns-clause-writes
returns-clause-writes g c =
    λ plain ok.
    let now = (c.loop-c.invariant plain).1 in
    let P : List ℕ → Type 0 = λ l. HasWritten g.W.Write.write_str_gives c.args.f.now l c.loop-c.f in
    subst P
    (sym (append-nil now.0) ∙ ap (λ l. now.0 ++ l) (sym (escaped_none c.loop-c.c-iterator.rest.now c.in-None.ensures.steps.0.0)) ∙ now.2) now.1
