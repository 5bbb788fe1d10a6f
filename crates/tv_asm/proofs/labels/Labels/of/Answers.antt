use Rattle.std.proofs.Common.{◌∙◌, true, false, refl, sym, ap, arith, rules}
use Rattle.tv_asm.specs.Labels.{says_instruction}
use Rattle.tv_asm.specs.Line.{code_says}
use Rattle.tv_asm.proofs.LabelLemmas.{IsRead-more, IsRead-end, first_place-nil}
use Rattle.tv_asm.proofs.labels.Labels.of.Goals as goal

pub loop-line-init : goal.loop-line-init
loop-line-init g c =
    record {
      rest_lines = refl;
      noted = record { each = λ name. rw (first_place-nil, c.new.ensures.empty) refl };
      address = search rules;
      room = omega arith;
    }

pub loop-line-preserved-then-has_instruction : goal.loop-line-preserved-then-has_instruction
loop-line-preserved-then-has_instruction g c =
    let said_line = c.of-statement.ensures ∙ ap code_says c.code_of.ensures in
    IsRead-more g.row.W c.requires c.loop-line.labels c.note.new.self c.loop-line.place _ c.loop-line.rest.now c.in-Some.remaining.now c.args.text.now
    c.in-Some.line.now true
    c.loop-line.invariant c.in-Some.ensures.0 c.in-Some.ensures.1
    (λ name. rw said_line at (c.in_ok-note.ensures name))
    (ap says_instruction (sym said_line) ∙ sym c.has_instruction.ensures ∙ c.if-has_instruction.true) c.sum.ensures.word

pub loop-line-preserved : goal.loop-line-preserved
loop-line-preserved g c =
    let said_line = c.of-statement.ensures ∙ ap code_says c.code_of.ensures in
    IsRead-more g.row.W c.requires c.loop-line.labels c.note.new.self c.loop-line.place _ c.loop-line.rest.now c.in-Some.remaining.now c.args.text.now
    c.in-Some.line.now false
    c.loop-line.invariant c.in-Some.ensures.0 c.in-Some.ensures.1
    (λ name. rw said_line at (c.in_ok-note.ensures name))
    (ap says_instruction (sym said_line) ∙ sym c.has_instruction.ensures ∙ c.if-has_instruction.false) refl

pub returns : goal.returns
returns g c = IsRead-end g.row.W c.loop-line.labels c.loop-line.place c.loop-line.rest.now c.args.text.now c.loop-line.invariant c.in_default.ensures
