use Rattle.std.proofs.Common.{◌∙◌, inl, inr, ap, sym, Err}
use Rattle.tv_asm.proofs.AssemblyLemmas.{IsAssembled-none, IsAssembled-more, IsAssembled-fault, IsAssembled-end, passed_on}
use Rattle.tv_asm.proofs.RangeLemmas.{images_words}
use Rattle.tv_asm.proofs.assembler.assemble.Goals as goal

pub loop-line-init : goal.loop-line-init
loop-line-init g c =
    rw c.new-words.ensures (IsAssembled-none g.row.W c.in_ok-labels.labels c.args.most c.args.text.now c.in_ok-labels.ensures)

pub loop-line-preserved : goal.loop-line-preserved
loop-line-preserved g c =
    IsAssembled-more g.row.W c.in_ok-labels.labels c.args.most c.loop-line.number c.loop-line.words c.append.new.words c.loop-line.rest.now
    c.in-Some.remaining.now c.args.text.now c.in-Some.line.now
    c.loop-line.invariant c.in-Some.ensures.0 c.in-Some.ensures.1 c.in_ok-append.ensures.ok c.in_ok-append.ensures.room

pub returns-in_err-append-clause-image : goal.returns-in_err-append-clause-image
returns-in_err-append-clause-image g c =
    let known = passed_on c.from_residual-in_err-append.result c.in_err-append.field-0.0 c.from_residual-in_err-append.ensures.1 in
    elim c.in_err-append.ensures.err [
      | inl memory ↦ inr (known ∙ ap Err memory)
      | inr fault ↦ inl
          (known ∙ IsAssembled-fault g.row.W c.in_ok-labels.labels c.args.most c.loop-line.number c.loop-line.words c.loop-line.rest.now c.in-Some.remaining.now
          c.args.text.now c.in-Some.line.now c.in_err-append.field-0.0
          c.loop-line.invariant c.in-Some.ensures.0 fault)
    ]

pub returns-clause-small : goal.returns-clause-small
returns-clause-small g c =
    let image = IsAssembled-end g.row.W c.in_ok-labels.labels c.args.most c.loop-line.number c.loop-line.words c.loop-line.rest.now c.args.text.now
    c.loop-line.invariant c.in_default.ensures in
    rw (sym image) at (images_words g.row.W c.requires.width c.args.most c.args.text.now)
