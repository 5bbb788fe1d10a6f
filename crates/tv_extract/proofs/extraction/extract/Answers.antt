use Rattle.tv_core.proofs.Common.{Ok, Err, sym, ◌∙◌}
use Rattle.tv_extract.proofs.ExtractLaws.{run_ends}
use Rattle.tv_extract.proofs.WordLaws.{refused_for}
use Rattle.tv_extract.proofs.extraction.extract.Goals as goal

pub returns-in_err-answering-clause-fault : goal.returns-in_err-answering-clause-fault
returns-in_err-answering-clause-fault g c =
    let many = c.if-has-wants.false ∙ c.from-wants.ensures ∙ c.wires.ensures.is in
    refused_for _ c.in_err-answering.field-0.0 c.from_residual-in_err-answering.result c.from_residual-in_err-answering.ensures.1
    (run_ends g.row.W c.args.net c.args.image.now c.args.n c.args.t c.args.values.now c.in_ok-answer.answer c.from.result c.in_ok-tape.tape c.in_ok-aux.aux
    c.as_slice.result.now c.as_slice-2.result.now _ c.in_ok-end.end (Err c.in_err-answering.field-0.0) many (sym c.in_ok-answer.ensures.is)
    c.in_ok-tape.ensures.words c.in_ok-aux.ensures.words c.as_slice.ensures c.as_slice-2.ensures c.in_ok-machine.ensures c.from.ensures
    c.in_ok-end.ensures.end c.in_err-answering.ensures)

pub returns-clause-run : goal.returns-clause-run
returns-clause-run g c =
    let many = c.if-has-wants.false ∙ c.from-wants.ensures ∙ c.wires.ensures.is in
    run_ends g.row.W c.args.net c.args.image.now c.args.n c.args.t c.args.values.now c.in_ok-answer.answer c.from.result c.in_ok-tape.tape c.in_ok-aux.aux
    c.as_slice.result.now c.as_slice-2.result.now _ c.in_ok-end.end (Ok c.in_ok-answering.field-0) many (sym c.in_ok-answer.ensures.is)
    c.in_ok-tape.ensures.words c.in_ok-aux.ensures.words c.as_slice.ensures c.as_slice-2.ensures c.in_ok-machine.ensures c.from.ensures
    c.in_ok-end.ensures.end c.in_ok-answering.ensures
