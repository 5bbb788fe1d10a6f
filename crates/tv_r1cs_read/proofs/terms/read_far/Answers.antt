use Rattle.tv_core.proofs.Common.{◌≡◌, ℕ, ◌+◌, ◌<◌, [], ◌∷◌, ◌++◌, length, length-append, arith}
use Rattle.std.proofs.lemmas.List.Elements.{All-append, All-cons, All-nil}
use Rattle.tv_r1cs_read.specs.R1cs.{combination_at}
use Rattle.tv_container.proofs.Chain.{err_is, reads_as, reads_done, reads_keeping, reads_off, reads_on, reads_own, reads_past, refuses_first}
use Rattle.tv_r1cs_read.proofs.Ahead.{AreAt-append, combination_at-read, combination_at-refused}
use Rattle.tv_r1cs_read.proofs.terms.read_far.Goals as goal

pub returns-in_err-count-clause-reads : goal.returns-in_err-count-clause-reads
unfolding combination_at
returns-in_err-count-clause-reads g c =
    rw (err_is c.from_residual.result c.from_residual.ensures.1) (
      [],
      tt,
      reads_as (reads_keeping (reads_off c.in_err-count.ensures.reads)) (λ file known refuses end. refuses_first _ _ _ (refuses end)),
    )

pub loop-left-init : goal.loop-left-init
loop-left-init g c = record {
  within = c.in_ok-count.ensures.within;
  terms = [];
  left = omega arith;
  taken = record { size = omega arith; narrow = omega arith; below = All-nil _; took = c.requires.none };
  reads = reads_as reads_done (λ file known is end. tt);
}

pub returns-in_err-term-clause-reads : goal.returns-in_err-term-clause-reads
returns-in_err-term-clause-reads g c =
    let before = c.loop-left.invariant in
    rw (err_is c.from_residual-in_err-term.result c.from_residual-in_err-term.ensures.1) (
      [],
      tt,
      reads_as (reads_on c.in_ok-count.ensures.reads (reads_on before.reads (reads_keeping (reads_off c.in_err-term.ensures.reads)))) (λ file known is end.
          combination_at-refused file c.args.bounds.now _ _ _ before.terms _ (is.first end) (omega (arith, before.left, c.loop-left-test.true))
          before.taken.size (is.rest.first end) (is.rest.rest end)),
    )

pub take-requires-clause-room : goal.take-requires-clause-room
take-requires-clause-room g c =
    (c.loop-left.invariant.terms, c.loop-left.invariant.taken.took, omega (arith, c.loop-left.invariant.left, c.in_ok-count.ensures.narrow))

pub returns-in_err-more-clause-reads : goal.returns-in_err-more-clause-reads
returns-in_err-more-clause-reads g c =
    let memory = c.from_residual-in_err-more.ensures in
    rw (err_is c.from_residual-in_err-more.result memory.1) (
      [],
      tt,
      reads_as (reads_on c.in_ok-count.ensures.reads (reads_on c.loop-left.invariant.reads (reads_on c.in_ok-term.ensures.reads
          (reads_own (record { known = λ e. cc; memory = λ e. c.in_err-more.ensures.memory }))))) (λ file known is end. record { bad = λ at what e. cc }),
    )

pub loop-left-preserved : goal.loop-left-preserved
loop-left-preserved g c =
    let before = c.loop-left.invariant in
    let Below : ℕ × ℕ → Type 0 = λ t. t.0 < c.args.bounds.now.wires in
    let took = c.in_ok-more.ensures.took before.terms before.taken.took in
    let count : length (before.terms ++ c.in_ok-term.term ∷ took.terms) ≡ length before.terms + (1 + c.in_ok-more.more) =
    omega (arith, length-append before.terms (c.in_ok-term.term ∷ took.terms), took.count) in
    record {
      within = omega (arith, c.in_ok-more.ensures.within, c.from.ensures);
      terms = before.terms ++ c.in_ok-term.term ∷ took.terms;
      left = omega (arith, count, before.left, c.in_ok-more.ensures.fewer);
      taken = record {
        size = omega (arith, count, before.taken.size, c.from.ensures);
        narrow = omega (arith, count, before.left, c.in_ok-more.ensures.fewer, c.in_ok-count.ensures.narrow);
        below = All-append Below _ _ before.taken.below (All-cons Below _ _ c.in_ok-term.ensures.wire took.below);
        took = took.so;
      };
      reads = reads_as (reads_on before.reads (reads_on c.in_ok-term.ensures.reads reads_done)) (λ file known is end.
          AreAt-append file c.args.bounds.now _ _ before.terms _ before.taken.size (is.first end)
          (is.rest.first end, took.there file is.rest.held));
    }

pub returns-clause-within : goal.returns-clause-within
returns-clause-within g c = c.loop-left.invariant.within

pub returns-clause-reads : goal.returns-clause-reads
returns-clause-reads g c =
    let all = c.loop-left.invariant in (
      all.terms,
      all.taken,
      reads_as (reads_keeping (reads_on c.in_ok-count.ensures.reads (reads_past all.reads))) (λ file known is end.
          combination_at-read file c.args.bounds.now _ _ _ all.terms (is.first end) (omega (arith, all.left, c.loop-left-test.false)) all.taken.size
          (is.rest end)),
    )
