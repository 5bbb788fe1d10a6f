use Rattle.std.proofs.Common.{◌++◌, append_assoc, ap, inl, inr, sym, ◌∙◌, rules}
use Rattle.std.proofs.lemmas.Result.{err_from_is_err_and}
use Rattle.tv_files.proofs.Written.{only_writes, ran_out_since, rose_since, written_grows, written_in_part}
use Rattle.tv_files.proofs.whole.write_file.Goals as goal

pub loop-piece-preserved : goal.loop-piece-preserved
loop-piece-preserved g c =
    let seen = g.D.Files.seen in
    let before = c.loop-piece.invariant in
    let next = ap (λ rest. before.0 ++ rest) c.in-Some.ensures.steps.1.0 in (
      before.0 ++ c.in-Some.piece.now,
      record {
        split = before.1.split ∙ next ∙ sym (append_assoc before.0 c.in-Some.piece.now c.next.new.self.rest.now);
        contents = written_grows (seen c.args.files.now) (seen c.loop-piece.files)
            (seen c.append.new.self) c.args.name.now before.0 c.in-Some.piece.now before.1.contents c.in_ok-append.ensures.done;
        said = search rules;
        counts = search rules;
      },
    )

pub returns-in_err-create : goal.returns-in_err-create
returns-in_err-create g c =
    let p = err_from_is_err_and c.from_residual.result c.from_residual.ensures.1 in
    let call = c.in_err-create.ensures in
    rw (p.1, p.2) (record {
      whole = tt;
      part = elim call.refused [ inl same ↦ inl same | inr empty ↦ inr (0, empty) ];
      failed = call.failed;
      memory = call.memory;
      only = record { said = call.said; absent = λ files known. call.absent; later = call.later };
      counts = tt;
    })

pub returns-in_err-append : goal.returns-in_err-append
returns-in_err-append g c =
    let p = err_from_is_err_and c.from_residual-in_err-append.result c.from_residual-in_err-append.ensures.1 in
    let old = g.D.Files.seen c.args.files.now in
    let now = g.D.Files.seen c.loop-piece.files in
    let new = g.D.Files.seen c.append.new.self in
    let call = c.in_err-append.ensures in
    let before = c.loop-piece.invariant in
    let next = ap (λ rest. before.0 ++ rest) c.in-Some.ensures.steps.1.0 in
    rw (p.1, p.2) (record {
      whole = tt;
      part = written_in_part old now new c.args.name.now c.args.bytes.now before.0 c.in-Some.piece.now c.next.new.self.rest.now
          (before.1.split ∙ next) before.1.contents call.refused;
      failed = λ e. rose_since old now new before.1.counts (call.failed e);
      memory = λ e. ran_out_since old now new before.1.counts (call.memory e);
      only = only_writes old now new c.args.name.now before.0 c.in-Some.piece.now _ before.1.contents before.1.said before.1.counts call;
      counts = tt;
    })
