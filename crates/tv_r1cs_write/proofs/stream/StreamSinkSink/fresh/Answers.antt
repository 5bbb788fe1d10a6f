use Rattle.tv_core.proofs.Common.{refl, append-nil, arith, fresh}
use Rattle.tv_container.proofs.Buffers.{cause_here, nothing_appended}
use Rattle.tv_r1cs_write.proofs.Constraints.{narrow_more}
use Rattle.tv_r1cs_write.proofs.stream.StreamSinkSink.fresh.Goals as goal

pub returns-clause-emits : goal.returns-clause-emits
unfolding fresh
returns-clause-emits g c =
    let sink = c.args.self.now in
    record {
      puts = record {
        answers = refl;
        stands = λ list s. rw (append-nil list) (record {
          counted = s.counted;
          whole = s.whole;
          narrow = narrow_more sink.wires list s.narrow;
          written = s.written;
        });
        next = refl;
        keeps = record {
          borrow = refl;
          name = refl;
          counts = refl;
          labels = refl;
          outside = nothing_appended (g.D.Files.seen sink.files.now) sink.name.now;
          cause = cause_here sink.pending.outcome (g.D.Files.seen sink.files.now);
        };
        faults = omega arith;
        wants = omega arith;
      };
      grows = record { wires = omega arith; constraints = omega arith; whole = c.requires.whole };
    }
