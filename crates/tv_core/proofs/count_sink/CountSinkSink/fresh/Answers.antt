use Rattle.std.proofs.Common.{refl, arith}
use Rattle.std.proofs.lemmas.List.{append-nil}
use Rattle.tv_core.proofs.Fits.{IsCounted-wire}
use Rattle.tv_core.specs.Circuits.{fresh}
use Rattle.tv_core.proofs.count_sink.CountSinkSink.fresh.Goals as goal

pub returns-clause-emits : goal.returns-clause-emits
unfolding fresh
returns-clause-emits c =
    rw (← c.self.view_is) (record {
      puts = record {
        answers = refl;
        stands = λ list before. rw append-nil (IsCounted-wire _ _ list refl refl refl before);
        next = refl;
        keeps = tt;
        faults = omega arith;
        wants = omega arith;
      };
      grows = record { wires = omega arith; constraints = omega arith; whole = refl };
    })
