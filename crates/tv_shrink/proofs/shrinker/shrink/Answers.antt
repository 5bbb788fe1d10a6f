use Rattle.tv_core.proofs.Common.{◌∙◌, Err, ap, inl, refl}
use Rattle.tv_container.proofs.Chain.{err_is, not_refused}
use Rattle.tv_container.specs.declared.why.ReadRefusal.TheVariants as refusal
use Rattle.tv_shrink.specs.Answers.{counted_system, read_fault}
use Rattle.tv_shrink.specs.declared.fault.ShrinkFault.TheVariants as fault
use Rattle.tv_shrink.proofs.Read.{halted, same_cause, still_halted, survey_long, survey_small, survey_means}
use Rattle.tv_shrink.proofs.shrinker.shrink.Goals as goal

pub read-requires : goal.read-requires
read-requires g c = record {
  small = λ file known. survey_small file c.in_ok-counts.counts
      (c.in_ok-counts.ensures.gives file (rw c.in_ok-counts.ensures.looks at known)) c.if-counts-gt-MOST_TERMS.false;
}

pub returns-in_err-counts : goal.returns-in_err-counts
returns-in_err-counts g c =
    rw (err_is c.from_residual.result c.from_residual.ensures.1) (record {
      gives = λ file known. survey_means _ file (c.in_err-counts.ensures.gives file known);
      looks = halted _ _ _ _ c.in_err-counts.ensures.looks;
      missing = λ missing. ap (λ why. Err (read_fault why)) (same_cause c.in_err-counts.field-0.0 refusal.Fault (c.in_err-counts.ensures.missing missing));
    })

pub returns-then-counts-gt-MOST_TERMS : goal.returns-then-counts-gt-MOST_TERMS
returns-then-counts-gt-MOST_TERMS g c = record {
  gives = λ file known. survey_long file _ (c.in_ok-counts.ensures.gives file known) c.if-counts-gt-MOST_TERMS.true;
  looks = still_halted _ _ _ (fault.Terms c.in_ok-counts.counts.terms) c.in_ok-counts.ensures.looks refl;
  missing = λ missing. not_refused (c.in_ok-counts.ensures.missing missing);
}

pub returns-in_err-system : goal.returns-in_err-system
returns-in_err-system g c =
    rw (err_is c.from_residual-in_err-system.result c.from_residual-in_err-system.ensures.1) (record {
      gives = λ file known. c.in_err-system.ensures.gives file (rw (← c.in_ok-counts.ensures.looks) at known);
      looks = rw c.in_ok-counts.ensures.looks at c.in_err-system.ensures.looks;
      missing = λ missing. not_refused (c.in_ok-counts.ensures.missing missing);
    })

pub returns-in_err-settle : goal.returns-in_err-settle
returns-in_err-settle g c =
    rw (err_is c.from_residual-in_err-settle.result c.from_residual-in_err-settle.ensures.1) (record {
      gives = λ file known. tt;
      looks = still_halted _ _ _ fault.Memory (c.in_ok-system.ensures.looks ∙ c.in_ok-counts.ensures.looks) (inl refl);
      missing = λ missing. not_refused (c.in_ok-counts.ensures.missing missing);
    })

pub returns : goal.returns
returns g c = record {
  gives = λ file known.
      let read = c.in_ok-system.ensures.gives file (rw (← c.in_ok-counts.ensures.looks) at known) in
      record {
        system = counted_system c.in_ok-system.system.counts read.list;
        is = read.is;
        few = read.few;
        narrow = read.narrow;
        same = c.in_ok-settle.ensures read.list read.same;
      };
  looks = c.in_ok-system.ensures.looks ∙ c.in_ok-counts.ensures.looks;
  missing = λ missing. not_refused (c.in_ok-counts.ensures.missing missing);
}
