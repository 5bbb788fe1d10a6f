use Rattle.tv_core.proofs.Common.{Some, Err, inr, refl, sym, ap, ◌∙◌}
use Rattle.tv_plan.proofs.output.conclude.Goals as goal

pub returns-in-Err-Memory : goal.returns-in-Err-Memory
returns-in-Err-Memory g c =
    let part = c.in-Err-Memory.ensures.refused in
    let wanted = c.say.ensures.memory (c.in-Err-Memory.is ∙ ap Err c.in-Err-Memory.field-0-is) in
    record {
      ended = inr (inr (refl, wanted, (_, part.0, c.in-Some.ensures ∙ ap Some (sym (c.as_bytes.ensures.value ∙ c.as_str.ensures.value)), part.1)));
      quiet = inr (inr (refl, wanted));
      contents = c.say.ensures.contents;
      later = c.say.ensures.later;
      absent = c.say.ensures.absent;
    }
