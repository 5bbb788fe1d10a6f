use Rattle.tv_core.proofs.Common.{all_then, some_then, some_first, refused_wires, all_last, refl}
use Rattle.tv_inputs.specs.Results.{tested_of}
use Rattle.tv_results.proofs.results.put_tested.Goals as goal

pub returns-in_err-put_same : goal.returns-in_err-put_same
unfolding tested_of
returns-in_err-put_same g c =
    refused_wires _ _ _ _ c.from_residual.ensures (some_then _ c.fresh-y.ensures.emits (some_first _ c.in_err-put_same.ensures.emits))

pub returns-in_err-put_same-2 : goal.returns-in_err-put_same-2
unfolding tested_of
returns-in_err-put_same-2 g c =
    refused_wires _ _ _ _ c.from_residual-in_err-put_same-2.ensures (some_then _ c.fresh-y.ensures.emits (some_then _ c.in_ok-put_same.ensures.emits
    (some_first _ c.in_err-put_same-2.ensures.emits)))

pub returns-in_err-put_signs : goal.returns-in_err-put_signs
unfolding tested_of
returns-in_err-put_signs g c =
    refused_wires _ _ _ _ c.from_residual-in_err-put_signs.ensures (some_then _ c.fresh-y.ensures.emits (some_then _ c.in_ok-put_same.ensures.emits
    (some_then _ c.in_ok-put_same-2.ensures.emits (some_first _ c.in_err-put_signs.ensures.emits))))

pub returns-in_err-put_places : goal.returns-in_err-put_places
unfolding tested_of
returns-in_err-put_places g c =
    refused_wires _ _ _ _ c.from_residual-in_err-put_places.ensures (some_then _ c.fresh-y.ensures.emits (some_then _ c.in_ok-put_same.ensures.emits
    (some_then _ c.in_ok-put_same-2.ensures.emits (some_then _ c.in_ok-put_signs.ensures.emits (some_first _ c.in_err-put_places.ensures.emits)))))

pub returns-clause-emits : goal.returns-clause-emits
unfolding tested_of
returns-clause-emits g c =
    all_then _ c.fresh-y.ensures.emits (all_then _ c.in_ok-put_same.ensures.emits (all_then _ c.in_ok-put_same-2.ensures.emits
    (all_then _ c.in_ok-put_signs.ensures.emits (all_last _ c.in_ok-put_places.ensures.emits refl))))
