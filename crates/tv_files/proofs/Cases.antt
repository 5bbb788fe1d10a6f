-- Facts on one case of a result.
use Rattle.std.proofs.Common.{Result, Ok, Err, OnOk, OnErr}

-- what follows in that case
pub OnErr-map : {T E P Q : Type 0} (result : Result T E) → (P → Q) → OnErr result P → OnErr result Q
OnErr-map (Ok _) f h = tt
OnErr-map (Err _) f h = f h

pub OnOk-map : {T E P Q : Type 0} (result : Result T E) → (P → Q) → OnOk result P → OnOk result Q
OnOk-map (Ok _) f h = f h
OnOk-map (Err _) f h = tt
