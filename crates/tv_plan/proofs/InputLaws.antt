-- What is found of a program and two tapes is what their files hold.
use Rattle.tv_core.proofs.Common.{ℕ, List, Ok}
use Rattle.tv_plan.proofs.Common.{Names, name_at, ◌>>=◌, input, settled, bits, program_in}
use Rattle.tv_plan.specs.Inputs.{primary_in, aux_in, inputs_of, HasInputs}
use Rattle.tv_plan.proofs.ClaimLaws.{IsHeld, shows_input, shows_then, shows_made}

pub inputs_shown : (text tape aux : List ℕ) (files : Names)
    → IsHeld (inputs_of (name_at 1 text) (name_at 2 tape) (name_at 3 aux) files).gives (HasInputs files text tape aux)
unfolding inputs_of
inputs_shown text tape aux files =
    shows_then (input (name_at 1 text) program_in files)
    (λ program. input (name_at 2 tape) (primary_in 2 (bits program.width)) files >>= λ primary. input (name_at 3 aux)
    (aux_in 3 (bits program.width)) files >>= λ auxiliary. settled (Ok (record { program = program; tape = primary; aux = auxiliary }))) _ _
    (shows_input (name_at 1 text) program_in files) (λ program _.
    shows_then (input (name_at 2 tape) (primary_in 2 (bits program.width)) files)
    (λ primary. input (name_at 3 aux) (aux_in 3 (bits program.width)) files >>= λ auxiliary. settled
    (Ok (record { program = program; tape = primary; aux = auxiliary }))) _ _ (shows_input (name_at 2 tape) (primary_in 2 (bits program.width)) files)
    (λ primary _.
    shows_then (input (name_at 3 aux) (aux_in 3 (bits program.width)) files)
    (λ auxiliary. settled (Ok (record { program = program; tape = primary; aux = auxiliary }))) _ _
    (shows_input (name_at 3 aux) (aux_in 3 (bits program.width)) files)
    (λ auxiliary _. shows_made (Ok (record { program = program; tape = primary; aux = auxiliary })))))
