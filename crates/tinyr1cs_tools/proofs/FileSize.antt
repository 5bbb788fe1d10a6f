-- How many bytes the file of a system has.
use Rattle.tv_core.proofs.Common.{◌≡◌, length, ap, sym, arith, length-append}
use Rattle.std.proofs.lemmas.List.FromFn.{length-range_with_len}
use Rattle.tv_container.proofs.BytesAt.{length-eight_bytes, length-four_bytes}
use Rattle.tv_core.specs.Constraints.{System}
use Rattle.tv_core.specs.Meanings.{system_counts}
use Rattle.tv_plan.specs.Contents.{Content.{Constraints}, bytes_in}
use Rattle.tv_r1cs_write.proofs.Sizes.{length-label_bytes, length-rows_bytes}
use Rattle.tinyr1cs_tools.specs.Sizes.{counts_text, file_size, lines_of, system_text}

pub length-system_bytes : (system : System) → length (bytes_in (Constraints system)) ≡ file_size (system_counts system)
length-system_bytes system =
    simp (length-append, length-four_bytes, length-eight_bytes, length-rows_bytes, length-label_bytes, length-range_with_len) (omega arith)

-- the lines of a system are those of its sizes
pub text_is : (system : System) → counts_text (system_counts system) ≡ system_text system
text_is system = ap (lines_of system.wires (length system.constraints) (system_counts system).terms) (sym (length-system_bytes system))
