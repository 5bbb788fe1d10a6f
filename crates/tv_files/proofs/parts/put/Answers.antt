use Rattle.std.proofs.Common.{Some}
use Rattle.std.specs.String.{string_bytes}
use Rattle.tv_files.proofs.Kept.{names_in-update}
use Rattle.tv_files.proofs.parts.put.Goals as goal

pub returns-clause-ok : goal.returns-clause-ok
returns-clause-ok c =
    let changed = names_in-update (string_bytes c.in_ok-key.key) c.args.names.now c.insert.new.self (Some c.in_ok-value.value) c.in_ok-insert.ensures.updates in
    rw (c.in_ok-key.ensures.ok, c.in_ok-value.ensures.items) at changed
