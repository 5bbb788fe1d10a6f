-- What the owner of a session owns.
use Rattle.std.specs.Prelude.{Option, Some, None}
use base.Fml.{Fml, ftrue}
use base.Stored.{Coded}
use denote.RawPtr.{Ptr}
use Rattle.std.specs.Box.Ownership.{box_owns}
use Rattle.std.specs.Global.{Global}
use Rattle.std.specs.contracts.impls.GlobalAllocator.TheImpl.{ghosts}
use Rattle.std.specs.contracts.option.Option.{the_row as option_row}
use Rattle.tinyr1cs_c.specs.contracts.session.Session.{the_row}

-- nothing, or the session at the pointer with the right to free it
abbrev pub owner_owns : Global → Ptr → Option the_row.Denot → Fml
owner_owns alloc ptr None = ftrue
owner_owns alloc ptr (Some session) = box_owns (ghosts.dealloc_token alloc) the_row ptr session

-- how the logic stores such a value
abbrev pub held_coded : Coded (Option the_row.Denot)
held_coded = (option_row the_row).coded
