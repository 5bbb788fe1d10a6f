use Rattle.tv_core.proofs.Common.{refl, arith, refused, all_then, some_then, some_first, all_last}
use Rattle.tv_bits.proofs.Growing.{fewer, within, both, left, bits_within}
use Rattle.tv_decode.specs.Fields.{fields_of}
use Rattle.tv_decode.proofs.Rooms.{greatest}
use Rattle.tv_decode.proofs.decoder.fields.Goals as goal

pub returns-in_err-op-clause-emits : goal.returns-in_err-op-clause-emits
unfolding fields_of
returns-in_err-op-clause-emits g c = refused _ _ _ c.from_residual.ensures.1 (some_first _ c.in_err-op.ensures.emits)

pub returns-in_err-dest-clause-emits : goal.returns-in_err-dest-clause-emits
unfolding fields_of
returns-in_err-dest-clause-emits g c =
    refused _ _ _ c.from_residual-in_err-dest.ensures.1 (some_then _ c.in_ok-op.ensures.emits (some_first _ c.in_err-dest.ensures.emits))

pub returns-in_err-source-clause-emits : goal.returns-in_err-source-clause-emits
unfolding fields_of
returns-in_err-source-clause-emits g c =
    refused _ _ _ c.from_residual-in_err-source.ensures.1
    (some_then _ c.in_ok-op.ensures.emits (some_then _ c.in_ok-dest.ensures.emits (some_first _ c.in_err-source.ensures.emits)))

pub returns-in_err-reg-clause-emits : goal.returns-in_err-reg-clause-emits
unfolding fields_of
returns-in_err-reg-clause-emits g c =
    refused _ _ _ c.from_residual-in_err-reg.ensures.1
    (some_then _ c.in_ok-op.ensures.emits (some_then _ c.in_ok-dest.ensures.emits (some_then _ c.in_ok-source.ensures.emits
    (some_first _ c.in_err-reg.ensures.emits))))

pub returns-clause-emits : goal.returns-clause-emits
unfolding fields_of
returns-clause-emits g c =
    rw c.offset.ensures (all_then _ c.in_ok-op.ensures.emits (all_then _ c.in_ok-dest.ensures.emits (all_then _ c.in_ok-source.ensures.emits
    (all_last _ c.in_ok-reg.ensures.emits refl))))

pub row_of-requires : goal.row_of-requires
row_of-requires g c = record { room = fewer c.requires.room refl refl; short = omega arith; enough = omega (arith, c.requires.width); word = c.requires.h_word }

pub row_of-requires-2 : goal.row_of-requires-2
row_of-requires-2 g c =
    let g1 = c.in_ok-op.ensures.emits.grows in
    record { room = left g1 c.requires.room refl refl; short = omega arith; enough = omega (arith, c.requires.width); word = bits_within g1 c.requires.h_word }

pub row_of-requires-3 : goal.row_of-requires-3
row_of-requires-3 g c =
    let g2 = both c.in_ok-op.ensures.emits.grows c.in_ok-dest.ensures.emits.grows in
    record { room = left g2 c.requires.room refl refl; short = omega arith; enough = omega (arith, c.requires.width); word = bits_within g2 c.requires.h_word }

pub row_of-requires-4 : goal.row_of-requires-4
row_of-requires-4 g c =
    let g3 = both (both c.in_ok-op.ensures.emits.grows c.in_ok-dest.ensures.emits.grows) c.in_ok-source.ensures.emits.grows in
    record { room = left g3 c.requires.room refl refl; short = omega arith; enough = omega (arith, c.requires.width); word = bits_within g3 c.requires.a_word }

pub returns-clause-registers_below : goal.returns-clause-registers_below
returns-clause-registers_below g c =
    let source = c.in_ok-source.ensures in
    let reg = c.in_ok-reg.ensures in
    greatest _ _ _ (within (both source.emits.grows reg.emits.grows) c.in_ok-dest.ensures.below) (within reg.emits.grows source.below) reg.below
