use Rattle.tv_core.proofs.Common.{refl, all_then, some_then, some_first, refused_whole, all_last}
use Rattle.tv_bits.proofs.Growing.{both, within, kept, left, made_by}
use Rattle.tv_network.specs.Switches.{switch_of}
use Rattle.tv_network.proofs.switches.open_switch.Goals as goal

pub returns-in_err-bit_by : goal.returns-in_err-bit_by
unfolding switch_of
returns-in_err-bit_by g c =
    refused_whole _ _ _ c.from_residual.ensures (some_then _ c.fresh-bit.ensures.emits (some_first _ c.in_err-bit_by.ensures.emits))

pub returns-in_err-product : goal.returns-in_err-product
unfolding switch_of
returns-in_err-product g c =
    refused_whole _ _ _ c.from_residual-in_err-product.ensures (some_then _ c.fresh-bit.ensures.emits (some_then _ c.in_ok-bit_by.ensures.emits
    (some_first _ c.in_err-product.ensures.emits)))

pub returns-in_err-product-2 : goal.returns-in_err-product-2
unfolding switch_of
returns-in_err-product-2 g c =
    refused_whole _ _ _ c.from_residual-in_err-product-2.ensures (some_then _ c.fresh-bit.ensures.emits (some_then _ c.in_ok-bit_by.ensures.emits
    (some_then _ c.in_ok-product.ensures.emits (some_first _ c.in_err-product-2.ensures.emits))))

pub returns : goal.returns
unfolding switch_of
returns g c = record {
  emits = all_then _ c.fresh-bit.ensures.emits (all_then _ c.in_ok-bit_by.ensures.emits (all_then _ c.in_ok-product.ensures.emits
      (all_last _ c.in_ok-product-2.ensures.emits refl)));
}

pub bit_by-requires : goal.bit_by-requires
bit_by-requires g c =
    let made = c.fresh-bit.ensures.emits.grows in
    record { room = left made c.requires.room refl refl; made = made_by made c.fresh-bit.ensures.next }

pub product-requires : goal.product-requires
product-requires g c =
    let made = c.fresh-bit.ensures.emits.grows in
    let bit = c.in_ok-bit_by.ensures.emits.grows in
    let grown = both made bit in
    record {
      room = left grown c.requires.room refl refl;
      b_made = kept bit (made_by made c.fresh-bit.ensures.next);
      x_made = within grown c.requires.x_made.first;
      y_made = within grown c.requires.y_made.first;
      x_short = c.requires.x_made.first_short;
      y_short = c.requires.y_made.first_short;
    }

pub product-requires-2 : goal.product-requires-2
product-requires-2 g c =
    let made = c.fresh-bit.ensures.emits.grows in
    let more = both c.in_ok-bit_by.ensures.emits.grows c.in_ok-product.ensures.emits.grows in
    let grown = both made more in
    record {
      room = left grown c.requires.room refl refl;
      b_made = kept more (made_by made c.fresh-bit.ensures.next);
      x_made = within grown c.requires.x_made.second;
      y_made = within grown c.requires.y_made.second;
      x_short = c.requires.x_made.second_short;
      y_short = c.requires.y_made.second_short;
    }
