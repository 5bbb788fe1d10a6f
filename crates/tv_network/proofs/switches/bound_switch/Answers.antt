use Rattle.tv_core.proofs.Common.{refl, ap₂, all_then, some_then, some_first, refused_whole, all_last}
use Rattle.tv_bits.proofs.Growing.{both, within, kept, left, made_by}
use Rattle.tv_bits.specs.Select.{select_of}
use Rattle.tv_network.proofs.Emitting.{all_at, some_at}
use Rattle.tv_network.proofs.Emitting.{max_within, max_short}
use Rattle.tv_network.specs.Switches.{switch_of}
use Rattle.tv_network.proofs.switches.bound_switch.Goals as goal

pub returns-in_err-bit_by : goal.returns-in_err-bit_by
unfolding switch_of
returns-in_err-bit_by g c =
    refused_whole _ _ _ c.from_residual.ensures (some_then _ c.fresh-b.ensures.emits (some_first _ c.in_err-bit_by.ensures.emits))

pub returns-in_err-first : goal.returns-in_err-first
unfolding switch_of
returns-in_err-first g c =
    refused_whole _ _ _ c.from_residual-in_err-first.ensures (some_then _ c.fresh-b.ensures.emits (some_then _ c.in_ok-bit_by.ensures.emits
    (some_first _ (some_at (ap₂ (select_of c.fresh-b.result) c.terms.ensures.terms c.terms-2.ensures.terms) c.in_err-first.ensures.emits))))

pub returns-in_err-second : goal.returns-in_err-second
unfolding switch_of
returns-in_err-second g c =
    refused_whole _ _ _ c.from_residual-in_err-second.ensures (some_then _ c.fresh-b.ensures.emits (some_then _ c.in_ok-bit_by.ensures.emits
    (some_then _ (all_at (ap₂ (select_of c.fresh-b.result) c.terms.ensures.terms c.terms-2.ensures.terms) c.in_ok-first.ensures.emits)
    (some_first _ (some_at (ap₂ (select_of c.fresh-b.result) c.terms-3.ensures.terms c.terms-4.ensures.terms) c.in_err-second.ensures.emits)))))

pub returns-in_err-remainder : goal.returns-in_err-remainder
unfolding switch_of
returns-in_err-remainder g c =
    refused_whole _ _ _ c.from_residual-in_err-remainder.ensures (some_then _ c.fresh-b.ensures.emits (some_then _ c.in_ok-bit_by.ensures.emits
    (some_then _ (all_at (ap₂ (select_of c.fresh-b.result) c.terms.ensures.terms c.terms-2.ensures.terms) c.in_ok-first.ensures.emits)
    (some_then _ (all_at (ap₂ (select_of c.fresh-b.result) c.terms-3.ensures.terms c.terms-4.ensures.terms) c.in_ok-second.ensures.emits)
    (some_first _ c.in_err-remainder.ensures.emits)))))

pub returns-in_err-remainder-2 : goal.returns-in_err-remainder-2
unfolding switch_of
returns-in_err-remainder-2 g c =
    refused_whole _ _ _ c.from_residual-in_err-remainder-2.ensures (some_then _ c.fresh-b.ensures.emits (some_then _ c.in_ok-bit_by.ensures.emits
    (some_then _ (all_at (ap₂ (select_of c.fresh-b.result) c.terms.ensures.terms c.terms-2.ensures.terms) c.in_ok-first.ensures.emits)
    (some_then _ (all_at (ap₂ (select_of c.fresh-b.result) c.terms-3.ensures.terms c.terms-4.ensures.terms) c.in_ok-second.ensures.emits)
    (some_then _ c.in_ok-remainder.ensures.emits
    (some_first _ c.in_err-remainder-2.ensures.emits))))))

pub returns : goal.returns
unfolding switch_of
returns g c = record {
  emits = all_then _ c.fresh-b.ensures.emits
      (all_then _ c.in_ok-bit_by.ensures.emits
      (all_then _ (all_at (ap₂ (select_of c.fresh-b.result) c.terms.ensures.terms c.terms-2.ensures.terms) c.in_ok-first.ensures.emits)
      (all_then _ (all_at (ap₂ (select_of c.fresh-b.result) c.terms-3.ensures.terms c.terms-4.ensures.terms) c.in_ok-second.ensures.emits)
      (all_then _ c.in_ok-remainder.ensures.emits (all_last _ c.in_ok-remainder-2.ensures.emits refl)))));
}

pub bit_by-requires : goal.bit_by-requires
bit_by-requires g c =
    let made = c.fresh-b.ensures.emits.grows in
    record { room = left made c.requires.room refl refl; made = made_by made c.fresh-b.ensures.next }

pub select_terms-requires : goal.select_terms-requires
select_terms-requires g c =
    let made = c.fresh-b.ensures.emits.grows in
    let bit = c.in_ok-bit_by.ensures.emits.grows in
    let grown = both made bit in
    record {
      room = left grown c.requires.room refl refl;
      b_made = kept bit (made_by made c.fresh-b.ensures.next);
      made = max_within _ c.terms.ensures.terms c.terms-2.ensures.terms (within grown c.requires.y_made.first) (within grown c.requires.x_made.first);
      short = max_short c.terms.ensures.terms c.terms-2.ensures.terms c.requires.y_made.first_short c.requires.x_made.first_short;
    }

pub select_terms-requires-2 : goal.select_terms-requires-2
select_terms-requires-2 g c =
    let made = c.fresh-b.ensures.emits.grows in
    let more = both c.in_ok-bit_by.ensures.emits.grows c.in_ok-first.ensures.emits.grows in
    let grown = both made more in
    record {
      room = left grown c.requires.room refl refl;
      b_made = kept more (made_by made c.fresh-b.ensures.next);
      made = max_within _ c.terms-3.ensures.terms c.terms-4.ensures.terms (within grown c.requires.y_made.second) (within grown c.requires.x_made.second);
      short = max_short c.terms-3.ensures.terms c.terms-4.ensures.terms c.requires.y_made.second_short c.requires.x_made.second_short;
    }

pub remainder-requires : goal.remainder-requires
remainder-requires g c =
    let bit = both c.fresh-b.ensures.emits.grows c.in_ok-bit_by.ensures.emits.grows in
    let grown = both (both bit c.in_ok-first.ensures.emits.grows) c.in_ok-second.ensures.emits.grows in
    record {
      room = left grown c.requires.room refl refl;
      p_made = kept c.in_ok-second.ensures.emits.grows c.in_ok-first.ensures.below;
      x_made = within grown c.requires.x_made.first;
      y_made = within grown c.requires.y_made.first;
      x_short = c.requires.x_made.first_short;
      y_short = c.requires.y_made.first_short;
    }

pub remainder-requires-2 : goal.remainder-requires-2
remainder-requires-2 g c =
    let choices = both c.in_ok-first.ensures.emits.grows c.in_ok-second.ensures.emits.grows in
    let grown = both (both (both c.fresh-b.ensures.emits.grows c.in_ok-bit_by.ensures.emits.grows) choices) c.in_ok-remainder.ensures.emits.grows in
    record {
      room = left grown c.requires.room refl refl;
      p_made = kept c.in_ok-remainder.ensures.emits.grows c.in_ok-second.ensures.below;
      x_made = within grown c.requires.x_made.second;
      y_made = within grown c.requires.y_made.second;
      x_short = c.requires.x_made.second_short;
      y_short = c.requires.y_made.second_short;
    }
