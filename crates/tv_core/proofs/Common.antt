-- The names that most proofs of circuits and files cite, passed on from one place. Declares nothing.
pub use Rattle.std.proofs.Common.{All, Bool, Err, List, None, Ok, Option, Result, Some, [], add-one, ap, append-nil, append_assoc, ap₂, arith, cond, drop}
pub use Rattle.std.proofs.Common.{false, get_or, if◌then◌else◌, inl, inr, length, map, mod-eq_of_lt, mod-lt, nat_lt, not, refl, rules, set, subst, suc, sym}
pub use Rattle.std.proofs.Common.{take, true, zero, zero-mul, ℕ, ◌%◌, ◌*◌, ◌++◌, ◌+◌, ◌-◌, ◌/◌, ◌<◌, ◌==◌, ◌^◌, ◌∙◌, ◌∷◌, ◌≡◌, ◌≢◌, ◌≤◌, ◌⊎◌}
pub use Rattle.std.proofs.Math.Nat.{pow-le-pow_right}
pub use Rattle.std.proofs.lemmas.Bool.{cases_eq, cases_lt, cond_both, eq-eqb, eqb-true, le-ltb, lt-ltb, ne_eqb}
pub use Rattle.std.proofs.lemmas.Bool.Decides.{nat_tests}
pub use Rattle.std.proofs.lemmas.Grind.{common_steps}
pub use Rattle.std.proofs.lemmas.List.{length-append, length-map}
pub use Rattle.std.specs.Int.{bit_at}
pub use Rattle.std.specs.List.{range_with_len}
pub use Rattle.std.specs.Prelude.{slice_index}
pub use Rattle.tv_word.proofs.WidthLaws.{for_widths, width_short}
pub use Rattle.tv_word.specs.Widths.{IsWidth}
pub use Rattle.tv_word.specs.Word.{flag_of}
pub use Rattle.tv_core.proofs.BelowLaws.{length-each_below}
pub use Rattle.tv_core.proofs.Chain.{all_last, all_then, emits_as, emits_here, emits_in, emits_no_turn, emits_turn, refused, refused_whole}
pub use Rattle.tv_core.proofs.Chain.{refused_wires, some_first, some_then, then_in, turn_some}
pub use Rattle.tv_core.proofs.CombinationLaws.{value-append, value-below, value-cons, value-less, value-wire, wire-below}
pub use Rattle.tv_core.proofs.FieldLaws.{InField-cons, InField-none}
pub use Rattle.tv_core.proofs.MeetsLaws.{HasFrom-split, Meets-join, Meets-split}
pub use Rattle.tv_core.proofs.ValuesChain.{first_given, gives_refused, gives_refused_whole, in_given}
unfoldable pub use Rattle.tv_core.specs.Below.{each_below, joined_below}
pub use Rattle.tv_core.specs.Circuits.{Circuit}
unfoldable pub use Rattle.tv_core.specs.Circuits.{fresh, here, pure, put, turns, ◌>>=◌}
pub use Rattle.tv_core.specs.Combinations.{constant, less, scaled, top, wire}
pub use Rattle.tv_core.specs.Constraints.{Combination, Constraint, value}
pub use Rattle.tv_core.specs.Laws.{Assigns, HasFrom, InField, Meets}
pub use Rattle.tv_core.specs.Lines.{Line}
pub use Rattle.tv_core.specs.Loops.{sequence}
pub use Rattle.tv_core.specs.Meanings.{terms_in}
pub use Rattle.tv_core.specs.Normal.{AreNormal, IsNormal, IsNormalFrom}
unfoldable pub use Rattle.tv_core.specs.Normal.{normal}
pub use Rattle.tv_core.specs.Sinks.{EmitsAll, Grows, PutsAll}
pub use Rattle.tv_core.specs.Values.{GivesAll}
