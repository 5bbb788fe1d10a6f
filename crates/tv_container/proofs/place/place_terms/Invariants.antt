use Rattle.tv_core.proofs.Common.{◌≡◌, ◌+◌, ◌*◌, ◌++◌, ◌<◌, take}
use Rattle.std.specs.List.{All}
use Rattle.tv_core.specs.declared.field.TheConstants.{P}
use Rattle.tv_container.specs.Bytes.{terms_bytes}
use Rattle.tv_container.proofs.place.place_terms.Given as goal

abbrev pub invariant-loop-coefficient : goal.invariant-loop-coefficient
invariant-loop-coefficient l = record {
  place : l.at ≡ l.start + 12 * l.coefficient-index;
  bytes : take l.at l.bytes ≡ take l.start l.fn.bytes ++ terms_bytes (take l.coefficient-index l.terms);
  canonical : All (λ t. t.0 < P) (take l.coefficient-index l.terms);
}
