-- What an outline stands for: the list of constraints that it expands to.
use Rattle.std.specs.Prelude.{ℕ, ◌+◌, ◌*◌, ◌/◌, ◌%◌, ◌^◌, ◌<◌, ◌≤◌, ◌==◌, not, List, [], ◌∷◌, ◌++◌, All, map, length}
use Rattle.std.specs.Prelude.{slice_get, slice_index, Option, None, Some, Vec}
use Rattle.std.specs.Global.{Global}
use Rattle.std.specs.List.{filter, flat_map, range_with_len}
use Rattle.tv_core.specs.Circuits.{Circuit}
use Rattle.tv_core.specs.Constraints.{Combination, Constraint, System}
use Rattle.tv_core.specs.declared.field.TheConstants.{P}
use Rattle.tv_outline.specs.declared.outline.Outline.{Outline}
use Rattle.tv_outline.specs.declared.outline.Region.{Region}
use Rattle.tv_outline.specs.declared.outline.Row.{Row}
use Rattle.tv_outline.specs.declared.outline.Term.{Term}

-- how many turns nested loops of these counts have
unfoldable pub turn_count : List ℕ → ℕ
turn_count [] = 1
turn_count (count ∷ inner) = count * turn_count inner

-- the digits of a turn, the outermost loop's first: they write the turn's number, so turns are in lexicographic order
unfoldable pub digits_of : List ℕ → ℕ → List ℕ
digits_of [] turn = []
digits_of (count ∷ inner) turn = turn / turn_count inner ∷ digits_of inner (turn % turn_count inner)

-- the values of a turn: its digits, and the two words of its pair of the image, 0 past the image's end
abbrev pub values_of : List ℕ → Region → ℕ → List ℕ
values_of words region turn =
    let at = 2 * (region.first_pair + turn) in
    digits_of region.counts.items turn ++ slice_index words at ∷ slice_index words (at + 1) ∷ []

-- the sum of each weight times its value, as far as there are both
unfoldable pub weighed : List ℕ → List ℕ → ℕ
weighed [] values = 0
weighed (weight ∷ weights) [] = 0
weighed (weight ∷ weights) (value ∷ values) = weight * value + weighed weights values

-- the weights of a move or a rate; one that the region has not is all 0
abbrev pub weights_of : Option (Vec ℕ Global) → List ℕ
weights_of None = []
weights_of (Some weights) = weights.items

-- a term in a turn of these values
abbrev pub coefficient_in : Region → List ℕ → Term → ℕ
coefficient_in region values term = (term.coefficient + weighed (weights_of (slice_get region.rates.items term.rate)) values) % P

abbrev pub wire_in : Region → List ℕ → Term → ℕ
wire_in region values term = (term.wire + weighed (weights_of (slice_get region.moves.items term.shift)) values) % 2 ^ 32

-- terms in a turn, less those whose coefficient is 0
unfoldable pub combination_in : Region → List ℕ → List Term → Combination
combination_in region values terms =
    filter (λ t. not (t.0 == 0)) (map (λ term. (coefficient_in region values term, wire_in region values term)) terms)

-- a row in a turn
abbrev pub constraint_in : Region → List ℕ → Row → Constraint
constraint_in region values row = record {
  a = combination_in region values row.a.items;
  b = combination_in region values row.b.items;
  c = combination_in region values row.c.items;
}

-- the constraints of a turn, of a region, and of an outline
abbrev pub turn_of : List ℕ → Region → ℕ → List Constraint
turn_of words region turn = map (constraint_in region (values_of words region turn)) region.rows.items

abbrev pub region_of : List ℕ → Region → List Constraint
region_of words region = flat_map (turn_of words region) (range_with_len 0 (turn_count region.counts.items))

unfoldable pub expansion_of : Outline → List Constraint
expansion_of outline = flat_map (region_of outline.words.items) outline.regions.items

-- the constraints of a list, one after another, with no wire made
unfoldable pub put_all : List Constraint → Circuit (Unit {0})
put_all list next = record { answer = tt; list = list; next = next }

-- the system of an outline
abbrev pub system_of : Outline → System
system_of outline = record {
  wires = outline.wires;
  outputs = outline.outputs;
  inputs = outline.inputs;
  constraints = expansion_of outline;
}

-- a row whose combinations an `Lc` has room for
pub record IsShort (row : Row) : Type 0 where
  pub a : length row.a.items ≤ 128
  pub b : length row.b.items ≤ 128
  pub c : length row.c.items ≤ 128

-- a region of some such rows and some turns, fewer than 2 ^ 32, in at most 64 loops
pub record IsProper (region : Region) : Type 0 where
  pub loops : length region.counts.items ≤ 64
  pub turns : 0 < turn_count region.counts.items
  pub few : turn_count region.counts.items < 2 ^ 32
  pub rows : 0 < length region.rows.items
  pub short : All IsShort region.rows.items

-- an outline of such regions, whose public wires have numbers below 2 ^ 32
pub record IsOutline (outline : Outline) : Type 0 where
  pub publics : 1 + outline.outputs + outline.inputs < 2 ^ 32
  pub regions : All IsProper outline.regions.items
