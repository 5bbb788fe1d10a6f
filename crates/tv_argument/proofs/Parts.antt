-- Lines by their places, and loops over them.
use Rattle.tv_core.proofs.Common.{◌≡◌, ℕ, zero, suc, ◌+◌, ◌<◌, ◌≤◌, ◌^◌, List, [], ◌∷◌, length, map, refl, sym, ap, ◌∙◌, arith, subst, get_or, inl, inr}
use Rattle.tv_core.proofs.Common.{cases_eq, cases_lt, length-map, each_below, Circuit, pure, turns, ◌>>=◌, Line}
use Rattle.std.proofs.lemmas.List.{get_or_past, get_or-map}
use Rattle.std.proofs.lemmas.List.FromFn.{fill_by_all}
use Rattle.tv_core.proofs.BelowLaws.{sum_below-zero, sum_below-suc}
use Rattle.tv_core.specs.Below.{sum_below}
use Rattle.tv_core.specs.Lines.{pair_value}
use Rattle.tv_core.specs.declared.lines.LineLc.{LineLc}
use Rattle.tv_core.specs.declared.lines.PairNum.{PairNum}
use Rattle.tv_lines.proofs.PackingLaws.{item_right}
use Rattle.tv_lines.specs.PackedLines.{packed_item, line_value, LineInRange}
use Rattle.tv_lines.specs.Placed.{no_line, line_in, zero_line, number_in, IsLine, LinesFrom}
use Rattle.tv_argument.specs.Memory.{items_of}

-- ---- lines by their places
pub placed : (t : ℕ) (ls : List Line) → LinesFrom t ls → (i : ℕ) (d : Line) → i < length ls → ((get_or ls i d).time ≡ t + i) × IsLine (get_or ls i d)
placed t [] h i d k = absurd (omega arith)
placed t (l ∷ ls) h zero d k = (h.0 ∙ omega arith, h.1)
placed t (l ∷ ls) h (suc i) d k = let later = placed (t + 1) ls h.2 i d (omega arith) in (later.0 ∙ omega arith, later.1)

pub map_value : {X Y : Type 0} (f : X → Y) (ls : List X) (i : ℕ) (d : X) → get_or (map f ls) i (f d) ≡ f (get_or ls i d)
map_value f [] i d = refl
map_value f (l ∷ ls) zero d = refl
map_value f (l ∷ ls) (suc i) d = map_value f ls i d

-- a list is what stands at its places
pub each_place : {X Y : Type 0} (f : X → Y) (d : X) (ls : List X) → each_below (length ls) (λ i. f (get_or ls i d)) ≡ map f ls
unfolding each_below
each_place f d ls = sym (fill_by_all (λ i. f (get_or ls i d)) (map f ls) (length ls) (f d) (length-map ls f) (λ i h. get_or-map f ls i d (f d) h))

module _ (z : List ℕ) (lines : List LineLc) (few : length lines ≤ 2 ^ 20) (from : LinesFrom 0 (map (line_value z) lines)) where
  pub number_is : (i : ℕ) → number_in (map (line_value z) lines) i ≡ line_value z (line_in lines i)
  number_is i = map_value (line_value z) lines i no_line

  pub at_place : (i : ℕ) → i < length lines → ((line_value z (line_in lines i)).time ≡ i) × IsLine (line_value z (line_in lines i))
  at_place i k =
      let p = placed 0 (map (line_value z) lines) from i zero_line (omega (arith, length-map lines (line_value z))) in
      (ap (λ (l : Line). l.time) (sym (number_is i)) ∙ p.0 ∙ omega arith, subst IsLine (number_is i) p.1)

  pub in_range : (i : ℕ) → LineInRange (line_value z (line_in lines i))
  in_range i = elim (cases_lt i (length lines)) [
    | inl here ↦ let p = at_place i here in record { cell = p.1.cell; time = omega (arith, p.0); old = p.1.old; new = p.1.new }
    | inr past ↦
        let none : line_in lines i ≡ no_line = get_or_past lines i no_line (omega arith) in
        subst (λ l. LineInRange (line_value z l)) (sym none) (omega arith)
  ]

  pub packs : ◌≡◌ {A = ℕ → PairNum} (λ i. pair_value z (items_of lines i)) (λ i. packed_item (number_in (map (line_value z) lines) i))
  packs = λ j i. (item_right z (line_in lines i) (in_range i) ∙ ap packed_item (sym (number_is i))) j

-- numbers of lines are in range, at each place
pub ranged : (lines : List Line) → length lines ≤ 2 ^ 20 → LinesFrom 0 lines → (j : ℕ) → LineInRange (number_in lines j)
ranged lines few from j = elim (cases_lt j (length lines)) [
  | inl here ↦ let p = placed 0 lines from j zero_line here in record { cell = p.1.cell; time = omega (arith, p.0); old = p.1.old; new = p.1.new }
  | inr past ↦ subst LineInRange (sym (get_or_past lines j zero_line past)) (omega arith)
]

-- ---- pieces of a loop, each with its own number of wires
pub turns_end : (piece : ℕ → Circuit (Unit {0})) (made : ℕ → ℕ) → ((i at : ℕ) → (piece i at).next ≡ at + made i)
    → (n next : ℕ) → (turns n (λ i _. piece i) tt next).next ≡ next + sum_below n made
unfolding turns pure ◌>>=◌
turns_end piece made each zero next = omega (arith, sum_below-zero made)
turns_end piece made each (suc n) next =
    each n (turns n (λ i _. piece i) tt next).next ∙ omega (arith, turns_end piece made each n next, sum_below-suc n made)

pub sum_next : (i : ℕ) (f : ℕ → ℕ) → sum_below (i + 1) f ≡ sum_below i f + f i
sum_next i f = let e : i + 1 ≡ suc i = omega arith in ap (λ n. sum_below n f) e ∙ sum_below-suc i f

-- a sum up to a place, and the summand there, are at most the whole sum
pub sum_most : (n i : ℕ) (f : ℕ → ℕ) → i < n → sum_below i f + f i ≤ sum_below n f
sum_most zero i f h = absurd (omega arith)
sum_most (suc n) i f h = elim (cases_eq i n) [
  | inl same ↦ subst (λ i. sum_below i f + f i ≤ sum_below (suc n) f) (sym same) (omega (arith, sum_below-suc n f))
  | inr apart ↦ omega (arith, sum_most n i f (omega arith), sum_below-suc n f)
]
