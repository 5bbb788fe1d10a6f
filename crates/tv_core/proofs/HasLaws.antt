-- What an assignment has, from what it has at each wire.
use Rattle.std.proofs.Common.{◌≡◌, ℕ, zero, suc, ◌+◌, ◌<◌, List, ◌++◌, length, map, sym, ◌∙◌, ap, arith, add-zero, zero-add}
use Rattle.std.specs.List.{range_with_len}
use Rattle.std.specs.Prelude.{slice_index}
use Rattle.tv_core.proofs.MeetsLaws.{HasFrom-split}
use Rattle.tv_core.specs.Below.{each_below}
use Rattle.tv_core.specs.Laws.{HasFrom}

has_range_of : (z : List ℕ) (first a n : ℕ) (f : ℕ → ℕ) → ((i : ℕ) → i < n → slice_index z (first + i) ≡ f (a + i))
    → HasFrom z first (map f (range_with_len a n))
has_range_of z first a zero f each = tt
has_range_of z first a (suc n) f each = (
  ap (λ k. slice_index z k) (sym (add-zero first)) ∙ each 0 (omega arith) ∙ ap f (add-zero a),
  has_range_of z (first + 1) (a + 1) n f (λ i h.
      let wire : first + 1 + i ≡ first + suc i = omega arith in
      let place : a + suc i ≡ a + 1 + i = omega arith in
      ap (λ k. slice_index z k) wire ∙ each (suc i) (omega arith) ∙ ap f place),
)

-- an assignment that has each number of a list has the list
pub has_of_each : (z : List ℕ) (first n : ℕ) (f : ℕ → ℕ) → ((i : ℕ) → i < n → slice_index z (first + i) ≡ f i) → HasFrom z first (each_below n f)
unfolding each_below
has_of_each z first n f each = has_range_of z first 0 n f (λ i h. each i h ∙ ap f (sym (zero-add i)))

-- what is had after n values
pub HasFrom-after : (z : List ℕ) (at next n : ℕ) (xs rest : List ℕ) → length xs ≡ n → next ≡ at + n → HasFrom z at (xs ++ rest)
    → HasFrom z at xs × HasFrom z next rest
HasFrom-after z at next n xs rest size place has = search (arith, HasFrom-split)
