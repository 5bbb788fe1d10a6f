-- The values of a network over items, and of the checks.
use Rattle.tv_core.proofs.Common.{◌≡◌, ℕ, zero, suc, ◌<◌, List, ◌++◌, length, Result, refl, sym, ◌∙◌, ap, ap₂, arith, joined_below, GivesAll, Line}
use Rattle.tv_core.proofs.JoinedLaws.{joined_below-zero, joined_below-suc}
use Rattle.tv_core.specs.Values.{ValuesMeaning, GivesSome, GivesIn}
use Rattle.tv_core.specs.declared.lines.PairNum.{PairNum}
use Rattle.tv_core.specs.declared.sink.SinkFault.{SinkFault}
use Rattle.tv_lines.specs.PackedLines.{unpacked}
use Rattle.tv_lines.specs.Placed.{number_in}
use Rattle.tv_network.specs.Filling.{pair_at}
use Rattle.tv_stages.proofs.Reorders.{places-at}
use Rattle.tv_stages.specs.Stages.{places}
use Rattle.tv_argument.specs.Checks.{Checks, check_values}
use Rattle.tv_argument.specs.Memory.{checks_values}
use Rattle.tv_argument.specs.declared.kinds.Kind.{Kind}
use Rattle.tv_argument.specs.declared.kinds.Kind.TheVariants.{ZeroOld, Least, Boot, Within}

-- ---- values of the same
pub joined_below-same : {A : Type 0} (n : ℕ) (f g : ℕ → List A) → ((i : ℕ) → i < n → f i ≡ g i) → joined_below n f ≡ joined_below n g
joined_below-same zero f g same = joined_below-zero f ∙ sym (joined_below-zero g)
joined_below-same (suc n) f g same =
    joined_below-suc n f ∙ ap₂ (λ a b. a ++ b) (joined_below-same n f g (λ i h. same i (omega arith))) (same n (omega arith)) ∙ sym (joined_below-suc n g)

-- the checks of lines against items that were moved
pub checks_moved : (checks : Checks) (n : ℕ) (item : ℕ → PairNum) (out : List PairNum) (lines : List Line) → n ≡ length lines → out ≡ places n item
    → checks_values checks (pair_at out) lines ≡ checks_values checks item lines
checks_moved checks n item out lines many moved =
    joined_below-same (length lines) (λ i. check_values (checks.kind i) (unpacked (pair_at out i)) (number_in lines i))
    (λ i. check_values (checks.kind i) (unpacked (item i)) (number_in lines i))
    (λ i h.
    ap (λ pair. check_values (checks.kind i) (unpacked pair) (number_in lines i))
    (ap (λ ps. pair_at ps i) moved ∙ places-at n i item (record { first = 0; second = 0 }) (omega arith)))

-- the values of a check don't depend on the line's new word
pub check_same : (kind : Kind) (p l m : Line) → l.cell ≡ m.cell → l.time ≡ m.time → l.old ≡ m.old → check_values kind p l ≡ check_values kind p m
check_same kind p l m cell time old = ap₂ (λ (c t : ℕ). check_values kind p (record { cell = c; time = t; old = l.old; new = l.new })) cell time
    ∙ ap (λ (o : ℕ). check_values kind p (record { cell = m.cell; time = m.time; old = o; new = l.new })) old
    ∙ left_out kind p (record { cell = m.cell; time = m.time; old = m.old; new = l.new }) m.new
  where
    left_out : (kind : Kind) (p l : Line) (n : ℕ) → check_values kind p l ≡ check_values kind p (record { cell = l.cell; time = l.time; old = l.old; new = n })
    left_out ZeroOld p l n = refl
    left_out Least p l n = refl
    left_out (Boot c) p l n = refl
    left_out (Within k) p l n = refl

-- ---- what was passed of a list, the list being written in another way
module _ {V : Type 0} (m : ValuesMeaning V) (xs ys : List ℕ) (old new : V) (same : xs ≡ ys) where
  pub given_all : GivesAll m old new xs → GivesAll m old new ys
  given_all p = rw same at p

  pub given_some : (fault : SinkFault) → GivesSome m old new xs fault → GivesSome m old new ys fault
  given_some fault p = rw same at p

  pub given_in : (result : Result (Unit {0}) SinkFault) → GivesIn m old new xs result → GivesIn m old new ys result
  given_in result p = rw same at p
