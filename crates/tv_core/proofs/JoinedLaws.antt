-- Lists f 0, f 1, .. one after another: how long they are, what an assignment has of them, and loops that give them.
use Rattle.std.proofs.Common.{◌≡◌, ℕ, zero, suc, ◌+◌, ◌-◌, ◌*◌, ◌<◌, List, [], ◌∷◌, ◌++◌, length, refl, inl, inr, sym, ap, ◌∙◌, subst, arith, add-one}
use Rattle.std.proofs.Common.{zero-add, zero-mul, length-append}
use Rattle.std.specs.List.{range_with_len, flat_map}
use Rattle.std.proofs.lemmas.Bool.{cases_eq}
use Rattle.std.proofs.lemmas.Grind.{flat_map-append}
use Rattle.std.proofs.lemmas.List.{append-nil}
use Rattle.tv_core.proofs.BelowLaws.{range-more}
use Rattle.tv_core.proofs.ValuesChain.{gives_then, gives_then_refused, gives_refused_then, gives_nothing}
use Rattle.tv_core.proofs.MeetsLaws.{HasFrom-split}
use Rattle.tv_core.specs.Below.{joined_below}
use Rattle.tv_core.specs.Values.{ValuesMeaning, GivesAll, GivesSome}
use Rattle.tv_core.specs.Laws.{HasFrom}
use Rattle.tv_core.specs.declared.sink.SinkFault.{SinkFault}

pub joined_below-zero : {A : Type 0} (f : ℕ → List A) → joined_below 0 f ≡ []
unfolding joined_below
joined_below-zero f = refl

pub joined_below-suc : {A : Type 0} (n : ℕ) (f : ℕ → List A) → joined_below (suc n) f ≡ joined_below n f ++ f n
unfolding joined_below
joined_below-suc n f =
    ap (flat_map f) (range-more 0 n) ∙ flat_map-append f (range_with_len 0 n) ((0 + n) ∷ [])
    ∙ ap (λ l. flat_map f (range_with_len 0 n) ++ l) (append-nil (f (0 + n)) ∙ ap f (zero-add n))

-- lists of one length each
pub length-joined_below : {A : Type 0} (n made : ℕ) (f : ℕ → List A) → ((i : ℕ) → i < n → length (f i) ≡ made) → length (joined_below n f) ≡ n * made
length-joined_below zero made f each = ap length (joined_below-zero f) ∙ sym (zero-mul made)
length-joined_below (suc n) made f each =
    ap length (joined_below-suc n f) ∙ length-append (joined_below n f) (f n)
    ∙ omega (arith, length-joined_below n made f (λ i h. each i (omega arith)), each n (omega arith))

-- an assignment that has them has each, at its place
pub has_each_list : (z : List ℕ) (first n made : ℕ) (f : ℕ → List ℕ) → ((i : ℕ) → i < n → length (f i) ≡ made)
    → HasFrom z first (joined_below n f) → (i : ℕ) → i < n → HasFrom z (first + i * made) (f i)
has_each_list z first zero made f each has i h = absurd (omega arith)
has_each_list z first (suc n) made f each has i h =
    let parts = HasFrom-split z first (joined_below n f) (f n) (subst (HasFrom z first) (joined_below-suc n f) has) in
    let size = length-joined_below n made f (λ i h. each i (omega arith)) in
    elim (cases_eq i n) [
      | inl same ↦ let place : first + length (joined_below n f) ≡ first + i * made = ap (λ k. first + k) (size ∙ ap (λ k. k * made) (sym same)) in
          subst (λ k. HasFrom z (first + i * made) (f k)) (sym same) (subst (λ k. HasFrom z k (f n)) place parts.1)
      | inr apart ↦ has_each_list z first n made f (λ i h. each i (omega arith)) parts.0 i (omega arith)
    ]

-- each turn makes a list
module _ {V : Type 0} (m : ValuesMeaning V) (f : ℕ → List ℕ) where
  pub gives_no_list : (v : V) → GivesAll m v v (joined_below 0 f)
  gives_no_list v = rw joined_below-zero (gives_nothing m v)

  pub gives_list : (n : ℕ) (old mid new : V) → GivesAll m old mid (joined_below n f) → GivesAll m mid new (f n) → GivesAll m old new (joined_below (n + 1) f)
  gives_list n old mid new p q = rw (add-one, joined_below-suc) (gives_then m (joined_below n f) (f n) old mid new p q)

  refused_by : (n more : ℕ) (old new : V) (fault : SinkFault) → GivesSome m old new (joined_below (suc n) f) fault
      → GivesSome m old new (joined_below (suc n + more) f) fault
  refused_by n zero old new fault p = let same : suc n + 0 ≡ suc n = omega arith in rw same p
  refused_by n (suc more) old new fault p =
      let same : suc n + suc more ≡ suc (suc n + more) = omega arith in
      rw (same, joined_below-suc) (gives_refused_then m (joined_below (suc n + more) f) (f (suc n + more)) old new fault (refused_by n more old new fault p))

  pub gives_list_refused : (n i : ℕ) (old mid new : V) (fault : SinkFault) → i < n → GivesAll m old mid (joined_below i f) → GivesSome m mid new (f i) fault
      → GivesSome m old new (joined_below n f) fault
  gives_list_refused n i old mid new fault h p q =
      let same : suc i + (n - suc i) ≡ n = omega arith in
      let last = joined_below-suc i f in
      rw (← same) (refused_by i (n - suc i) old new fault (rw last (gives_then_refused m (joined_below i f) (f i) old mid new fault p q)))
