-- Columns of values, given one after another.
use Rattle.tv_core.proofs.Common.{◌≡◌, ℕ, zero, suc, ◌+◌, ◌-◌, ◌*◌, ◌^◌, ◌<◌, Bool, List, ◌++◌, refl, sym, ◌∙◌, ap, ap₂, subst, arith}
use Rattle.tv_core.proofs.Common.{add-one, Result, GivesAll}
use Rattle.tv_core.proofs.ValuesChain.{gives_then, gives_then_refused, gives_refused_then, gives_nothing}
use Rattle.tv_core.specs.Values.{ValuesMeaning, GivesSome, GivesIn}
use Rattle.tv_core.specs.declared.lines.PairNum.{PairNum}
use Rattle.tv_core.specs.declared.sink.SinkFault.{SinkFault}
use Rattle.tv_benes.specs.Network.{switch_values, column_values, last_column_values, network_values}
use Rattle.tv_benes.specs.declared.shape.Net.{Net}
use Rattle.tv_benes.specs.Through.{switches, from, to_upper, to_lower}

module _ {V : Type 0} (m : ValuesMeaning V) (bit : ℕ → Bool) (item : ℕ → PairNum) where
  pub no_switch : (v : V) → GivesAll m v v (column_values 0 bit item)
  unfolding column_values
  no_switch v = gives_nothing m v

  more : (n : ℕ) → column_values (n + 1) bit item ≡ column_values n bit item ++ switch_values (bit n) (item (2 * n)) (item (2 * n + 1))
  unfolding column_values
  more n = ap (λ k. column_values k bit item) (add-one n)

  pub one_switch : (n : ℕ) (old mid new : V) → GivesAll m old mid (column_values n bit item)
      → GivesAll m mid new (switch_values (bit n) (item (2 * n)) (item (2 * n + 1)))
      → GivesAll m old new (column_values (n + 1) bit item)
  one_switch n old mid new p q = subst (λ l. GivesAll m old new l) (sym (more n)) (gives_then m _ _ old mid new p q)

  refused_by : (n k : ℕ) (old new : V) (fault : SinkFault) → GivesSome m old new (column_values (n + 1) bit item) fault
      → GivesSome m old new (column_values (n + 1 + k) bit item) fault
  refused_by n zero old new fault p = let same : n + 1 + 0 ≡ n + 1 = omega arith in
      subst (λ j. GivesSome m old new (column_values j bit item) fault) (sym same) p
  refused_by n (suc k) old new fault p =
      let same : n + 1 + suc k ≡ n + 1 + k + 1 = omega arith in
      subst (λ j. GivesSome m old new (column_values j bit item) fault) (sym same)
      (subst (λ l. GivesSome m old new l fault) (sym (more (n + 1 + k))) (gives_refused_then m _ _ old new fault (refused_by n k old new fault p)))

  pub switch_refused : (n j : ℕ) (old mid new : V) (fault : SinkFault) → j < n → GivesAll m old mid (column_values j bit item)
      → GivesSome m mid new (switch_values (bit j) (item (2 * j)) (item (2 * j + 1))) fault → GivesSome m old new (column_values n bit item) fault
  switch_refused n j old mid new fault h p q =
      let same : j + 1 + (n - (j + 1)) ≡ n = omega arith in
      subst (λ k. GivesSome m old new (column_values k bit item) fault) same
      (refused_by j (n - (j + 1)) old new fault (subst (λ l. GivesSome m old new l fault) (sym (more j)) (gives_then_refused m _ _ old mid new fault p q)))

-- the values of a network, by its level
pub network_values-zero : (net : Net) (h : ℕ) (bit : ℕ → Bool) (item : ℕ → PairNum) → h ≡ 0
    → network_values net h bit item ≡ column_values 1 bit item
unfolding network_values
network_values-zero net h bit item none = ap (λ k. network_values net k bit item) none

pub values_of_parts : (net : Net) (h : ℕ) {n s : ℕ} (bit : ℕ → Bool) (item : ℕ → PairNum) → (h ≡ 0 → ⊥) → n ≡ 2 ^ h → s ≡ switches net (h - 1)
    → column_values n bit item
    ++ (network_values net (h - 1) (from n bit) (to_upper bit item)
    ++ (network_values net (h - 1) (from (n + s) bit) (to_lower bit item) ++ last_column_values net (h - 1) bit item)) ≡ network_values net h bit item
unfolding network_values
values_of_parts net zero bit item some n_is s_is = absurd (some refl)
values_of_parts net (suc k) {n} {s} bit item some n_is s_is =
    let same : suc k - 1 ≡ k = omega arith in ap₂ (λ n s. parts (suc k - 1) n s) n_is s_is ∙ ap (λ l. parts l (2 ^ suc k) (switches net l)) same
  where
    parts : ℕ → ℕ → ℕ → List ℕ
    parts l n s = column_values n bit item
        ++ (network_values net l (from n bit) (to_upper bit item)
        ++ (network_values net l (from (n + s) bit) (to_lower bit item) ++ last_column_values net l bit item))

pub values_as : (b b' : Bool) (x x' y y' : PairNum) → b ≡ b' → x ≡ x' → y ≡ y' → switch_values b x y ≡ switch_values b' x' y'
values_as b b' x x' y y' p q r = ap (λ c. switch_values c x y) p ∙ ap₂ (λ m n. switch_values b' m n) q r

-- values that are those of another list
module _ {V : Type 0} {m : ValuesMeaning V} {old new : V} {xs ys : List ℕ} (same : xs ≡ ys) where
  pub all_as : GivesAll m old new xs → GivesAll m old new ys
  all_as p = subst (λ l. GivesAll m old new l) same p

  pub some_as : {fault : SinkFault} → GivesSome m old new xs fault → GivesSome m old new ys fault
  some_as {fault} p = subst (λ l. GivesSome m old new l fault) same p

pub in_as : {V : Type 0} (m : ValuesMeaning V) {xs ys : List ℕ} → xs ≡ ys → (old new : V) (result : Result (Unit {0}) SinkFault) → GivesIn m old new xs result
    → GivesIn m old new ys result
in_as m same old new result p = subst (λ l. GivesIn m old new l result) same p
