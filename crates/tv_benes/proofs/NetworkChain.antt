-- The parts of a network, emitted one after another, and the room that they take.
use Rattle.tv_core.proofs.Common.{◌≡◌, ℕ, zero, suc, ◌+◌, ◌-◌, ◌*◌, ◌/◌, ◌^◌, ◌≤◌, ◌<◌, Result, Ok, Err, refl, sym, ap, ◌∙◌, subst, arith, false}
use Rattle.tv_core.proofs.Common.{all_last, all_then, emits_as, emits_here, emits_in, some_first, some_then, then_in, Circuit, here, ◌>>=◌, EmitsAll}
use Rattle.std.specs.Prelude.{IfOk}
use Rattle.tv_benes.proofs.Sizes.{network_below}
use Rattle.tv_benes.proofs.ThroughLaws.{missing_small, one_switch, above, alternating_keeps}
use Rattle.tv_benes.specs.Network.{column_of, last_column_of, network_of}
use Rattle.tv_benes.specs.Places.{wires_at, row, output, output_wire, column_outputs, last_pair, IsPairMade, ArePairsMade, AreBelow}
use Rattle.tv_benes.specs.Through.{switches, missing}
use Rattle.tv_benes.specs.declared.places.Ends.{Ends}
use Rattle.tv_benes.specs.declared.shape.Net.{Net}
use Rattle.tv_core.specs.Sinks.{Meaning, PutsSome, Emits}
use Rattle.tv_core.specs.declared.lines.Pair.{Pair}
use Rattle.tv_core.specs.declared.sink.SinkFault.{SinkFault}

-- ---- pairs that are made of wires below a number
pub made_at : (pair : ℕ → Pair) (count wires more : ℕ) → wires ≤ more → ArePairsMade pair count wires → (i : ℕ) → i < count → IsPairMade (pair i) more
made_at pair count wires more later made i h = record {
  first = omega (arith, made.first i h);
  second = omega (arith, made.second i h);
  first_short = made.first_short i h;
  second_short = made.second_short i h;
}

made_by : (pair : ℕ → Pair) (count wires : ℕ) → ((i : ℕ) → i < count → IsPairMade (pair i) wires) → ArePairsMade pair count wires
made_by pair count wires each = record {
  first = λ i h. (each i h).first;
  second = λ i h. (each i h).second;
  first_short = λ i h. (each i h).first_short;
  second_short = λ i h. (each i h).second_short;
}

wires_made : (w wires : ℕ) → w + 1 < wires → IsPairMade (wires_at w) wires
wires_made w wires h = record { first = omega arith; second = omega arith; first_short = omega arith; second_short = omega arith }

-- the items of a last column
pub last_made : (net : Net) (u l : Ends) (n wires : ℕ) → 1 ≤ n → AreBelow u n wires → AreBelow l n wires
    → ArePairsMade (last_pair net u l) (2 * (n - missing net)) wires
last_made net u l n wires some upper lower = let one = missing_small net in
    made_by (last_pair net u l) (2 * (n - missing net)) wires (λ i h.
    alternating_keeps (λ (p : Pair). IsPairMade p wires) (output u) (output l) (i + 2 * missing net)
    (wires_made (output_wire u ((i + 2 * missing net) / 2)) wires (upper ((i + 2 * missing net) / 2) (omega arith)))
    (wires_made (output_wire l ((i + 2 * missing net) / 2)) wires (lower ((i + 2 * missing net) / 2) (omega arith))))

-- ---- the wires of the parts
pub lowest_is : (net : Net) {h n : ℕ} → n ≡ 2 ^ h → h ≡ 0 → 5 * n ≡ 5 * switches net h
lowest_is net {h = h} same none = rw none (omega (arith, one_switch net, same ∙ ap (λ k. 2 ^ k) none))

-- above the lowest level, with n switches in a column
module _ (net : Net) {h n : ℕ} (same : n ≡ 2 ^ h) (some : h ≡ 0 → ⊥) where
  abbrev within : ℕ
  within = 5 * switches net (h - 1)

  abbrev Fits : ℕ → Type 0
  Fits k = (k ≤ 5 * switches net h) × (k ≤ 5 * switches net h)

  pub all_are : 5 * n + within + within + 5 * (2 ^ h - missing net) ≡ 5 * switches net h
  all_are = let below = above net h some in omega (arith, same, below.count, below.size, below.some, missing_small net)

  pub one_fits : Fits (5 * n + within)
  one_fits = (omega (arith, all_are), omega (arith, all_are))

  pub two_fit : Fits (5 * n + within + within)
  two_fit = (omega (arith, all_are), omega (arith, all_are))

  pub all_fit : Fits (5 * n + within + within + 5 * (2 ^ h - missing net))
  all_fit = (omega (arith, all_are), omega (arith, all_are))

  -- the networks within take their rows from the first column, whose wires begin at w
  pub row_made : (k more : ℕ) {at first w v : ℕ} → at ≡ first + k → k ≤ 3 → first ≡ w → v ≡ w + (5 * n + more) → ArePairsMade (row at) (2 * 2 ^ (h - 1)) v
  row_made k more {at} {first} {w} {v} e few f g =
      let size = (above net h some).size in
      made_by (row at) (2 * 2 ^ (h - 1)) v (λ i within. wires_made (at + 5 * i) v (omega arith))

-- ---- a network
module _ {S : Type 0} (m : Meaning S) (net : Net) where
  module _ (item : ℕ → Pair) {old : S} (whole : m.broken old ≡ false) {h n : ℕ} (same : n ≡ 2 ^ h) {new : S} where
    -- on two items, by its one switch
    pub lowest_put : h ≡ 0 → {first k : ℕ} → first ≡ m.wires old → EmitsAll m old new (column_of n item) k k tt
        → EmitsAll m old new (network_of net h item) k k (column_outputs first)
    unfolding network_of
    lowest_put none {k = k} at p = rw none (emits_as (omega arith) (omega arith) (all_then _ (emits_here whole at)
        (all_last _ (subst (λ n. EmitsAll m old new (column_of n item) k k tt) (same ∙ ap (λ k. 2 ^ k) none) p) refl)))

  pub column_refused : (item : ℕ → Pair) {old : S} → m.broken old ≡ false → (h : ℕ) {n : ℕ} → n ≡ 2 ^ h → {new : S} {fault : SinkFault}
      → PutsSome m old new (column_of n item) fault → PutsSome m old new (network_of net h item) fault
  unfolding network_of
  column_refused item {old} whole zero same {new} {fault} p =
      some_then _ (emits_here whole refl) (some_first _ (subst (λ k. PutsSome m old new (column_of k item) fault) same p))
  column_refused item {old} whole (suc h) same {new} {fault} p =
      some_then _ (emits_here whole refl) (some_first _ (subst (λ k. PutsSome m old new (column_of k item) fault) same p))

  -- the outputs of the emitted network are wires that there are
  pub put_ends : (h : ℕ) (item : ℕ → Pair) {old new : S} {e : Ends} {k l : ℕ} → EmitsAll m old new (network_of net h item) k l e
      → AreBelow e (2 ^ suc h) (m.wires new)
  put_ends h item {old} {new} p =
      subst (λ o. AreBelow o (2 ^ suc h) (m.wires new)) (sym p.puts.answers)
      (subst (λ end. AreBelow (network_of net h item (m.wires old)).answer (2 ^ suc h) end) (sym p.puts.next) (network_below net h (m.wires old) item))

-- what a call put, where a circuit is another
module _ {S : Type 0} {m : Meaning S} {A : Type 0} {a b : Circuit A} (same : a ≡ b) {old new : S} where
  pub all_at : {r : A} {k l : ℕ} → EmitsAll m old new a k l r → EmitsAll m old new b k l r
  all_at {r} {k} {l} p = subst (λ c. EmitsAll m old new c k l r) same p

  pub some_at : {fault : SinkFault} → PutsSome m old new a fault → PutsSome m old new b fault
  some_at {fault} p = subst (λ c. PutsSome m old new c fault) same p

-- above the lowest level: the first column, of n switches, the two networks within and the last column
abbrev parts_of : (net : Net) → ℕ → ℕ → ℕ → (ℕ → Pair) → Circuit Ends
parts_of net h k n item = do
  first ← here
  _ ← column_of n item
  upper ← network_of net k (row (first + 1))
  lower ← network_of net k (row (first + 3))
  last_column_of net h upper lower

-- above the lowest level: the first column of n switches was put, and the networks within at places from `first` on
module _ {S : Type 0} (m : Meaning S) (net : Net) {h n : ℕ} (item : ℕ → Pair) {old mid : S} {first k : ℕ} (same : n ≡ 2 ^ h)
    (some : h ≡ 0 → ⊥) (whole : m.broken old ≡ false) (at : first ≡ m.wires old)
    (column : EmitsAll m old mid (column_of n item) k k tt) where
  is : parts_of net h (h - 1) n item ≡ network_of net h item
  unfolding network_of
  is =
      let level = (above net h some).level in
      ap (λ m. parts_of net h (h - 1) m item) same ∙ ap (λ l. parts_of net l (h - 1) (2 ^ l) item) level ∙ ap (λ l. network_of net l item) (sym level)

  module _ {u : S} where
    pub upper_refused : {fault : SinkFault} → PutsSome m mid u (network_of net (h - 1) (row (first + 1))) fault
        → PutsSome m old u (network_of net h item) fault
    upper_refused p = some_at is (some_then _ (emits_here whole at) (some_then _ column (some_first _ p)))

    module _ {upper : Ends} {w : ℕ} (p : EmitsAll m mid u (network_of net (h - 1) (row (first + 1))) w w upper) {l : S} where
      pub lower_refused : {fault : SinkFault} → PutsSome m u l (network_of net (h - 1) (row (first + 3))) fault
          → PutsSome m old l (network_of net h item) fault
      lower_refused q = some_at is (some_then _ (emits_here whole at) (some_then _ column (some_then _ p (some_first _ q))))

      pub network_put : {lower : Ends} → EmitsAll m u l (network_of net (h - 1) (row (first + 3))) w w lower → (new : S) (r c : ℕ)
          (result : Result Ends SinkFault) → k + w + w + r ≡ c → Emits m l new (last_column_of net h upper lower) r r result
          → Emits m old new (network_of net h item) c c result
      network_put q new r c result e last =
          let all = 0 + (k + (w + (w + r))) in
          emits_in _ _ _ _ _ (omega (arith, e)) (omega (arith, e)) (subst (λ c. Emits m old new c all all result) is
          (then_in _ _ _ _ _ (emits_here whole at) (then_in _ _ _ _ _ column (then_in _ _ _ _ _ p (then_in _ _ _ _ _ q last)))))

pub ends_below : {S : Type 0} (m : Meaning S) (net : Net) (item : ℕ → Pair) (h : ℕ) (old new : S) (k l : ℕ) (result : Result Ends SinkFault)
    → Emits m old new (network_of net h item) k l result
    → IfOk result (λ o. AreBelow o (2 ^ suc h) (m.wires new))
ends_below m net item h old new k l (Ok o) p = put_ends m net h item p
ends_below m net item h old new k l (Err fault) p = tt
