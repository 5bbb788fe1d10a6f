-- Lines are honest where each follows the line at its place in a reordering.
use Rattle.tv_core.proofs.Common.{◌≡◌, ◌≢◌, ◌⊎◌, ℕ, ◌^◌, ◌<◌, ◌≤◌, List, length, inl, inr, sym, ◌∙◌, ap, subst, arith, cases_eq, length-each_below}
use Rattle.tv_core.proofs.Common.{each_below, Line}
use Rattle.std.proofs.Common.{Contains}
use Rattle.std.proofs.lemmas.Bool.{cases_order}
use Rattle.tv_core.specs.Lines.{Honest}
use Rattle.tv_argument.proofs.Counts.{Falls, none_between, none_below}
use Rattle.tv_lines.proofs.Neighbours.{each_below-at}
use Rattle.tv_lines.proofs.OrderedLaws.{HonestByTimes}
use Rattle.tv_lines.proofs.PredecessorReach.{follows_rises}
use Rattle.tv_lines.proofs.TimeOrder.{Honest-from_times}
use Rattle.tv_lines.specs.Ordered.{Follows, InTimeOrder, key}
use Rattle.tv_stages.specs.Stages.{IsReordering}

-- n lines at the times 0, 1, ..: the line at place a begins at 0, and each other line follows the line at its place in p
pub record FollowBefore (n a : ℕ) (p : ℕ → ℕ) (line : ℕ → Line) : Type 0 where
  pub least : a < n
  pub times : (i : ℕ) → i < n → (line i).time ≡ i
  pub begins : (line a).old ≡ 0
  pub follows : (i : ℕ) → i < n → i ≢ a → Follows (line (p i)) (line i)

module _ (n a : ℕ) (p : ℕ → ℕ) (line : ℕ → Line) (few : n ≤ 2 ^ 20) (moved : IsReordering n p) (h : FollowBefore n a p line) where
  abbrev k : ℕ → ℕ
  k i = key (line i)

  small : (i : ℕ) → i < n → (line i).time < 2 ^ 20
  small i x = omega (arith, h.times i x)

  falls : Falls n a p k
  falls = record {
    exempt = h.least;
    permutes = moved;
    falls = λ i x other. follows_rises (line (p i)) (line i) (small (p i) (moved.below i x)) (small i x) (h.follows i x other);
  }

  -- the latest earlier line of the cell stands at the image
  latest : (b i : ℕ) → b < n → i < n → (line b).cell ≡ (line i).cell → (line b).time < (line i).time
      → ((m : ℕ) → m < n → (line m).cell ≡ (line i).cell → (line b).time < (line m).time → (line m).time < (line i).time → ⊥)
      → (line i).old ≡ (line b).new
  latest b i hb hi same early none = by (cases_eq i a)
    where
      tb : (line b).time ≡ b
      tb = h.times b hb

      ti : (line i).time ≡ i
      ti = h.times i hi

      at_image : i ≢ a → ((k (p i) ≡ k b) ⊎ ((k (p i) < k b) ⊎ (k b < k (p i)))) → (line i).old ≡ (line b).new
      at_image other (inl e) =
          let f = h.follows i hi other in
          let hp = moved.below i hi in
          let sp = small (p i) hp in
          let sb = small b hb in
          let t : (line (p i)).time ≡ (line b).time = omega arith in
          let is : p i ≡ b = sym (h.times (p i) hp) ∙ t ∙ tb in
          f.carried (ap (λ j. (line j).cell) is ∙ same) ∙ ap (λ j. (line j).new) is
      at_image other (inr (inl e)) =
          absurd (none_between n a p k falls i b hi other (omega arith) e (omega arith))
      at_image other (inr (inr e)) =
          let f = h.follows i hi other in
          let hp = moved.below i hi in
          let sp = small (p i) hp in
          let sb = small b hb in
          let si = small i hi in
          let g = follows_rises (line (p i)) (line i) sp si f in
          absurd (none (p i) hp (omega arith) (omega arith) (omega arith))

      by : ((i ≡ a) ⊎ (i ≢ a)) → (line i).old ≡ (line b).new
      by (inl e) =
          let s : k i ≡ k a = ap k e in
          absurd (none_below n a p k falls b hb (omega arith))
      by (inr other) = at_image other (cases_order (k (p i)) (k b))

  first : (i : ℕ) → i < n → ((m : ℕ) → m < n → (line m).cell ≡ (line i).cell → (line m).time < (line i).time → ⊥) → (line i).old ≡ 0
  first i hi none = by (cases_eq i a)
    where
      by : ((i ≡ a) ⊎ (i ≢ a)) → (line i).old ≡ 0
      by (inl e) = ap (λ j. (line j).old) e ∙ h.begins
      by (inr other) =
          let f = h.follows i hi other in
          let hp = moved.below i hi in
          let sp = small (p i) hp in
          let si = small i hi in
          let g = follows_rises (line (p i)) (line i) sp si f in
          f.fresh (λ same. none (p i) hp same (omega arith))

  abbrev lines : List Line
  lines = each_below n line

  long : length lines ≡ n
  long = length-each_below n line

  -- a member stands at a place
  member : (m : Line) → Contains lines m → (i : ℕ) × (i < n) × (line i ≡ m)
  member m (i, x, e) = let w = long in (i, omega arith, sym (each_below-at n i line m (omega arith)) ∙ e)

  contained : (i : ℕ) → i < n → Contains lines (line i)
  contained i x = (i, omega (arith, long), each_below-at n i line (line i) x)

  by_places : HonestByTimes lines
  by_places = record {
    latest = λ q m hq hm same early none. latest_of q m (member q hq) (member m hm) same early none;
    first = λ m hm none. first_of m (member m hm) none;
  }
    where
      latest_of : (q m : Line) → (i : ℕ) × (i < n) × (line i ≡ q) → (i : ℕ) × (i < n) × (line i ≡ m) → q.cell ≡ m.cell → q.time < m.time
          → ((o : Line) → Contains lines o → o.cell ≡ m.cell → q.time < o.time → o.time < m.time → ⊥) → m.old ≡ q.new
      latest_of q m (b, hb, eb) (i, hi, ei) =
          subst (λ q. q.cell ≡ m.cell → q.time < m.time → ((o : Line) → Contains lines o → o.cell ≡ m.cell → q.time < o.time → o.time < m.time → ⊥) → m.old
          ≡ q.new) eb
          (subst (λ m. (line b).cell ≡ m.cell → (line b).time < m.time
          → ((o : Line) → Contains lines o → o.cell ≡ m.cell → (line b).time < o.time → o.time < m.time → ⊥) → m.old ≡ (line b).new) ei
          (λ same early none. latest b i hb hi same early (λ j x. none (line j) (contained j x))))

      first_of : (m : Line) → (i : ℕ) × (i < n) × (line i ≡ m) → ((o : Line) → Contains lines o → o.cell ≡ m.cell → o.time < m.time → ⊥) → m.old ≡ 0
      first_of m (i, hi, ei) =
          subst (λ m. ((o : Line) → Contains lines o → o.cell ≡ m.cell → o.time < m.time → ⊥) → m.old ≡ 0) ei
          (λ none. first i hi (λ j x. none (line j) (contained j x)))

  in_time : InTimeOrder lines
  in_time i j d x y =
      let w = long in
      rw (each_below-at n i line d (omega arith), each_below-at n j line d (omega arith)) (omega (arith, h.times i (omega arith), h.times j (omega arith)))

  -- they are honest
  pub honest_places : Honest (each_below n line)
  honest_places = Honest-from_times lines in_time by_places
