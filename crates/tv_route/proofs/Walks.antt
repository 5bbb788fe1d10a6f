-- What a walk settles: it goes round, so what is settled after it is closed under both pairings, the two of a pair
-- being settled apart.
use Rattle.tv_core.proofs.Common.{◌≡◌, ◌≢◌, ℕ, zero, suc, ◌+◌, ◌*◌, ◌<◌, ◌≤◌, ◌==◌, ◌⊎◌, inl, inr, Bool, true, false, not, if◌then◌else◌, List, length, get_or}
use Rattle.tv_core.proofs.Common.{set, Some, None, refl, sym, ◌∙◌, ap, arith, slice_index, cases_eq, cond_both, eqb-true}
use Rattle.std.proofs.Common.{is_none, sum_by, length-set, get_or-set_same, get_or-set_other, eq-eqb}
use Rattle.std.proofs.lemmas.Bool.{eqb-false}
use Rattle.std.proofs.lemmas.List.Sums.{sum_by-set, get_or-le-sum_by}
use Rattle.tv_route.proofs.PairLaws.{IsPairing}
use Rattle.tv_route.specs.Route.{Mark, other, walk}

-- how much of an input is not settled
abbrev pub open_mark : Mark → ℕ
open_mark m = if is_none m then 1 else 0

abbrev pub left : List Mark → ℕ
left marks = sum_by open_mark marks

-- where z is settled, so is its fellow, and apart
abbrev pub Apart : (ℕ → ℕ) → List Mark → ℕ → Type 0
Apart s marks z = (b : Bool) → get_or marks z None ≡ Some b → get_or marks (s z) None ≡ Some (not b)

pub record IsClosed (m : ℕ) (s t : ℕ → ℕ) (marks : List Mark) : Type 0 where
  pub long : length marks ≡ m
  pub pairs : (z : ℕ) → z < m → Apart s marks z
  pub sides : (z : ℕ) → z < m → Apart t marks z

-- a walk that begins at x, or one that began elsewhere and whose next input is x
abbrev pub Begun : (ℕ → ℕ) → ℕ → ℕ → List Mark → Type 0
Begun t start x marks = (x ≡ start) ⊎ ((get_or marks start None ≡ Some false) × (get_or marks (t x) None ≡ Some true))

-- within a walk, before x is settled: only where it began is up with no fellow down, and only x's fellow is down with none
pub record IsUnderway (m : ℕ) (s t : ℕ → ℕ) (start x : ℕ) (marks : List Mark) : Type 0 where
  pub long : length marks ≡ m
  pub x_in : x < m
  pub free : get_or marks x None ≡ None
  pub pairs : (z : ℕ) → z < m → Apart s marks z
  pub ups : (z : ℕ) → z < m → get_or marks z None ≡ Some false → (z ≡ start) ⊎ (get_or marks (t z) None ≡ Some true)
  pub downs : (z : ℕ) → z < m → get_or marks z None ≡ Some true → (t z ≡ x) ⊎ (get_or marks (t z) None ≡ Some false)
  pub begun : Begun t start x marks

-- ---- two inputs more are settled
abbrev settled : List Mark → ℕ → ℕ → List Mark
settled marks x y = set (set marks x (Some false)) y (Some true)

-- an input that is settled is not free
not_free : (marks : List Mark) (z : ℕ) (b : Bool) → get_or marks z None ≡ Some b → get_or marks z None ≡ None → ⊥
not_free marks z b e f = cc

pub if_same : {X : Type 0} (a b : ℕ) (x y : X) → a ≡ b → (if a == b then x else y) ≡ x
if_same a b x y e = ap (λ c. if c then x else y) (eq-eqb a b e)

module _ (m : ℕ) (s t : ℕ → ℕ) (sp : IsPairing m s) (tp : IsPairing m t) (start x : ℕ) (marks : List Mark) (u : IsUnderway m s t start x marks) where
  abbrev after : List Mark
  after = settled marks x (s x)

  y_in : s x < m
  y_in = sp.below x u.x_in

  x_y : x ≢ s x
  x_y e = sp.moves x u.x_in (sym e)

  -- y is free, since otherwise its fellow x would be settled
  y_free : get_or marks (s x) None ≡ None
  y_free = by (get_or marks (s x) None) refl
    where
      by : (k : Mark) → get_or marks (s x) None ≡ k → get_or marks (s x) None ≡ None
      by None e = e
      by (Some b) e = absurd (not_free marks x (not b) (ap (λ k. get_or marks k None) (sym (sp.back x u.x_in)) ∙ u.pairs (s x) y_in b e) u.free)

  x_long : x < length marks
  x_long = let i = u.x_in in omega (arith, u.long)

  y_long : s x < length marks
  y_long = omega (arith, u.long, y_in)

  here_x : get_or after x None ≡ Some false
  here_x = get_or-set_other (set marks x (Some false)) (s x) x (Some true) None x_y ∙ get_or-set_same marks x (Some false) None x_long

  here_y : get_or after (s x) None ≡ Some true
  here_y = get_or-set_same (set marks x (Some false)) (s x) (Some true) None (omega (arith, y_long, length-set marks x (Some false)))

  here_others : (z : ℕ) → z ≢ x → z ≢ s x → get_or after z None ≡ get_or marks z None
  here_others z h k = get_or-set_other (set marks x (Some false)) (s x) z (Some true) None k ∙ get_or-set_other marks x z (Some false) None h

  after-long : length after ≡ m
  after-long = length-set (set marks x (Some false)) (s x) (Some true) ∙ length-set marks x (Some false) ∙ u.long

  after-left : left after + 2 ≡ left marks
  after-left =
      let one = sum_by-set open_mark marks x (Some false) None x_long in
      let two = sum_by-set open_mark (set marks x (Some false)) (s x) (Some true) None (omega (arith, y_long, length-set marks x (Some false))) in
      let ox : open_mark (get_or marks x None) ≡ 1 = ap open_mark u.free in
      let oy : open_mark (get_or (set marks x (Some false)) (s x) None) ≡ 1 =
      ap open_mark (get_or-set_other marks x (s x) (Some false) None (λ e. x_y (sym e)) ∙ y_free) in
      omega (arith, one, two, ox, oy)

  both_ways : (o : Mark) → o ≡ Some true → o ≡ Some false → ⊥
  both_ways o p q = cc

  some_same : (a b : Bool) (o : Mark) → o ≡ Some a → o ≡ Some b → a ≡ b
  some_same a b o p q = cc

  -- an input that was settled is another one than x and y
  was_other : (z : ℕ) (b : Bool) → get_or marks z None ≡ Some b → (z ≢ x) × (z ≢ s x)
  was_other z b e = (
    λ same. not_free marks z b e (ap (λ k. get_or marks k None) same ∙ u.free),
    λ same. not_free marks z b e (ap (λ k. get_or marks k None) same ∙ y_free),
  )

  still : (z : ℕ) (b : Bool) → get_or marks z None ≡ Some b → get_or after z None ≡ Some b
  still z b e = let o = was_other z b e in here_others z o.0 o.1 ∙ e

  -- the fellows by s are settled apart
  after-pairs : (z : ℕ) → z < m → Apart s after z
  after-pairs z z_in b e = elim (cases_eq z x) [
    | inl zx ↦
        let is : b ≡ false = some_same b false (get_or after x None) (ap (λ k. get_or after k None) (sym zx) ∙ e) here_x in
        ap (λ k. get_or after (s k) None) zx ∙ here_y ∙ ap (λ c. Some (not c)) (sym is)
    | inr not_x ↦ elim (cases_eq z (s x)) [
      | inl zy ↦
          let is : b ≡ true = some_same b true (get_or after (s x) None) (ap (λ k. get_or after k None) (sym zy) ∙ e) here_y in
          ap (λ k. get_or after (s k) None) zy ∙ ap (λ k. get_or after k None) (sp.back x u.x_in) ∙ here_x ∙ ap (λ c. Some (not c)) (sym is)
      | inr not_y ↦ still (s z) (not b) (u.pairs z z_in b (sym (here_others z not_x not_y) ∙ e))
    ]
  ]

  -- the fellows by t are settled apart, but for the two ends
  after-ups : (z : ℕ) → z < m → get_or after z None ≡ Some false → (z ≡ start) ⊎ (get_or after (t z) None ≡ Some true)
  after-ups z z_in e = elim (cases_eq z x) [
    | inl zx ↦ elim u.begun [
      | inl xs ↦ inl (zx ∙ xs)
      | inr far ↦ inr (ap (λ k. get_or after (t k) None) zx ∙ still (t x) true far.1)
    ]
    | inr not_x ↦ elim (cases_eq z (s x)) [
      | inl zy ↦ absurd (both_ways (get_or after (s x) None) here_y (ap (λ k. get_or after k None) (sym zy) ∙ e))
      | inr not_y ↦ elim (u.ups z z_in (sym (here_others z not_x not_y) ∙ e)) [ inl zs ↦ inl zs | inr down ↦ inr (still (t z) true down) ]
    ]
  ]

  after-downs : (z : ℕ) → z < m → get_or after z None ≡ Some true → (t z ≡ t (s x)) ⊎ (get_or after (t z) None ≡ Some false)
  after-downs z z_in e = elim (cases_eq z (s x)) [
    | inl zy ↦ inl (ap t zy)
    | inr not_y ↦ elim (cases_eq z x) [
      | inl zx ↦ absurd (both_ways (get_or after x None) (ap (λ k. get_or after k None) (sym zx) ∙ e) here_x)
      | inr not_x ↦ elim (u.downs z z_in (sym (here_others z not_x not_y) ∙ e)) [
        | inl tx ↦ inr (ap (λ k. get_or after k None) tx ∙ here_x)
        | inr up ↦ inr (still (t z) false up)
      ]
    ]
  ]

  start_false : Begun t start x marks → get_or after start None ≡ Some false
  start_false (inl e) = ap (λ k. get_or after k None) (sym e) ∙ here_x
  start_false (inr e) = still start false e.0

  end_true : get_or after (t (t (s x))) None ≡ Some true
  end_true = ap (λ k. get_or after k None) (tp.back (s x) y_in) ∙ here_y

  -- the walk is round
  closes : t (s x) ≡ start → IsClosed m s t after
  closes round = record { long = after-long; pairs = after-pairs; sides = sides }
    where
      sides : (z : ℕ) → z < m → Apart t after z
      sides z z_in true e = elim (after-downs z z_in e) [
        | inl ends ↦ ap (λ k. get_or after k None) (ends ∙ round) ∙ start_false u.begun
        | inr up ↦ up
      ]
      sides z z_in false e = elim (after-ups z z_in e) [
        | inl begins ↦ ap (λ k. get_or after (t k) None) (begins ∙ sym round) ∙ end_true
        | inr down ↦ down
      ]

  -- or it goes on
  next_not_x : t (s x) ≢ start → Begun t start x marks → t (s x) ≢ x
  next_not_x on (inl e) same = on (same ∙ e)
  next_not_x on (inr far) same =
      let txy : t x ≡ s x = ap t (sym same) ∙ tp.back (s x) y_in in
      not_free marks (t x) true far.1 (ap (λ k. get_or marks k None) txy ∙ y_free)

  next_free_by : t (s x) ≢ start → (k : Mark) → get_or marks (t (s x)) None ≡ k → get_or marks (t (s x)) None ≡ None
  next_free_by on None e = e
  next_free_by on (Some true) e = elim (u.downs (t (s x)) (tp.below (s x) y_in) e) [
    | inl tx ↦ absurd (x_y (sym (sym (tp.back (s x) y_in) ∙ tx)))
    | inr up ↦ absurd (not_free marks (s x) false (ap (λ k. get_or marks k None) (sym (tp.back (s x) y_in)) ∙ up) y_free)
  ]
  next_free_by on (Some false) e = elim (u.ups (t (s x)) (tp.below (s x) y_in) e) [
    | inl begins ↦ absurd (on begins)
    | inr down ↦ absurd (not_free marks (s x) true (ap (λ k. get_or marks k None) (sym (tp.back (s x) y_in)) ∙ down) y_free)
  ]

  goes_on : t (s x) ≢ start → IsUnderway m s t start (t (s x)) after
  goes_on on = record {
    long = after-long;
    x_in = tp.below (s x) y_in;
    free = here_others (t (s x)) (next_not_x on u.begun) (tp.moves (s x) y_in) ∙ next_free_by on (get_or marks (t (s x)) None) refl;
    pairs = after-pairs;
    ups = after-ups;
    downs = after-downs;
    begun = inr (start_false u.begun, end_true);
  }

module _ (m : ℕ) (partner : List ℕ) (sp : IsPairing m (λ x. slice_index partner x)) (tp : IsPairing m other) where
  abbrev σ : ℕ → ℕ
  σ x = slice_index partner x

  -- with as many steps as half of what is left, the walk gets round
  pub walk_closes : (steps start x : ℕ) (marks : List Mark) → IsUnderway m σ other start x marks → left marks ≤ 2 * steps
      → IsClosed m σ other (walk partner steps start x marks)
  unfolding walk
  walk_closes zero start x marks u few =
      let one : open_mark (get_or marks x None) ≡ 1 = ap open_mark u.free in
      absurd (omega (arith, one, u.x_in, u.long, get_or-le-sum_by open_mark marks x None))
  walk_closes (suc steps) start x marks u few =
      let y = slice_index partner x in
      let more = settled marks x y in
      let gone = after-left m σ other sp tp start x marks u in
      cond_both (other y == start) more (walk partner steps start (other y) more) (IsClosed m σ other)
      (λ e. closes m σ other sp tp start x marks u (eqb-true (other y) start e))
      (λ e. walk_closes steps start (other y) more (goes_on m σ other sp tp start x marks u (eqb-false (other y) start e)) (omega (arith, gone)))

  -- what is settled stays as it is
  pub walk_still : (steps start x : ℕ) (marks : List Mark) → IsUnderway m σ other start x marks → (z : ℕ) (b : Bool) → get_or marks z None ≡ Some b
      → get_or (walk partner steps start x marks) z None ≡ Some b
  unfolding walk
  walk_still zero start x marks u z b e = e
  walk_still (suc steps) start x marks u z b e =
      let y = slice_index partner x in
      let more = settled marks x y in
      let kept = still m σ other sp tp start x marks u z b e in
      cond_both (other y == start) more (walk partner steps start (other y) more) (λ l. get_or l z None ≡ Some b) (λ e. kept)
      (λ e. walk_still steps start (other y) more (goes_on m σ other sp tp start x marks u (eqb-false (other y) start e)) z b kept)

  -- and where the walk begins goes up
  pub walk_begins : (steps start x : ℕ) (marks : List Mark) → IsUnderway m σ other start x marks → 0 < steps
      → get_or (walk partner steps start x marks) x None ≡ Some false
  unfolding walk
  walk_begins zero start x marks u some = absurd (omega arith)
  walk_begins (suc steps) start x marks u some =
      let y = slice_index partner x in
      let more = settled marks x y in
      let first = here_x m σ other sp tp start x marks u in
      cond_both (other y == start) more (walk partner steps start (other y) more) (λ l. get_or l x None ≡ Some false) (λ e. first)
      (λ e. walk_still steps start (other y) more (goes_on m σ other sp tp start x marks u (eqb-false (other y) start e)) x false first)
