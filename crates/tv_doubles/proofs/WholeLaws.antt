-- The memory argument over double lines is sound and complete.
use Rattle.std.proofs.Common.{◌≡◌, ◌≢◌, ◌⊎◌, ℕ, ◌+◌, ◌-◌, ◌%◌, ◌^◌, ◌<◌, ◌≤◌, ◌==◌, if◌then◌else◌, Bool}
use Rattle.std.proofs.Common.{true, false, inl, inr, refl, sym, ap, subst, ◌∙◌, arith, eqb-true}
use Rattle.std.proofs.Math.Nat.{pow-le-pow_right}
use Rattle.std.proofs.lemmas.Bool.{cases_eq, cases_order, eqb-false}
use Rattle.tv_doubles.proofs.Counts.{permuted_below}
use Rattle.tv_core.specs.declared.field.TheConstants.{P}
use Rattle.tv_doubles.proofs.ChainLaws.{chain_honest}
use Rattle.tv_doubles.proofs.SinglesLaws.{singles_honest}
use Rattle.tv_doubles.proofs.SuccessorLaws.{successors_right}
use Rattle.tv_doubles.proofs.WithinLaws.{checks_sound, checks_complete}
use Rattle.tv_doubles.specs.Chain.{Stays, Chained}
use Rattle.tv_doubles.specs.Doubles.{DoubleLine, Succeeds, HonestDoubles}
use Rattle.tv_doubles.specs.Successors.{successor, IsGreatest}
use Rattle.tv_doubles.specs.Whole.{Kind, MeetsKind, IsFirst, IsKind, AreLines, AllMeet, gap, IsTimed, Reaches, reach_of, reach_at, excess_at, ArgumentIsRight}
use Rattle.tv_doubles.specs.Whole.Kind.{Step, Image, Tape, Guard}
use Rattle.tv_doubles.specs.Within.{item_first, item_second, Joins, excess_between}

-- a place whose line is the first of its double cell moves or stays, also where its time isn't checked
pub joined : (p : ℕ → ℕ) (line : ℕ → DoubleLine) (i : ℕ) → IsFirst line i → Joins (line i) (line (p i))
    → Succeeds (line i) i (line (p i)) (p i) ⊎ Stays p line i
joined p line i first (inl (low, none)) =
    inl (record { rises = inl low; carried = λ same. absurd (omega arith); fresh = λ apart. none })
joined p line i first (inr (same, carried)) = by (cases_order i (p i))
  where
    by : ((i ≡ p i) ⊎ ((i < p i) ⊎ (p i < i))) → Succeeds (line i) i (line (p i)) (p i) ⊎ Stays p line i
    by (inl e) = inr (record {
      itself = sym e;
      old = first.old;
      new = sym carried ∙ ap (λ j. (line j).old) (sym e) ∙ first.old;
      first = first.first;
    })
    by (inr (inl later)) = inl (record { rises = inr (same, later); carried = λ e. carried; fresh = λ apart. absurd (apart same) })
    by (inr (inr earlier)) = absurd (first.first (p i) earlier (sym same))

module _ (b n : ℕ) (line : ℕ → DoubleLine) (kind : ℕ → Kind) (lines : AreLines b n line kind) where
  small : (i : ℕ) → i < n → i < 2 ^ 20
  small i h = omega (arith, lines.few)

  module _ (p r g : ℕ → ℕ) (meets : AllMeet b n line kind p r g) where
    p_below : (i : ℕ) → i < n → p i < n
    p_below = permuted_below n p meets.permutes

    each_kind : (k : Kind) (i : ℕ) → i + 1 < n → IsKind k n line i
        → MeetsKind k b (r i) (g i) (item_first b (line (p i))) (item_second b (line (p i)) (p i)) (line i) i
        → Succeeds (line i) i (line (p i)) (p i) ⊎ Stays p line i
    each_kind Step i h is met =
        inl (checks_sound.within b (r i) (g i) (line i) (line (p i)) i (p i) lines.base (meets.small i h) (lines.in_range i (omega arith))
        (lines.in_range (p i) (p_below i (omega arith))) (small i (omega arith)) (small (p i) (p_below i (omega arith))) met)
    each_kind Image i h is met =
        inl (checks_sound.image b (r i) (line i) (line (p i)) i (p i) lines.base (meets.small i h) (lines.in_range i (omega arith))
        (lines.in_range (p i) (p_below i (omega arith))) (small i (omega arith)) (small (p i) (p_below i (omega arith))) met)
    each_kind Tape i h is met =
        joined p line i is.0 (checks_sound.tape b (line i) (line (p i)) lines.base (lines.in_range i (omega arith))
        (lines.in_range (p i) (p_below i (omega arith))) is.1 (λ same. is.2 (p i) (p_below i (omega arith)) (sym same)) met)
    each_kind Guard i h is met =
        joined p line i is.0 (checks_sound.guard b (r i) (line i) (line (p i)) lines.base (meets.small i h) (lines.in_range i (omega arith))
        (lines.in_range (p i) (p_below i (omega arith))) is.1 met)

    last_place : n - 1 < n
    last_place = omega (arith, lines.some)

    chained : Chained n (n - 1) p line
    chained = record {
      few = lines.few;
      exempt = last_place;
      permutes = meets.permutes;
      begins = (checks_sound.last b (line (p (n - 1))) lines.base (lines.in_range (p (n - 1)) (p_below (n - 1) last_place)) meets.last).1;
      each = λ i h other. each_kind (kind i) i (omega arith) (lines.kinds i h) (meets.met i (omega arith));
    }

    honest_lines : HonestDoubles n line
    honest_lines = chain_honest n (n - 1) p line chained

  module _ (m : ℕ → ℕ) (reaches : Reaches n line kind m) (honest : HonestDoubles n line) (greatest : IsGreatest n line (n - 1)) where
    s : ℕ → ℕ
    s i = successor n line i

    s_below : (i : ℕ) → i < n → s i < n
    unfolding s
    s_below = permuted_below n (successor n line) (successors_right.moved n line lines.few)

    follows : (i : ℕ) → i + 1 < n → Succeeds (line i) i (line (s i)) (s i)
    unfolding s
    follows i h = successors_right.succeeds n (n - 1) line lines.few honest greatest i (omega arith) (omega arith)

    -- the successor is near
    near : (i : ℕ) → i + 1 < n → (line i).cell ≢ (line (s i)).cell → (line (s i)).cell ≤ (line i).cell + gap (kind i) (m i)
    unfolding s
    near i h apart = by (cases_eq (line i).cell (line (n - 1)).cell)
      where
        by : ((line i).cell ≡ (line (n - 1)).cell) ⊎ ((line i).cell ≢ (line (n - 1)).cell) → (line (s i)).cell ≤ (line i).cell + gap (kind i) (m i)
        by (inl top) =
            let f = follows i h in
            let k = greatest.1 (s i) (s_below i (omega arith)) in
            let t = small (n - 1) greatest.0 in
            absurd (omega (arith, f.rises))
        by (inr other) =
            let q = reaches.near i h other in
            let low = successors_right.nearest n (n - 1) line lines.few greatest i q.0 (omega arith) (omega arith) q.1 q.2 in
            omega (arith, q.3)

    one_up : (i : ℕ) → i + 1 < n → gap (kind i) (m i) ≡ 1 → (line (s i)).cell ≤ (line i).cell + 1
    one_up i h e = elim (cases_eq (line i).cell (line (s i)).cell) [
      | inl same ↦ omega arith
      | inr apart ↦ omega (arith, near i h apart)
    ]

    pub next_cell : (i : ℕ) → i + 1 < n → gap (kind i) (m i) ≡ 1 → (line (successor n line i)).cell ≤ (line i).cell + 1
    unfolding s
    next_cell i h e = one_up i h e

    -- the reach in time and that in cells
    time_fits : (i : ℕ) → i + 1 < n → IsTimed (kind i) → (line i).cell ≡ (line (s i)).cell → s i - i - 1 < 2 ^ m i
    time_fits i h timed same = omega (arith, reaches.late i h timed, s_below i (omega arith), (follows i h).rises)

    cells_fit : (i : ℕ) → i + 1 < n → gap (kind i) (m i) ≡ 2 ^ m i → (line i).cell ≢ (line (s i)).cell → (line (s i)).cell - (line i).cell - 1 < 2 ^ m i
    cells_fit i h e apart = omega (arith, near i h apart, (follows i h).rises)

    some_power : (i : ℕ) → 0 < 2 ^ m i
    some_power i = let low : 0 ≤ m i = omega arith in let x : 2 ^ 0 ≤ 2 ^ m i = pow-le-pow_right (omega arith) low in omega arith

    time_small : (i : ℕ) → i + 1 < n → IsTimed (kind i) → (c : Bool) → ((line i).cell == (line (s i)).cell) ≡ c
        → (if c then s i - i - 1 else 0) < 2 ^ m i
    time_small i h timed true e = time_fits i h timed (eqb-true _ _ e)
    time_small i h timed false e = some_power i

    cells_small : (i : ℕ) → i + 1 < n → gap (kind i) (m i) ≡ 2 ^ m i → (c : Bool) → ((line i).cell == (line (s i)).cell) ≡ c
        → (if c then 0 else (line (s i)).cell - (line i).cell - 1) < 2 ^ m i
    cells_small i h wide true e = some_power i
    cells_small i h wide false e = cells_fit i h wide (eqb-false _ _ e)

    both_small : (i : ℕ) → i + 1 < n → IsTimed (kind i) → gap (kind i) (m i) ≡ 2 ^ m i → (c : Bool) → ((line i).cell == (line (s i)).cell) ≡ c
        → (if c then s i - i - 1 else (line (s i)).cell - (line i).cell - 1) < 2 ^ m i
    both_small i h timed wide true e = time_fits i h timed (eqb-true _ _ e)
    both_small i h timed wide false e = cells_fit i h wide (eqb-false _ _ e)

    fits_by : (k : Kind) (i : ℕ) → kind i ≡ k → i + 1 < n → reach_of k (line i) i (line (s i)) (s i) < 2 ^ m i
    fits_by Step i e h =
        both_small i h (subst IsTimed (sym e) tt) (ap (λ k. gap k (m i)) e) ((line i).cell == (line (s i)).cell) refl
    fits_by Image i e h = time_small i h (subst IsTimed (sym e) tt) ((line i).cell == (line (s i)).cell) refl
    fits_by Tape i e h = some_power i
    fits_by Guard i e h = cells_small i h (ap (λ k. gap k (m i)) e) ((line i).cell == (line (s i)).cell) refl

    reach_small : (i : ℕ) → i + 1 < n → reach_of (kind i) (line i) i (line (s i)) (s i) < 2 ^ 30
    reach_small i h =
        let x : 2 ^ m i ≤ 2 ^ 30 = pow-le-pow_right (omega arith) (reaches.bits i h) in
        let y = fits_by (kind i) i refl h in
        omega arith

    meets_by : (k : Kind) (i : ℕ) → kind i ≡ k → i + 1 < n → IsKind k n line i
        → MeetsKind k b (reach_of k (line i) i (line (s i)) (s i)) (excess_between b (line i) i (line (s i)) (s i))
        (item_first b (line (s i))) (item_second b (line (s i)) (s i)) (line i) i
    meets_by Step i e h is =
        checks_complete.within b (line i) (line (s i)) i (s i) lines.base (lines.in_range i (omega arith)) (lines.in_range (s i) (s_below i (omega arith)))
        (small i (omega arith)) (small (s i) (s_below i (omega arith))) (follows i h)
    meets_by Image i e h is =
        checks_complete.image b (line i) (line (s i)) i (s i) lines.base (lines.in_range i (omega arith)) (lines.in_range (s i) (s_below i (omega arith)))
        (small i (omega arith)) (small (s i) (s_below i (omega arith))) (follows i h) (one_up i h (ap (λ k. gap k (m i)) e))
    meets_by Tape i e h is =
        checks_complete.tape b (line i) (line (s i)) i (s i) lines.base (lines.in_range i (omega arith)) (lines.in_range (s i) (s_below i (omega arith)))
        (follows i h) is.1 (one_up i h (ap (λ k. gap k (m i)) e))
    meets_by Guard i e h is =
        checks_complete.guard b (line i) (line (s i)) i (s i) lines.base (lines.in_range i (omega arith)) (lines.in_range (s i) (s_below i (omega arith)))
        (follows i h) is.1

    begins_at_zero : item_first b (line (s (n - 1))) % P ≡ 0
    unfolding s
    begins_at_zero =
        let q = reaches.least in
        let low = successors_right.least n (n - 1) line lines.few greatest q.0 q.1 in
        checks_complete.last b (line (s (n - 1))) (omega (arith, low, q.2)) (successors_right.begins n (n - 1) line lines.few honest greatest)

    all_meet : AllMeet b n line kind (successor n line) (reach_at n line kind) (excess_at b n line)
    unfolding s
    all_meet = record {
      permutes = successors_right.moved n line lines.few;
      small = reach_small;
      met = λ i h. meets_by (kind i) i refl h (lines.kinds i (omega arith));
      last = begins_at_zero;
    }

    all_fit : (i : ℕ) → i + 1 < n → reach_at n line kind i < 2 ^ m i
    unfolding s
    all_fit i h = fits_by (kind i) i refl h

pub argument_right : ArgumentIsRight
argument_right = record {
  sound = λ b n line kind p r g lines meets. honest_lines b n line kind lines p r g meets;
  singles = λ b n line kind p r g lines meets used number time shown apart shows.
      singles_honest.honest used number time shown line n apart shows (honest_lines b n line kind lines p r g meets);
  complete = λ b n line kind m lines reaches honest greatest. all_meet b n line kind lines m reaches honest greatest;
  fits = λ b n line kind m lines reaches honest greatest. all_fit b n line kind lines m reaches honest greatest;
}
