-- The single lines of honest double lines are honest.
use Rattle.std.proofs.Common.{◌≡◌, ◌≢◌, ◌⊎◌, ℕ, zero, suc, ◌<◌, ◌==◌, if◌then◌else◌, Bool, true, false, List, [], ◌∷◌}
use Rattle.std.proofs.Common.{◌++◌, fold, inl, inr, refl, sym, ap, ap₂, subst, ◌∙◌, arith, eqb-true, eq-eqb}
use Rattle.std.proofs.lemmas.Bool.{eqb-false, cases_eq, ne_eqb}
use Rattle.tv_doubles.specs.Doubles.{Words, DoubleLine, HonestDoubles, before, no_words}
use Rattle.tv_core.specs.Lines.{Line, written}
use Rattle.tv_doubles.specs.Singles.{Shown, word_of, single, singles_of, singles_below, Shows, TellsApart, SinglesAreHonest}
use Rattle.tv_doubles.specs.Singles.Shown.{Both, One, None}

-- ---- honest from a memory on
abbrev pub HonestFrom : (ℕ → ℕ) → List Line → Type 0
HonestFrom memory [] = Unit {0}
HonestFrom memory (line ∷ later) = (line.old ≡ memory line.cell) × HonestFrom (written memory line) later

pub Honest-from_HonestFrom : (memory : ℕ → ℕ) (lines earlier : List Line) (line : Line) (later : List Line)
    → HonestFrom memory lines → lines ≡ earlier ++ line ∷ later → line.old ≡ fold written memory earlier line.cell
Honest-from_HonestFrom memory [] [] line later h e = cc
Honest-from_HonestFrom memory [] (x ∷ earlier) line later h e = cc
Honest-from_HonestFrom memory (first ∷ rest) [] line later h e = let same : first ≡ line = cc in subst (λ l. l.old ≡ memory l.cell) same h.0
Honest-from_HonestFrom memory (first ∷ rest) (x ∷ earlier) line later h e =
    let same : first ≡ x = cc in
    let others : rest ≡ earlier ++ line ∷ later = cc in
    Honest-from_HonestFrom (written memory x) rest earlier line later (subst (λ l. HonestFrom (written memory l) rest) same h.1) others

pub HonestFrom-from_Honest : (memory : ℕ → ℕ) (lines : List Line)
    → ((earlier : List Line) (line : Line) (later : List Line) → lines ≡ earlier ++ line ∷ later → line.old ≡ fold written memory earlier line.cell)
    → HonestFrom memory lines
HonestFrom-from_Honest memory [] h = tt
HonestFrom-from_Honest memory (first ∷ rest) h =
    (h [] first rest refl, HonestFrom-from_Honest (written memory first) rest (λ earlier line later e. h (first ∷ earlier) line later (ap (λ l. first ∷ l) e)))

pub HonestFrom-left : (m : ℕ → ℕ) (xs ys : List Line) → HonestFrom m (xs ++ ys) → HonestFrom m xs
HonestFrom-left m [] ys h = tt
HonestFrom-left m (x ∷ xs) ys h = (h.0, HonestFrom-left (written m x) xs ys h.1)

pub HonestFrom-right : (m : ℕ → ℕ) (xs ys : List Line) → HonestFrom m (xs ++ ys) → HonestFrom (fold written m xs) ys
HonestFrom-right m [] ys h = h
HonestFrom-right m (x ∷ xs) ys h = HonestFrom-right (written m x) xs ys h.1

HonestFrom-append : (m : ℕ → ℕ) (xs ys : List Line) → HonestFrom m xs → HonestFrom (fold written m xs) ys → HonestFrom m (xs ++ ys)
HonestFrom-append m [] ys h k = k
HonestFrom-append m (x ∷ xs) ys h k = (h.0, HonestFrom-append (written m x) xs ys h.1 k)

after-append : (m : ℕ → ℕ) (xs ys : List Line) → fold written m (xs ++ ys) ≡ fold written (fold written m xs) ys
after-append m [] ys = refl
after-append m (x ∷ xs) ys = after-append (written m x) xs ys

-- ---- one line
pub words_are : (x y : Words) → x.first ≡ y.first → x.second ≡ y.second → x ≡ y
words_are x y a b = ap₂ (λ f s. let w : Words = record { first = f; second = s } in w) a b

-- double cells with a pair written to one
abbrev put : (ℕ → Words) → ℕ → Words → ℕ → Words
put w d x c = if d == c then x else w c

put_same : (w : ℕ → Words) (d c : ℕ) (x : Words) → d ≡ c → put w d x c ≡ x
put_same w d c x e = ap (λ b. if b then x else w c) (eq-eqb d c e)

put_other : (w : ℕ → Words) (d c : ℕ) (x : Words) → d ≢ c → put w d x c ≡ w c
put_other w d c x e = ap (λ b. if b then x else w c) (ne_eqb d c e)

module _ (used : ℕ → Bool → Bool) (number time : ℕ → Bool → ℕ) (apart : TellsApart used number) where
  -- each single cell has its word of the double cell
  pub record Agrees (m : ℕ → ℕ) (w : ℕ → Words) : Type 0 where
    pub at : (e : ℕ) (t : Bool) → used e t ≡ true → m (number e t) ≡ word_of (w e) t

  agrees_same : (m : ℕ → ℕ) (v w : ℕ → Words) → ((e : ℕ) → v e ≡ w e) → Agrees m v → Agrees m w
  agrees_same m v w same agrees = record { at = λ e t k. agrees.at e t k ∙ ap (λ x. word_of x t) (same e) }

  -- words that are the same but for one, and that one is written
  step : (m : ℕ → ℕ) (w v : ℕ → Words) (l : Line) (d : ℕ) (s : Bool) → used d s ≡ true → l.cell ≡ number d s → l.new ≡ word_of (v d) s
      → ((e : ℕ) (t : Bool) → ((d ≡ e) × (s ≡ t) → ⊥) → word_of (v e) t ≡ word_of (w e) t) → Agrees m w → Agrees (written m l) v
  step m w v l d s u at new others agrees = record { at = λ e t k. by e t k (l.cell == number e t) refl }
    where
      by : (e : ℕ) (t : Bool) → used e t ≡ true → (b : Bool) → (l.cell == number e t) ≡ b → (if b then l.new else m (number e t)) ≡ word_of (v e) t
      by e t k true same =
          let both = apart d e s t u k (sym at ∙ eqb-true l.cell (number e t) same) in
          new ∙ ap₂ (λ d s. word_of (v d) s) both.0 both.1
      by e t k false differ =
          agrees.at e t k ∙ sym (others e t (λ (c, b). eqb-false l.cell (number e t) differ (at ∙ ap₂ number c b)))

  -- the pair x at double cell d gives way to y, of which one word alone is another
  write : (m : ℕ → ℕ) (w : ℕ → Words) (l : Line) (d : ℕ) (s : Bool) (y : Words) → used d s ≡ true → l.cell ≡ number d s → l.new ≡ word_of y s
      → ((t : Bool) → s ≢ t → word_of y t ≡ word_of (w d) t) → Agrees m w → Agrees (written m l) (put w d y)
  write m w l d s y u at new kept agrees =
      step m w (put w d y) l d s u at (new ∙ ap (λ x. word_of x s) (sym (put_same w d d y refl))) (λ e t differ. by e t differ (cases_eq d e)) agrees
    where
      by : (e : ℕ) (t : Bool) → ((d ≡ e) × (s ≡ t) → ⊥) → ((d ≡ e) ⊎ (d ≢ e)) → word_of (put w d y e) t ≡ word_of (w e) t
      by e t differ (inl same) = ap (λ x. word_of x t) (put_same w d e y same) ∙ kept t (λ b. differ (same, b)) ∙ ap (λ d. word_of (w d) t) same
      by e t differ (inr other) = ap (λ x. word_of x t) (put_other w d e y other)

  -- what the lines of one double line leave, and that they are honest
  pub record Led (m : ℕ → ℕ) (v : ℕ → Words) (lines : List Line) : Type 0 where
    pub honest : HonestFrom m lines
    pub leaves : Agrees (fold written m lines) v

  pub led : (m : ℕ → ℕ) (w : ℕ → Words) (shown : Shown) (l : DoubleLine) (i : ℕ) → Agrees m w → l.old ≡ w l.cell → Shows used shown l
      → Led m (put w l.cell l.new) (singles_of number time shown l i)
  led m w Both l i agrees old (u, k) = record {
    honest = (
      ap (λ (x : Words). x.first) old ∙ sym (agrees.at l.cell false u),
      (ap (λ (x : Words). x.second) (sym (put_same w l.cell l.cell half refl)) ∙ sym (between.at l.cell true k), tt),
    );
    leaves = agrees_same (written (written m one) two) (put (put w l.cell half) l.cell l.new) (put w l.cell l.new) over
        (write (written m one) (put w l.cell half) two l.cell true l.new k refl refl second between);
  }
    where
      half : Words
      half = record { first = l.new.first; second = l.old.second }

      one : Line
      one = single number time l i false

      two : Line
      two = single number time l i true

      first : (t : Bool) → false ≢ t → word_of half t ≡ word_of (w l.cell) t
      first false differ = absurd (differ refl)
      first true differ = ap (λ (x : Words). x.second) old

      second : (t : Bool) → true ≢ t → word_of l.new t ≡ word_of (put w l.cell half l.cell) t
      second false differ = ap (λ (x : Words). x.first) (sym (put_same w l.cell l.cell half refl))
      second true differ = absurd (differ refl)

      between : Agrees (written m one) (put w l.cell half)
      between = write m w one l.cell false half u refl refl first agrees

      over : (e : ℕ) → put (put w l.cell half) l.cell l.new e ≡ put w l.cell l.new e
      over e = elim (cases_eq l.cell e) [
        | inl same ↦ put_same (put w l.cell half) l.cell e l.new same ∙ sym (put_same w l.cell e l.new same)
        | inr other ↦ put_other (put w l.cell half) l.cell e l.new other ∙ put_other w l.cell e half other ∙ sym (put_other w l.cell e l.new other)
      ]
  led m w (One false) l i agrees old (u, same) = record {
    honest = (ap (λ (x : Words). x.first) old ∙ sym (agrees.at l.cell false u), tt);
    leaves = write m w (single number time l i false) l.cell false l.new u refl refl kept agrees;
  }
    where
      kept : (t : Bool) → false ≢ t → word_of l.new t ≡ word_of (w l.cell) t
      kept false differ = absurd (differ refl)
      kept true differ = same ∙ ap (λ (x : Words). x.second) old
  led m w (One true) l i agrees old (u, same) = record {
    honest = (ap (λ (x : Words). x.second) old ∙ sym (agrees.at l.cell true u), tt);
    leaves = write m w (single number time l i true) l.cell true l.new u refl refl kept agrees;
  }
    where
      kept : (t : Bool) → true ≢ t → word_of l.new t ≡ word_of (w l.cell) t
      kept false differ = same ∙ ap (λ (x : Words). x.first) old
      kept true differ = absurd (differ refl)
  led m w None l i agrees old (one, two) = record { honest = tt; leaves = agrees_same m w (put w l.cell l.new) unchanged agrees }
    where
      same : l.new ≡ w l.cell
      same = words_are l.new l.old one two ∙ old

      unchanged : (e : ℕ) → w e ≡ put w l.cell l.new e
      unchanged e = elim (cases_eq l.cell e) [
        | inl here ↦ ap w (sym here) ∙ sym same ∙ sym (put_same w l.cell e l.new here)
        | inr other ↦ sym (put_other w l.cell e l.new other)
      ]

  module _ (shown : ℕ → Shown) (line : ℕ → DoubleLine) where
    pub start : (t : Bool) → 0 ≡ word_of no_words t
    start false = refl
    start true = refl

    pub all_led : (n : ℕ) → ((i : ℕ) → i < n → Shows used (shown i) (line i)) → HonestDoubles n line
        → Led (λ _. 0) (before line n) (singles_below number time shown line n)
    all_led zero shows honest = record { honest = tt; leaves = record { at = λ e t k. start t } }
    all_led (suc n) shows honest =
        let xs = singles_below number time shown line n in
        let ys = singles_of number time (shown n) (line n) n in
        let front = all_led n (λ i h. shows i (omega arith)) (λ i h. honest i (omega arith)) in
        let back = led (fold written (λ _. 0) xs) (before line n) (shown n) (line n) n front.leaves (honest n (omega arith)) (shows n (omega arith)) in
        record {
          honest = HonestFrom-append (λ _. 0) xs ys front.honest back.honest;
          leaves = subst (λ m. Agrees m (before line (suc n))) (sym (after-append (λ _. 0) xs ys)) back.leaves;
        }

pub singles_honest : SinglesAreHonest
singles_honest = record {
  honest = λ used number time shown line n apart shows honest earlier l later e.
      Honest-from_HonestFrom (λ _. 0) (singles_below number time shown line n) earlier l later
      (all_led used number time apart shown line n shows honest).honest e;
  leaves = λ used number time shown line n apart shows honest d s u. (all_led used number time apart shown line n shows honest).leaves.at d s u;
}
