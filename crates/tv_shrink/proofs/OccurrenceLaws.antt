-- The rows that wires may stand in.
use Rattle.tv_core.proofs.Common.{◌≡◌, ℕ, suc, ◌+◌, ◌-◌, ◌%◌, ◌<◌, ◌≤◌, Bool, List, ◌∷◌, ◌++◌, true, refl, sym, ◌∙◌, ap, ap₂, subst, arith, [], cond, inl, inr}
use Rattle.tv_core.proofs.Common.{map, length, get_or, set, slice_index, cases_eq, length-map}
use Rattle.std.proofs.Common.{◌||◌, eqb, eq-eqb, ne_eqb, length-set, reverse}
use Rattle.std.specs.List.{AllByRecursion, list_any}
use Rattle.std.proofs.lemmas.Bool.{or_left, or_right}
use Rattle.std.proofs.lemmas.List.{get_or_default, get_or-map, get_or-reverse, get_or-set_other, get_or-set_same, length-reverse, reverse-append}
use Rattle.std.proofs.lemmas.Nat.{mod_below}
use Rattle.tv_shrink.specs.Occurrences.{has_row, rows_from, AreLinked, LeadBack}
use Rattle.tv_shrink.proofs.Elements.{each_at, each_set, each_weaker}
use Rattle.tv_shrink.specs.declared.occurrences.Entry.{Entry}

-- a wire that has no entry
pub rows_from-none : (entries : List Entry) → rows_from entries 0 ≡ []
rows_from-none [] = refl
rows_from-none (entry ∷ before) =
    ap (λ b. cond b (entry.row ∷ rows_from before entry.next) (rows_from before 0)) (ne_eqb 0 (suc (length before)) (λ e. absurd (omega arith)))
    ∙ rows_from-none before

-- one more entry leaves those before it
pub rows_from-before : (entry : Entry) (before : List Entry) (number : ℕ) → number ≤ length before → rows_from (entry ∷ before) number ≡ rows_from before number
rows_from-before entry before number h =
    ap (λ b. cond b (entry.row ∷ rows_from before entry.next) (rows_from before number)) (ne_eqb number (suc (length before)) (λ e. absurd (omega arith)))

-- and comes before them
pub rows_from-last : (entry : Entry) (before : List Entry) → rows_from (entry ∷ before) (suc (length before)) ≡ entry.row ∷ rows_from before entry.next
rows_from-last entry before =
    ap (λ b. cond b (entry.row ∷ rows_from before entry.next) (rows_from before (suc (length before))))
    (eq-eqb (suc (length before)) (suc (length before)) refl)

-- an entry's row, and those of the entries that it leads to
rows_from-step : (entries : List Entry) (number : ℕ) (entry : Entry) → 0 < number → number ≤ length entries → LeadBack entries
    → entry ≡ get_or entries (length entries - number) entry →
    (rows_from entries number ≡ entry.row ∷ rows_from entries entry.next) × (entry.next < number)
rows_from-step [] number entry some inside back at = absurd (omega arith)
rows_from-step (first ∷ before) number entry some inside back at =
    elim (cases_eq number (suc (length before))) [
      | inl same ↦
          let here : length (first ∷ before) - number ≡ 0 = omega arith in
          let is : entry ≡ first = at ∙ ap (λ k. get_or (first ∷ before) k entry) here in
          let next : entry.next ≡ first.next = ap (λ (e : Entry). e.next) is in
          let low : entry.next ≤ length before = omega (arith, back.0) in (
            ap (rows_from (first ∷ before)) same
                ∙ rows_from-last first before
                ∙ ap₂ (λ row rows. row ∷ rows) (ap (λ (e : Entry). e.row) (sym is))
                (ap (rows_from before) (sym next) ∙ sym (rows_from-before first before entry.next low)),
            omega arith,
          )
      | inr apart ↦
          let within : number ≤ length before = omega arith in
          let later : length (first ∷ before) - number ≡ suc (length before - number) = omega arith in
          let found = rows_from-step before number entry some within back.1 (at ∙ ap (λ k. get_or (first ∷ before) k entry) later) in
          let low : entry.next ≤ length before = omega (arith, found.1) in (
            rows_from-before first before number within ∙ found.0 ∙ ap (λ rows. entry.row ∷ rows) (sym (rows_from-before first before entry.next low)),
            found.1,
          )
    ]

pub rows_from-at : (entries : List Entry) (heads : List ℕ) (number : ℕ) (entry : Entry) → 0 < number → number ≤ length entries → AreLinked entries heads
    → entry ≡ get_or entries (number - 1) entry →
    (rows_from (reverse entries) number ≡ entry.row ∷ rows_from (reverse entries) entry.next) × (entry.next < number)
rows_from-at entries heads number entry some inside linked at =
    let same : length (reverse entries) ≡ length entries = length-reverse entries in
    let low : length entries - number < length entries = omega arith in
    let back : length entries - 1 - (length entries - number) ≡ number - 1 = omega arith in
    rows_from-step (reverse entries) number entry some (omega arith) linked.back
    (at
    ∙ ap (λ k. get_or entries k entry) (sym back)
    ∙ sym (get_or-reverse entries (length entries - number) entry low)
    ∙ ap (λ n. get_or (reverse entries) (n - number) entry) (sym same))

-- one more entry
pub reverse_push : (entries : List Entry) (entry : Entry) → reverse (entries ++ entry ∷ []) ≡ entry ∷ reverse entries
reverse_push entries entry = reverse-append entries (entry ∷ [])

pub linked_set : (entries : List Entry) (heads : List ℕ) (place number : ℕ) → number ≤ length entries → AreLinked entries heads
    → AreLinked entries (set heads place number)
linked_set entries heads place number h linked = record {
  some = omega (arith, linked.some, length-set heads place number);
  back = linked.back;
  within = each_set (λ head. head ≤ length entries) heads place number h linked.within;
}

pub linked_push : (entries more : List Entry) (heads : List ℕ) (entry : Entry) → more ≡ entries ++ entry ∷ [] → length more ≡ length entries + 1
    → entry.next ≤ length entries → AreLinked entries heads → AreLinked more heads
linked_push entries more heads entry is each h linked = record {
  some = linked.some;
  back = subst LeadBack (sym (ap reverse is ∙ reverse_push entries entry)) (omega (arith, length-reverse entries), linked.back);
  within = each_weaker (λ head. head ≤ length entries) (λ head. head ≤ length more) (λ head low. omega (arith, each)) heads linked.within;
}

-- a list begins at one of the entries that there are, or at none
head_within : (n : ℕ) (heads : List ℕ) (place : ℕ) → AllByRecursion (λ head. head ≤ n) heads → get_or heads place 0 ≤ n
head_within n heads place h = each_at (λ head. head ≤ n) heads place 0 (omega arith) h

pub head_inside : (entries : List Entry) (heads : List ℕ) (place head : ℕ) → AreLinked entries heads → place < length heads → head ≡ get_or heads place head →
    (head ≤ length entries) × (head ≡ slice_index heads place)
head_inside entries heads place head linked inside at =
    let is : head ≡ slice_index heads place = at ∙ get_or_default heads place head 0 inside in
    (omega (arith, is, head_within (length entries) heads place linked.within), is)

-- the rows of a wire, by entries and heads
abbrev is_filed : List Entry → List ℕ → ℕ → ℕ → Bool
is_filed entries heads w row = list_any (λ p. eqb p row) (rows_from (reverse entries) (slice_index heads (w % length heads)))

pub seen : (entries : List Entry) (heads : List ℕ) (w i : ℕ) → 0 < length heads
    → has_row (map (rows_from (reverse entries)) heads) w i ≡ is_filed entries heads w i
seen entries heads w i some =
    let f = rows_from (reverse entries) in
    ap (list_any (λ p. eqb p i)) (ap (λ n. get_or (map f heads) (w % n) []) (length-map heads f)
    ∙ get_or-map f heads (w % length heads) 0 [] (mod_below w (length heads) some))

-- a wire's list begins at the entry that is found by the number of lists
pub listed : (entries : List Entry) (heads : List ℕ) (lists : List (List ℕ)) (w n number : ℕ) → AreLinked entries heads
    → map (rows_from (reverse entries)) heads ≡ lists → n ≡ length heads → number ≡ get_or heads (w % n) number →
    (number ≤ length entries) × ((i : ℕ) → has_row lists w i ≡ list_any (λ p. eqb p i) (rows_from (reverse entries) number))
listed entries heads lists w n number linked view is at =
    let found = head_inside entries heads (w % length heads) number linked (mod_below w (length heads) linked.some) (rw is at at) in (
      found.0,
      λ i. rw (← view) (seen entries heads w i linked.some ∙ ap (λ n. list_any (λ p. eqb p i) (rows_from (reverse entries) n)) (sym found.1)),
    )

-- once there is one more entry, at which one list begins
module _ (entries more : List Entry) (heads : List ℕ) (row head place number : ℕ) (linked : AreLinked entries heads)
    (is : more ≡ entries ++ record { row = row; next = head } ∷ []) (inside : place < length heads) (each : number ≡ length entries + 1) where
  from_before : (first : ℕ) → first ≤ length entries → rows_from (reverse more) first ≡ rows_from (reverse entries) first
  from_before first h =
      ap (λ es. rows_from es first) (ap reverse is ∙ reverse_push entries (record { row = row; next = head }))
      ∙ rows_from-before (record { row = row; next = head }) (reverse entries) first (omega (arith, length-reverse entries))

  from_new : rows_from (reverse more) number ≡ row ∷ rows_from (reverse entries) head
  from_new =
      let same : length (reverse entries) ≡ length entries = length-reverse entries in
      let last : number ≡ suc (length (reverse entries)) = omega arith in
      ap (λ es. rows_from es number) (ap reverse is ∙ reverse_push entries (record { row = row; next = head }))
      ∙ ap (rows_from (record { row = row; next = head } ∷ reverse entries)) last
      ∙ rows_from-last (record { row = row; next = head }) (reverse entries)

  at_place : (w i k : ℕ) → w % length heads ≡ k
      → is_filed more (set heads place number) w i ≡ list_any (λ p. eqb p i) (rows_from (reverse more) (slice_index (set heads place number) k))
  at_place w i k e =
      ap (λ k. list_any (λ p. eqb p i) (rows_from (reverse more) (slice_index (set heads place number) k)))
      (ap (λ n. w % n) (length-set heads place number) ∙ e)

  filed_there : (w i : ℕ) → w % length heads ≡ place
      → is_filed more (set heads place number) w i ≡ (eqb row i || list_any (λ p. eqb p i) (rows_from (reverse entries) head))
  filed_there w i there =
      at_place w i place there
      ∙ ap (list_any (λ p. eqb p i)) (ap (rows_from (reverse more)) (get_or-set_same heads place number 0 inside) ∙ from_new)

  some_list : 0 < length (set heads place number)
  some_list = omega (arith, length-set heads place number)

  pub filed_here : (w : ℕ) → w % length heads ≡ place → has_row (map (rows_from (reverse more)) (set heads place number)) w row ≡ true
  filed_here w there =
      seen more (set heads place number) w row some_list ∙ filed_there w row there
      ∙ or_left (eqb row row) (list_any (λ p. eqb p row) (rows_from (reverse entries) head)) (eq-eqb row row refl)

  pub filed_more : (lists : List (List ℕ)) (w i : ℕ) → map (rows_from (reverse entries)) heads ≡ lists → head ≡ slice_index heads place
      → has_row lists w i ≡ true → has_row (map (rows_from (reverse more)) (set heads place number)) w i ≡ true
  filed_more lists w i view is_head has =
      let e = sym (seen entries heads w i (omega arith)) ∙ ap (λ xs. has_row xs w i) view ∙ has in
      seen more (set heads place number) w i some_list ∙ elim (cases_eq (w % length heads) place) [
        | inl there ↦
            filed_there w i there
            ∙ or_right (eqb row i) (list_any (λ p. eqb p i) (rows_from (reverse entries) head))
            (ap (λ n. list_any (λ p. eqb p i) (rows_from (reverse entries) n)) (is_head ∙ ap (slice_index heads) (sym there)) ∙ e)
        | inr apart ↦
            at_place w i (w % length heads) refl
            ∙ ap (list_any (λ p. eqb p i)) (ap (rows_from (reverse more)) (get_or-set_other heads place (w % length heads) number 0 apart)
            ∙ from_before (slice_index heads (w % length heads)) (head_within (length entries) heads (w % length heads) linked.within))
            ∙ e
      ]
