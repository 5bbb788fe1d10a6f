-- Tables of pages, as they grow and where one page changes.
use Rattle.std.proofs.Common.{◌≡◌, ◌≢◌, ℕ, zero, suc, ◌/◌, ◌%◌, ◌<◌, List, [], ◌∷◌, ◌++◌, length, cond, Box, Option, Some, None, option_map, ap, refl, sym}
use Rattle.std.proofs.Common.{◌∙◌, inl, inr, arith}
use Rattle.std.specs.Prelude.{nat_eq, slice_get, slice_index_or, slice_set}
use Rattle.std.specs.Box.{box_value}
use Rattle.std.specs.Global.{Global}
use Rattle.std.proofs.lemmas.Bool.{eq-eqb, ne_eqb}
use Rattle.std.proofs.lemmas.Bool.Decides.{eqb_tells}
use Rattle.std.proofs.lemmas.List.{get_or-set_same, get_or-set_other, length-set}
use Rattle.std.proofs.lemmas.Option.{slice_get-get_or}
use Rattle.tv_mem.specs.Pages.{Found, Table, page_of, page_at, page_in, Same, Changes}

empty_place : (places : List (Option (Box (List ℕ) Global))) (q : ℕ) → slice_index_or (places ++ None ∷ []) q None ≡ slice_index_or places q None
empty_place [] zero = refl
empty_place [] (suc q) = refl
empty_place (page ∷ places) zero = refl
empty_place (page ∷ places) (suc q) = empty_place places q

-- one more place, without a page
pub same_with_a_place : (old : Found) (table grown : Table) → Same old (page_of table) → grown.items ≡ table.items ++ None ∷ [] → Same old (page_of grown)
same_with_a_place old table grown same more q = ap (λ l. option_map box_value (slice_index_or l q None)) more
    ∙ ap (option_map box_value) (empty_place table.items q) ∙ same q

-- a page is put into its place
pub changes : (old : Found) (table new : Table) (place : ℕ) (page : Box (List ℕ) Global) → Same old (page_of table) → place < length table.items
    → new.items ≡ slice_set table.items place (Some page) → Changes old (page_of new) place (box_value page)
changes old table new place page same within put q = elim (eqb_tells q place) [
  | inl here ↦
      ap (λ l. option_map box_value (slice_index_or l q None)) put
      ∙ ap (λ n. option_map box_value (slice_index_or (slice_set table.items place (Some page)) n None)) here.1
      ∙ ap (option_map box_value) (get_or-set_same table.items place (Some page) None within)
      ∙ sym (ap (λ b. cond b (Some (box_value page)) (old q)) here.0)
  | inr other ↦
      ap (λ l. option_map box_value (slice_index_or l q None)) put
      ∙ ap (option_map box_value) (get_or-set_other table.items place q (Some page) None other.1)
      ∙ same q
      ∙ sym (ap (λ b. cond b (Some (box_value page)) (old q)) other.0)
]

-- ---- a list of tables
get_more : (tables : List Table) (table : Table) (q place : ℕ) → table.items ≡ []
    → page_at (slice_get (tables ++ table ∷ []) q) place ≡ page_at (slice_get tables q) place
get_more [] table zero place none = ap (λ l. option_map box_value (slice_index_or l place None)) none
get_more [] table (suc q) place none = refl
get_more (first ∷ tables) table zero place none = refl
get_more (first ∷ tables) table (suc q) place none = get_more tables table q place none

-- one more table, without places
pub same_with_a_table : (old : Found) (tables : List Table) (table : Table) → Same old (page_in tables) → table.items ≡ []
    → Same old (page_in (tables ++ table ∷ []))
same_with_a_table old tables table same none q = get_more tables table (q / 1024) (q % 1024) none ∙ same q

get_set_same : (tables : List Table) (i : ℕ) (table : Table) → i < length tables → slice_get (slice_set tables i table) i ≡ Some table
get_set_same tables i table h =
    slice_get-get_or (slice_set tables i table) i table (omega (arith, length-set tables i table)) ∙ ap (λ t. Some t) (get_or-set_same tables i table table h)

get_set_other : (tables : List Table) (i j : ℕ) (table : Table) → j ≢ i → slice_get (slice_set tables i table) j ≡ slice_get tables j
get_set_other [] i j table h = refl
get_set_other (first ∷ tables) zero zero table h = absurd (h refl)
get_set_other (first ∷ tables) zero (suc j) table h = refl
get_set_other (first ∷ tables) (suc i) zero table h = refl
get_set_other (first ∷ tables) (suc i) (suc j) table h = get_set_other tables i j table (λ e. h (ap suc e))

module _ (old : Found) (tables : List Table) (same : Same old (page_in tables)) (number : ℕ) (table new : Table) (within : number / 1024 < length tables)
    (was : slice_get tables (number / 1024) ≡ Some table) where
  -- the page with a number, by its table before the change
  before : old number ≡ page_of table (number % 1024)
  before = sym (same number) ∙ ap (λ t. page_at t (number % 1024)) was

  pub table_before : page_of table (number % 1024) ≡ old number
  table_before = sym before

  -- a page of one table changes
  pub table_changes : (page : List ℕ) → Changes (page_of table) (page_of new) (number % 1024) page
      → Changes old (page_in (slice_set tables (number / 1024) new)) number page
  table_changes page changed q = elim (eqb_tells (q / 1024) (number / 1024)) [
    | inl here ↦
        ap (λ i. page_at (slice_get (slice_set tables (number / 1024) new) i) (q % 1024)) here.1
        ∙ ap (λ t. page_at t (q % 1024)) (get_set_same tables (number / 1024) new within)
        ∙ changed (q % 1024)
        ∙ ap (λ b. cond b (Some page) (page_of table (q % 1024))) (same_entry q here.1)
        ∙ ap (cond (nat_eq q number) (Some page))
        (ap (λ t. page_at t (q % 1024)) (sym was) ∙ ap (λ i. page_at (slice_get tables i) (q % 1024)) (sym here.1) ∙ same q)
    | inr other ↦
        ap (λ t. page_at t (q % 1024)) (get_set_other tables (number / 1024) (q / 1024) new other.1)
        ∙ same q
        ∙ sym (ap (λ b. cond b (Some page) (old q)) (ne_eqb q number (λ e. other.1 (ap (λ n. n / 1024) e))))
  ]
    where
      same_entry : (q : ℕ) → q / 1024 ≡ number / 1024 → nat_eq (q % 1024) (number % 1024) ≡ nat_eq q number
      same_entry q e = elim (eqb_tells q number) [
        | inl one ↦ eq-eqb (q % 1024) (number % 1024) (ap (λ n. n % 1024) one.1) ∙ sym one.0
        | inr two ↦ ne_eqb (q % 1024) (number % 1024) (λ f. two.1 (omega (arith, e, f))) ∙ sym two.0
      ]

  -- none of them does
  pub table_same : Same (page_of table) (page_of new) → Same old (page_in (slice_set tables (number / 1024) new))
  table_same kept q = elim (eqb_tells (q / 1024) (number / 1024)) [
    | inl here ↦
        ap (λ i. page_at (slice_get (slice_set tables (number / 1024) new) i) (q % 1024)) here.1
        ∙ ap (λ t. page_at t (q % 1024)) (get_set_same tables (number / 1024) new within)
        ∙ kept (q % 1024)
        ∙ ap (λ t. page_at t (q % 1024)) (sym was)
        ∙ ap (λ i. page_at (slice_get tables i) (q % 1024)) (sym here.1)
        ∙ same q
    | inr other ↦ ap (λ t. page_at t (q % 1024)) (get_set_other tables (number / 1024) (q / 1024) new other.1) ∙ same q
  ]
