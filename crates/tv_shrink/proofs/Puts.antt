-- A shrunk system as it is put into a sink, and its file.
use Rattle.tv_core.proofs.Common.{◌≡◌, ◌+◌, ◌<◌, ◌≤◌, ℕ, zero, suc, List, ◌∷◌, ◌++◌, length, take, Option, Some, None, refl, sym, ap, ap₂, ◌∙◌, subst, arith}
use Rattle.tv_core.proofs.Common.{[], get_or, append-nil, add-one, Circuit, fresh, pure, put, turns, ◌>>=◌, Constraint, terms_in}
use Rattle.std.specs.List.{filter_map}
use Rattle.std.proofs.lemmas.List.Elements.{filter_map-append}
use Rattle.std.proofs.lemmas.List.Sums.{sum_by_push}
use Rattle.std.proofs.lemmas.List.{take_more, take_all}
use Rattle.tv_shrink.proofs.Elements.{each_at}
use Rattle.tv_shrink.specs.Emission.{row_circuit, row_count, rows_circuit, wires_circuit}
use Rattle.tv_shrink.specs.Tidy.{AreWithin, IsWithin, RowIsWithin}

pub row_count_few : (row : Option Constraint) → row_count row ≤ 1
row_count_few None = omega arith
row_count_few (Some c) = omega arith

-- wires that are made, and no constraint
pub wires_next : (n next : ℕ) → (wires_circuit n next).next ≡ next + n
unfolding turns pure fresh ◌>>=◌
wires_next zero next = omega arith
wires_next (suc n) next = omega (arith, wires_next n next)

pub wires_list : (n next : ℕ) → (wires_circuit n next).list ≡ []
unfolding turns pure fresh ◌>>=◌
wires_list zero next = refl
wires_list (suc n) next = ap (λ list. list ++ []) (wires_list n next)

-- the constraints of rows that were not dropped
row_next : (row : Option Constraint) (next : ℕ) → (row_circuit row next).next ≡ next
unfolding pure put
row_next None next = refl
row_next (Some c) next = refl

row_list : (row : Option Constraint) (next : ℕ) → (row_circuit row next).list ≡ filter_map (λ r. r) (row ∷ [])
unfolding pure put
row_list None next = refl
row_list (Some c) next = refl

pub rows_next : (rows : List (Option Constraint)) (n next : ℕ) → (rows_circuit rows n next).next ≡ next
unfolding turns pure ◌>>=◌
rows_next rows zero next = refl
rows_next rows (suc n) next = row_next (get_or rows n None) (rows_circuit rows n next).next ∙ rows_next rows n next

pub rows_list : (rows : List (Option Constraint)) (n next : ℕ) → n ≤ length rows → (rows_circuit rows n next).list ≡ filter_map (λ r. r) (take n rows)
unfolding turns pure ◌>>=◌
rows_list rows zero next h = refl
rows_list rows (suc n) next h =
    ap₂ (λ front back. front ++ back) (rows_list rows n next (omega arith)) (row_list (get_or rows n None) (rows_circuit rows n next).next)
    ∙ sym (filter_map-append (λ r. r) (take n rows) (get_or rows n None ∷ []))
    ∙ ap (filter_map (λ r. r)) (sym (ap (λ k. take k rows) (sym (add-one n)) ∙ take_more rows n None (omega arith)))

-- wires, and then rows
abbrev pub circuit_of : ℕ → List (Option Constraint) → Circuit (Unit {0})
circuit_of n rows = wires_circuit n >>= (λ _. rows_circuit rows (length rows))

pub circuit_list : (n : ℕ) (rows : List (Option Constraint)) (next : ℕ) → (circuit_of n rows next).list ≡ filter_map (λ r. r) rows
unfolding ◌>>=◌
circuit_list n rows next =
    ap₂ (λ front back. front ++ back) (wires_list n next) (rows_list rows (length rows) (wires_circuit n next).next (omega arith))
    ∙ ap (filter_map (λ r. r)) (take_all (length rows) rows (omega arith))

pub circuit_next : (n : ℕ) (rows : List (Option Constraint)) (next : ℕ) → (circuit_of n rows next).next ≡ next + n
unfolding ◌>>=◌
circuit_next n rows next = rows_next rows (length rows) (wires_circuit n next).next ∙ wires_next n next

-- one more row counted
row_taken : (rows : List (Option Constraint)) (i : ℕ) (row : Option Constraint) → i < length rows → row ≡ get_or rows i None
    → filter_map (λ r. r) (take (i + 1) rows) ≡ filter_map (λ r. r) (take i rows) ++ filter_map (λ r. r) (row ∷ [])
row_taken rows i row h at =
    ap (filter_map (λ r. r)) (take_more rows i None h ∙ ap (λ r. take i rows ++ r ∷ []) (sym at)) ∙ filter_map-append (λ r. r) (take i rows) (row ∷ [])

pub some_taken : (rows : List (Option Constraint)) (i : ℕ) (row : Option Constraint) (c : Constraint) → i < length rows → row ≡ get_or rows i None
    → row ≡ Some c → filter_map (λ r. r) (take (i + 1) rows) ≡ filter_map (λ r. r) (take i rows) ++ c ∷ []
some_taken rows i row c h at is = row_taken rows i row h at ∙ ap (λ r. filter_map (λ r. r) (take i rows) ++ filter_map (λ r. r) (r ∷ [])) is

pub none_taken : (rows : List (Option Constraint)) (i : ℕ) (row : Option Constraint) → i < length rows → row ≡ get_or rows i None → row ≡ None
    → filter_map (λ r. r) (take (i + 1) rows) ≡ filter_map (λ r. r) (take i rows)
none_taken rows i row h at is = row_taken rows i row h at ∙ ap (λ r. filter_map (λ r. r) (take i rows) ++ filter_map (λ r. r) (r ∷ [])) is
    ∙ append-nil (filter_map (λ r. r) (take i rows))

pub terms_more : (list : List Constraint) (c : Constraint) → terms_in (list ++ c ∷ []) ≡ terms_in list + (length c.a + length c.b + length c.c)
terms_more list c = sum_by_push (λ (d : Constraint). length d.a + length d.b + length d.c) list c

pub short_at : (wires i : ℕ) (rows : List (Option Constraint)) (row : Option Constraint) (c : Constraint) → AreWithin wires rows
    → row ≡ get_or rows i None → row ≡ Some c → IsWithin wires c
short_at wires i rows row c within at is = subst (RowIsWithin wires) (sym at ∙ is) (each_at (RowIsWithin wires) rows i None tt within)
