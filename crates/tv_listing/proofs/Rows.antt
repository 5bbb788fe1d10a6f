-- Lines in rows, one after another.
use Rattle.tv_core.proofs.Common.{◌≡◌, ℕ, zero, suc, ◌+◌, ◌<◌, ◌≤◌, ◌^◌, List, [], ◌∷◌, ◌++◌, length, map, take, get_or, refl, sym, ap, ap₂, ◌∙◌, append_assoc}
use Rattle.tv_core.proofs.Common.{arith, length-map, slice_index, Line}
use Rattle.std.proofs.lemmas.List.{map-append, get_or-map}
use Rattle.tv_block.specs.Block.{block_of}
use Rattle.tv_core.specs.declared.lines.LineLc.{LineLc}
use Rattle.tv_layout.proofs.Boot.{boot_more}
use Rattle.tv_layout.proofs.LinePlaces.{line_number}
use Rattle.tv_layout.proofs.Positions.{log_above}
use Rattle.tv_layout.proofs.Whole.{few}
use Rattle.tv_layout.specs.Layout.{system_lines}
use Rattle.tv_layout.specs.Places.{WithinLimits, line_count, log_of, ProgramRuns}
use Rattle.tv_lines.specs.PackedLines.{line_value}
use Rattle.tv_lines.specs.Placed.{no_line, line_in}
use Rattle.tv_step.specs.Cells.{boot_from}
use Rattle.tv_listing.specs.Listing.{lines_at}
use Rattle.tv_listing.specs.Row.{row_line}
use Rattle.tv_listing.specs.declared.row.ListedLine.{ListedLine}

take_next : {A : Type 0} (xs : List A) (i : ℕ) (d : A) → i < length xs → take (i + 1) xs ≡ take i xs ++ get_or xs i d ∷ []
take_next [] i d h = absurd (omega arith)
take_next (x ∷ xs) zero d h = refl
take_next (x ∷ xs) (suc i) d h = let e : suc i + 1 ≡ suc (i + 1) = omega arith in rw e (ap (λ l. x ∷ l) (take_next xs i d (omega arith)))

-- there is a line at each place
pub placed : (runs : ProgramRuns) → WithinLimits runs → line_count runs ≤ 2 ^ log_of (line_count runs)
placed runs fits = log_above (line_count runs) (few runs fits)

-- one more of the lines that an assignment has
pub rows_more : (runs : ProgramRuns) (i : ℕ) (z : List ℕ) (rows : List ListedLine) (row : ListedLine) (line : LineLc) → WithinLimits runs
    → i < line_count runs → map row_line rows ≡ take i (lines_at runs z)
    → line ≡ line_in (system_lines (block_of runs.width) runs) i → row_line row ≡ line_value z line
    → map row_line (rows ++ row ∷ []) ≡ take (i + 1) (lines_at runs z)
rows_more runs i z rows row line fits h before is valued =
    let many : i < length (system_lines (block_of runs.width) runs) = omega (arith, line_number runs fits, placed runs fits) in
    let here : get_or (lines_at runs z) i (row_line row)
    ≡ row_line row = get_or-map (line_value z) (system_lines (block_of runs.width) runs) i no_line (row_line row) many ∙ ap (line_value z) (sym is)
    ∙ sym valued in
    map-append row_line rows (row ∷ [])
    ∙ ap₂ (λ (a b : List Line). a ++ b) before (ap (λ (l : Line). l ∷ []) (sym here))
    ∙ sym (take_next (lines_at runs z) i (row_line row) (omega (arith, length-map (system_lines (block_of runs.width) runs) (line_value z))))

-- one more line of a trace
pub line_pushed : (front lines : List Line) (rows : List ListedLine) (i : ℕ) (row : ListedLine) (d : Line) → map row_line rows ≡ front ++ take i lines
    → i < length lines → row_line row ≡ get_or lines i d → map row_line (rows ++ row ∷ []) ≡ front ++ take (i + 1) lines
line_pushed front lines rows i row d before h is =
    map-append row_line rows (row ∷ []) ∙ ap₂ (λ (a b : List Line). a ++ b) before (ap (λ (l : Line). l ∷ []) is)
    ∙ append_assoc front (take i lines) (get_or lines i d ∷ []) ∙ ap (λ l. front ++ l) (sym (take_next lines i d h))

-- one more of the lines that write words
pub words_pushed : (lines : List Line) (rows : List ListedLine) (row : ListedLine) (cell time i : ℕ) (words : List ℕ) → i < length words
    → map row_line rows ≡ lines ++ boot_from cell time (take i words)
    → row_line row ≡ record { cell = cell + i; time = time + i; old = 0; new = slice_index words i }
    → map row_line (rows ++ row ∷ []) ≡ lines ++ boot_from cell time (take (i + 1) words)
words_pushed lines rows row cell time i words h before is =
    map-append row_line rows (row ∷ [])
    ∙ ap₂ (λ (a b : List Line). a ++ b) before (ap (λ (l : Line). l ∷ []) is)
    ∙ append_assoc lines (boot_from cell time (take i words)) _
    ∙ ap (λ l. lines ++ l) (sym (boot_more cell time words i h))
