-- The laws of lines that begin a cell.
use Rattle.tv_core.proofs.Common.{◌≡◌, ℕ, ◌+◌, ◌-◌, ◌*◌, ◌%◌, ◌^◌, ◌<◌, List, [], ◌++◌, inl, refl, sym, ◌∙◌, ap, arith, value-below, put, constant, value}
use Rattle.tv_core.proofs.Common.{Assigns, Line, scaled, normal}
use Rattle.tv_core.proofs.CombinationLaws.{value-constant, value-once}
use Rattle.tv_core.specs.Lines.{pair_value}
use Rattle.tv_core.specs.declared.field.TheConstants.{P}
use Rattle.tv_core.specs.declared.lines.Pair.{Pair}
use Rattle.tv_core.specs.declared.lines.PairNum.{PairNum}
use Rattle.tv_lines.proofs.NormalLaws.{length-less_above}
use Rattle.tv_lines.proofs.PredecessorNumbers.{same_cells}
use Rattle.tv_lines.proofs.PredecessorValues.{value-less_above}
use Rattle.tv_lines.specs.PackedLines.{packed_item}
use Rattle.tv_lines.specs.Predecessor.{less_above}
use Rattle.tv_core.proofs.NormalCircuits.{normal_put}
use Rattle.tv_core.proofs.NormalLaws.{value-normal, IsNormalFrom-normal}
use Rattle.tv_lines.specs.Starts.{boot_line_of, BootLineIsSound, BootLineIsComplete, BootLineSizes, least_line_of}
use Rattle.tv_lines.specs.Starts.{LeastLineIsSound, LeastLineIsComplete, LeastLineSizes}

boot_line_value : (z : List ℕ) (k q : ℕ) (item : Pair) → k < 2 ^ 31 → Assigns z → value item.first z ≡ 2 ^ 32 * q
    → value (less_above item.first (constant k)) z ≡ (2 ^ 32 * q + (P - 2 ^ 32 * k)) % P
boot_line_value z k q item small assigns is = value-less_above item.first (constant k) z (2 ^ 32 * q) k is (value-constant assigns k ∙ omega arith) small

first_is : (z : List ℕ) (item : Pair) (p : Line) → pair_value z item ≡ packed_item p → value item.first z ≡ 2 ^ 32 * p.cell
first_is z item p is = ap (λ (x : PairNum). x.first) is ∙ omega arith

pub boot_line_sound : BootLineIsSound
unfolding boot_line_of put
boot_line_sound z next k item p l small assigns is_p in_p cell old meets =
    let v = boot_line_value z k p.cell item small assigns (first_is z item p is_p) in
    let below = value-below (less_above item.first (constant k)) z in
    let one : value (constant 1) z ≡ 1 = value-constant assigns 1 ∙ omega arith in
    let product : value (less_above item.first (constant k)) z * 1 % P ≡ 0 = ap (λ n. value (less_above item.first (constant k)) z * n % P) (sym one)
    ∙ meets.0 in
    let none : (2 ^ 32 * p.cell + (P - 2 ^ 32 * k)) % P ≡ 0 = sym v ∙ omega arith in
    let same : p.cell ≡ k = same_cells p.cell k in_p.cell small none in
    record { rises = inl (omega arith); carried = λ e. absurd (omega arith); fresh = λ _. old }

pub boot_line_complete : BootLineIsComplete
unfolding boot_line_of put
boot_line_complete z next k item p small assigns is_p same =
    let v : value (less_above item.first (constant k)) z ≡ 0 = boot_line_value z k p.cell item small assigns (first_is z item p is_p) ∙ omega arith in
    (ap (λ n. n * value (constant 1) z % P) v ∙ omega arith, tt)

pub boot_line_sizes : BootLineSizes
unfolding boot_line_of put
boot_line_sizes = record {
  end = λ c item next. refl;
  fills = λ c item next. omega arith;
  constraints = λ c item next. refl;
  terms = λ c u v next some. omega (arith, length-less_above (constant c) u some);
  is_normal = λ c item next.
      normal_put (less_above item.first (constant c)) (constant 1) [] next (IsNormalFrom-normal (item.first ++ scaled (P - 2 ^ 32) (constant c)))
      (omega arith, omega arith, omega arith, tt) tt;
}

-- ---- the least line
pub least_line_sound : LeastLineIsSound
unfolding least_line_of put
least_line_sound z next line assigns meets = sym (value-normal z line.old) ∙ sym (value-once z (normal line.old) assigns) ∙ meets.0

pub least_line_complete : LeastLineIsComplete
unfolding least_line_of put
least_line_complete z next line assigns none = (value-once z (normal line.old) assigns ∙ value-normal z line.old ∙ none, tt)

pub least_line_sizes : LeastLineSizes
unfolding least_line_of put
least_line_sizes = record {
  end = λ line next. refl;
  fills = λ line next. omega arith;
  constraints = λ line next. refl;
  terms = λ line next. omega arith;
  is_normal = λ line next. normal_put (normal line.old) (constant 1) [] next (IsNormalFrom-normal line.old) (omega arith, omega arith, omega arith, tt) tt;
}
