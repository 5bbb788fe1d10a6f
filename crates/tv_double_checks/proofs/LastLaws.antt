-- The laws of the greatest line.
use Rattle.tv_core.proofs.Common.{◌≡◌, ◌%◌, [], length, refl, sym, ◌∙◌, ap, arith, put, constant, value, normal, wire}
use Rattle.tv_core.proofs.CombinationLaws.{value-once, value-below}
use Rattle.tv_bits.proofs.NormalLaws.{wire_normal}
use Rattle.tv_core.proofs.NormalCircuits.{normal_put}
use Rattle.tv_core.proofs.NormalLaws.{value-normal, IsNormalFrom-normal}
use Rattle.tv_core.proofs.Unique.{normal-same}
use Rattle.tv_core.specs.declared.field.TheConstants.{P}
use Rattle.tv_double_checks.proofs.ItemLaws.{first_is}
use Rattle.tv_double_checks.specs.Last.{last_line_of, LastLineIsSound, LastLineIsComplete, LastLineSizes}
use Rattle.tv_doubles.proofs.WithinLaws.{checks_sound, checks_complete}
use Rattle.tv_doubles.specs.Within.{item_first}

pub last_line_sound : LastLineIsSound
unfolding last_line_of put
last_line_sound z next b item k j base assigns is_item in_k meets =
    let none : value item.first z ≡ 0 = sym (value-normal z item.first) ∙ sym (value-once z (normal item.first) assigns) ∙ meets.0 in
    checks_sound.last b k base in_k (ap (λ n. n % P) (sym (first_is z b item k j is_item) ∙ none) ∙ omega arith)

pub last_line_complete : LastLineIsComplete
unfolding last_line_of put
last_line_complete z next b item k j assigns is_item cell old =
    let zero : item_first b k % P ≡ 0 = checks_complete.last b k cell old in
    let below = value-below item.first z in
    let none : value item.first z ≡ 0 = omega (arith, ap (λ n. n % P) (first_is z b item k j is_item)) in
    (value-once z (normal item.first) assigns ∙ value-normal z item.first ∙ none, tt)

pub last_line_sizes : LastLineSizes
unfolding last_line_of put
last_line_sizes = record {
  end = λ item next. refl;
  fills = λ item next. omega arith;
  constraints = λ item next. refl;
  terms = λ u v next. omega (arith, ap length (normal-same (wire u) (wire_normal 0 u (omega arith))));
  is_normal = λ item next. normal_put (normal item.first) (constant 1) [] next (IsNormalFrom-normal item.first) (omega arith, omega arith, omega arith, tt) tt;
}
