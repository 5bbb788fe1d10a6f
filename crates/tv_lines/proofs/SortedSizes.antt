-- The values of a sorted pair are as many as its wires, and below P.
use Rattle.tv_core.proofs.Common.{◌≡◌, ℕ, ◌+◌, ◌-◌, ◌<◌, ◌==◌, List, [], ◌∷◌, ◌++◌, length, arith, cond_both, length-append, InField-none, InField-cons, ◌>>=◌}
use Rattle.tv_bits.proofs.OrderLaws.{first_difference-le}
use Rattle.tv_bits.proofs.PrefixLaws.{products_in_field, length-products}
use Rattle.tv_bits.proofs.SizeLaws.{bits_in_field, zero_in_field}
use Rattle.tv_bits.specs.Bits.{bits_values}
use Rattle.tv_bits.specs.Order.{first_difference}
use Rattle.tv_bits.specs.Prefixes.{products_values}
use Rattle.tv_bits.specs.Zero.{zero_values}
use Rattle.tv_core.proofs.FieldLaws.{InField-append}
use Rattle.tv_core.specs.declared.field.TheConstants.{P}
use Rattle.tv_lines.proofs.PairParts.{apart_next, carried_next, size_next}
use Rattle.tv_lines.proofs.PrefixOrder.{rises_next}
use Rattle.tv_lines.proofs.SortedComplete.{size_many}
use Rattle.tv_lines.specs.SortedPair.{apart_of, carried_of, size_of, sorted_pair_of, cells_apart, size, size_values, factor_in, SortedPairSizes}
use Rattle.tv_lines.specs.declared.rows.LineBits.{LineBits}
use Rattle.tv_bits.proofs.TimesLaws.{residue_below}

pub sorted_pair_next : (before after : LineBits) (next : ℕ) → (sorted_pair_of before after next).next ≡ next + 18
unfolding sorted_pair_of ◌>>=◌
sorted_pair_next before after next =
    let apart = apart_of before after next in
    let carried = carried_of apart.answer before after apart.next in
    let sized = size_of 11 carried.next in
    omega (
      arith,
      apart_next before after next,
      carried_next apart.answer before after apart.next,
      size_next 11 carried.next,
      rises_next apart.answer sized.answer before after sized.next,
    )

pub sorted_pair_fill : SortedPairSizes
sorted_pair_fill = record {
  end = sorted_pair_next;
  fills = λ before after l m next.
      let sizes : List ℕ = size_values (size l m) in
      let products : List ℕ = products_values (factor_in l m) 5 in
      let three : length products ≡ 3 = length-products (factor_in l m) 5 in
      omega (arith, sorted_pair_next before after next, length-append sizes products, size_many (size l m));
  in_field = λ l m range.
      let x : ℕ = cells_apart l m in
      let s : ℕ = size l m in
      let products : List ℕ = products_values (factor_in l m) 5 in
      let small = cond_both (l.cell == m.cell) (first_difference 11 2 m.time l.time) (first_difference 11 3 m.cell l.cell) (λ v. v < P)
      (λ same. omega (arith, first_difference-le 11 2 m.time l.time, range.time)) (λ apart.
      omega (arith, first_difference-le 11 3 m.cell l.cell, range.cell)) in
      InField-cons x (zero_values x ++ (size_values s ++ products)) (residue_below (m.cell + (P - l.cell)))
      (InField-append (zero_values x) (size_values s ++ products) (zero_in_field x)
      (InField-append (size_values s) products
      (InField-append (bits_values (s - 1) 11) (s ∷ []) (bits_in_field (s - 1) 11) (InField-cons s [] small InField-none))
      (products_in_field (factor_in l m) 5)));
}
