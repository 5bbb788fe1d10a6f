-- How many wires, and as many values, below P.
use Rattle.tv_core.proofs.Common.{◌≡◌, ℕ, ◌+◌, ◌-◌, ◌*◌, ◌^◌, ◌<◌, ◌==◌, [], ◌∷◌, length, ◌∙◌, ap, arith, cond_both, length-append, bit_at, length-each_below}
use Rattle.tv_core.proofs.Common.{InField-none, InField-cons, put, ◌>>=◌, Line}
use Rattle.tv_bits.specs.Bits.{bits_values, new_bits_of}
use Rattle.tv_bits.proofs.SizeLaws.{bits_in_field}
use Rattle.tv_bits.proofs.BitsLaws.{new_bits_next}
use Rattle.tv_bits.proofs.TimesLaws.{kept_next}
use Rattle.tv_core.proofs.FieldLaws.{InField-append}
use Rattle.tv_core.specs.declared.field.TheConstants.{P}
use Rattle.tv_core.specs.declared.lines.LineLc.{LineLc}
use Rattle.tv_core.specs.declared.lines.Pair.{Pair}
use Rattle.tv_lines.specs.Predecessor.{excess, either_of, follows_of, reach_between, excess_between, follows_values, FollowsSizes}

pub follows_next : (m : ℕ) (line : LineLc) (item : Pair) (next : ℕ) → (follows_of m line item next).next ≡ next + m + 1
unfolding follows_of either_of put ◌>>=◌
follows_next m line item next =
    let reach = new_bits_of m next in
    omega (arith, new_bits_next m next, kept_next (excess reach.answer line item) reach.next)

pub follows_many : (m : ℕ) (p l : Line) → length (follows_values m p l) ≡ m + 1
follows_many m p l = length-append (bits_values (reach_between p l) m) (excess_between p l ∷ [])
    ∙ ap (λ n. n + 1) (length-each_below m (bit_at (reach_between p l)))

pub follows_sizes : FollowsSizes
follows_sizes = record {
  end = follows_next;
  fills = λ m line item p l next. omega (arith, follows_next m line item next, follows_many m p l);
  in_field = λ m p l range. InField-append (bits_values (reach_between p l) m) (excess_between p l ∷ []) (bits_in_field (reach_between p l) m)
      (InField-cons (excess_between p l) []
      (cond_both (p.cell == l.cell) (2 ^ 32 * (l.time - p.time) - l.old) 0 (λ e. e < P)
      (λ same. omega (arith, range.time)) (λ apart. omega arith)) InField-none);
}
