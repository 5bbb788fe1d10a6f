-- The laws of unpacking.
use Rattle.tv_core.proofs.Common.{◌≡◌, ℕ, ◌+◌, ◌*◌, ◌^◌, [], ◌++◌, length, refl, sym, ap, subst, arith, bit_at, length-append, length-each_below, Meets-split}
use Rattle.tv_core.proofs.Common.{Meets-join, HasFrom-split, pure, ◌>>=◌, value, HasFrom}
use Rattle.tv_bits.proofs.SizeLaws.{bits_in_field}
use Rattle.tv_bits.proofs.BitNumbers.{HasBits-low, HasBits-high}
use Rattle.tv_bits.proofs.BitsLaws.{bits_answer, bits_next, bits_sound, bits_complete}
use Rattle.tv_bits.specs.Bits.{bits_of, bits_values}
use Rattle.tv_core.proofs.FieldLaws.{InField-append}
use Rattle.tv_core.specs.declared.lines.Pair.{Pair}
use Rattle.tv_core.specs.declared.lines.PairNum.{PairNum}
use Rattle.tv_lines.specs.UnpackedLines.{unpack_of, UnpackIsSound, UnpackIsComplete, UnpackSizes}

-- where the circuit ends
unpack_next : (pair : Pair) (next : ℕ) → (unpack_of pair next).next ≡ next + 115
unfolding unpack_of pure ◌>>=◌
unpack_next pair next = rw (bits_next pair.first 63 next, bits_next pair.second 52 (next + 63)) (omega arith)

pub unpack_sound : UnpackIsSound
unfolding unpack_of pure ◌>>=◌
unpack_sound z next pair assigns meets =
    let f = bits_of pair.first 63 next in
    let s = bits_of pair.second 52 f.next in
    let one = Meets-split z f.list _ meets in
    let two = Meets-split z s.list [] one.1 in
    let first = bits_sound z next pair.first 63 (omega arith) assigns one.0 in
    let second = bits_sound z f.next pair.second 52 (omega arith) assigns two.0 in
    record {
      cell = HasBits-high z f.answer.first 32 31 (value pair.first z) first;
      time = HasBits-high z s.answer.first 32 20 (value pair.second z) second;
      old = HasBits-low z f.answer.first 32 31 (value pair.first z) first;
      new = HasBits-low z s.answer.first 32 20 (value pair.second z) second;
    }

pub unpack_complete : UnpackIsComplete
unfolding unpack_of pure ◌>>=◌
unpack_complete z next pair line assigns range is has =
    let f = bits_of pair.first 63 next in
    let s = bits_of pair.second 52 f.next in
    let x : value pair.first z ≡ line.cell * 2 ^ 32 + line.old = ap (λ (p : PairNum). p.first) is in
    let y : value pair.second z ≡ line.time * 2 ^ 32 + line.new = ap (λ (p : PairNum). p.second) is in
    let both = HasFrom-split z next (bits_values (value pair.first z) 63) (bits_values (value pair.second z) 52)
    (subst (λ n. HasFrom z next (bits_values n.first 63 ++ bits_values n.second 52)) (sym is) has) in
    let at : next + length (bits_values (value pair.first z) 63) ≡ f.next =
    omega (arith, length-each_below 63 (bit_at (value pair.first z)), bits_next pair.first 63 next) in
    Meets-join z f.list _ (bits_complete z next pair.first 63 (omega (arith, x, range.cell, range.old)) assigns both.0)
    (Meets-join z s.list [] (bits_complete z f.next pair.second 52 (omega (arith, y, range.time, range.new)) assigns
    (subst (λ n. HasFrom z n (bits_values (value pair.second z) 52)) at both.1)) tt)

pub unpack_fill : UnpackSizes
unfolding unpack_of pure ◌>>=◌
unpack_fill = record {
  answer = λ pair next. rw (bits_answer pair.first 63 next, bits_next pair.first 63 next, bits_answer pair.second 52 (next + 63)) refl;
  end = unpack_next;
  fills = λ pair numbers next.
      omega (
        arith,
        unpack_next pair next,
        length-append (bits_values numbers.first 63) (bits_values numbers.second 52),
        length-each_below 63 (bit_at numbers.first),
        length-each_below 52 (bit_at numbers.second),
      );
  in_field = λ numbers. InField-append (bits_values numbers.first 63) (bits_values numbers.second 52) (bits_in_field numbers.first 63)
      (bits_in_field numbers.second 52);
}
