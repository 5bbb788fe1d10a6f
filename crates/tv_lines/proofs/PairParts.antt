-- The parts of a sorted pair: how far the cells are apart, the word that is carried, and a size.
use Rattle.tv_core.proofs.Common.{◌≡◌, ℕ, ◌+◌, ◌-◌, ◌*◌, ◌%◌, ◌^◌, ◌<◌, ◌≤◌, List, [], ◌∷◌, ◌++◌, length, sym, ◌∙◌, ap, ap₂, subst, arith, bit_at, slice_index}
use Rattle.tv_core.proofs.Common.{length-each_below, value-less, value-wire, Meets-split, Meets-join, HasFrom-split, fresh, put, pure, ◌>>=◌, constant, less}
use Rattle.tv_core.proofs.Common.{wire, value, Assigns, Meets, HasFrom, Line}
use Rattle.tv_bits.proofs.BitNumbers.{HasBits-below, HasBits-from_values, value-plus_one}
use Rattle.tv_bits.proofs.BitsLaws.{new_bits_answer, new_bits_next, new_bits_sound, new_bits_complete}
use Rattle.tv_bits.proofs.TimesLaws.{kept_answer, kept_next, kept_sound, kept_complete}
use Rattle.tv_bits.proofs.ZeroLaws.{zero_next, zero_sound, zero_complete}
use Rattle.tv_bits.specs.Bits.{HasBits, binary_value, bits_values, bits_combination, new_bits_of}
use Rattle.tv_bits.specs.Number.{number_of}
use Rattle.tv_bits.specs.Times.{times_of}
use Rattle.tv_bits.specs.Zero.{zero_of, zero_flag, zero_values}
use Rattle.tv_bits.specs.declared.bit_wires.Bits.{Bits}
use Rattle.tv_core.specs.declared.field.TheConstants.{P}
use Rattle.tv_lines.proofs.Numbers.{number_value}
use Rattle.tv_lines.specs.SortedPair.{apart_of, carried_of, size_of, size_values, cells_apart}
use Rattle.tv_lines.specs.UnpackedLines.{HasWidths, HasLineBits}
use Rattle.tv_lines.specs.declared.rows.LineBits.{LineBits}

-- ---- what the circuits answer, and where they end
pub apart_answer : (before after : LineBits) (next : ℕ) → (apart_of before after next).answer ≡ next
unfolding apart_of
apart_answer before after next = kept_answer (less (number_of after.cell) (number_of before.cell)) next

pub apart_next : (before after : LineBits) (next : ℕ) → (apart_of before after next).next ≡ next + 1
unfolding apart_of
apart_next before after next = kept_next (less (number_of after.cell) (number_of before.cell)) next

pub carried_next : (apart : ℕ) (before after : LineBits) (next : ℕ) → (carried_of apart before after next).next ≡ next + 2
unfolding carried_of put ◌>>=◌
carried_next apart before after next = zero_next (wire apart) next

pub size_next : (c next : ℕ) → (size_of c next).next ≡ next + c + 1
unfolding size_of times_of fresh put pure ◌>>=◌
size_next c next = ap (λ n. n + 1) (new_bits_next c next)

-- ---- a size
pub size_sound : (z : List ℕ) (c next : ℕ) → c ≤ 62 → Assigns z → Meets z (size_of c next).list
    → (0 < slice_index z (size_of c next).answer) × (slice_index z (size_of c next).answer ≤ 2 ^ c)
unfolding size_of times_of fresh put pure ◌>>=◌
size_sound z c next short assigns meets =
    let bits = new_bits_of c next in
    let both = Meets-split z bits.list _ meets in
    let s : HasBits z bits.answer.first c (binary_value z bits.answer.first c) = new_bits_sound z next c assigns both.0 in
    let n = ap (λ (b : Bits). b.n) (new_bits_answer c next) in
    let sum : value (bits_combination bits.answer.first bits.answer.n ++ constant 1) z ≡ binary_value z bits.answer.first c + 1 =
    ap (λ k. value (bits_combination bits.answer.first k ++ constant 1) z) n ∙ value-plus_one s assigns short in
    let is : slice_index z bits.next ≡ binary_value z bits.answer.first c + 1 =
    kept_sound z bits.next (bits_combination bits.answer.first bits.answer.n ++ constant 1) assigns both.1 ∙ sum in
    let small = HasBits-below s in
    (omega arith, omega arith)

pub size_complete : (z : List ℕ) (next v : ℕ) → 0 < v → v ≤ 2 ^ 11 → Assigns z → HasFrom z next (size_values v)
    → Meets z (size_of 11 next).list × (slice_index z (size_of 11 next).answer ≡ v)
unfolding size_of times_of fresh put pure ◌>>=◌
size_complete z next v some small assigns has =
    let bits = new_bits_of 11 next in
    let both = HasFrom-split z next (bits_values (v - 1) 11) (v ∷ []) has in
    let at : next + length (bits_values (v - 1) 11) ≡ bits.next = ap (λ n. next + n) (length-each_below 11 (bit_at (v - 1))) ∙ sym (new_bits_next 11 next) in
    let is : slice_index z bits.next ≡ v = (subst (λ n. HasFrom z n (v ∷ [])) at both.1).0 in
    let s : HasBits z bits.answer.first 11 (v - 1) = subst (λ (b : Bits). HasBits z b.first 11 (v - 1)) (sym (new_bits_answer 11 next))
    (HasBits-from_values z next 11 (v - 1) (omega arith) both.0) in
    let n = ap (λ (b : Bits). b.n) (new_bits_answer 11 next) in
    let sum : value (bits_combination bits.answer.first bits.answer.n ++ constant 1) z ≡ v =
    ap (λ k. value (bits_combination bits.answer.first k ++ constant 1) z) n ∙ value-plus_one s assigns (omega arith) ∙ omega arith in (
      Meets-join z bits.list _ (new_bits_complete z next 11 (v - 1) assigns both.0)
          (kept_complete z bits.next (bits_combination bits.answer.first bits.answer.n ++ constant 1) assigns (is ∙ sym sum, tt)),
      is,
    )

-- ---- two lines
module _ (z : List ℕ) (before after : LineBits) (l m : Line) (b : HasWidths before) (a : HasWidths after) (assigns : Assigns z) (sl : HasLineBits z before l)
    (sm : HasLineBits z after m) where
  cells : value (less (number_of after.cell) (number_of before.cell)) z ≡ cells_apart l m
  cells =
      value-less (number_of after.cell) (number_of before.cell) z
      ∙ ap₂ (λ x y. (x + (P - y)) % P) (number_value z after.cell 31 m.cell a.cell (omega arith) sm.cell)
      (number_value z before.cell 31 l.cell b.cell (omega arith) sl.cell)

  pub apart_sound : (next : ℕ) → Meets z (apart_of before after next).list → slice_index z (apart_of before after next).answer ≡ cells_apart l m
  unfolding apart_of
  apart_sound next meets = kept_sound z next (less (number_of after.cell) (number_of before.cell)) assigns meets ∙ cells

  pub apart_complete : (next : ℕ) → slice_index z next ≡ cells_apart l m → Meets z (apart_of before after next).list
  unfolding apart_of
  apart_complete next is = kept_complete z next (less (number_of after.cell) (number_of before.cell)) assigns (is ∙ sym cells, tt)

  olds : value (number_of after.old) z ≡ m.old
  olds = number_value z after.old 32 m.old a.old (omega arith) sm.old

  news : value (number_of before.new) z ≡ l.new
  news = number_value z before.new 32 l.new b.new (omega arith) sl.new

  pub carried_sound : (apart x next : ℕ) → slice_index z apart ≡ x → Meets z (carried_of apart before after next).list → zero_flag x * l.new % P ≡ m.old
  unfolding carried_of put ◌>>=◌
  carried_sound apart x next is meets =
      let same = zero_of (wire apart) next in
      let both = Meets-split z same.list _ meets in
      let flag = zero_sound z next (wire apart) assigns both.0 in
      let is_flag : value (wire same.answer) z ≡ zero_flag x = value-wire assigns same.answer ∙ flag ∙ ap zero_flag (value-wire assigns apart ∙ is) in
      ap₂ (λ u v. u * v % P) (sym is_flag) (sym news) ∙ both.1.0 ∙ olds

  pub carried_complete : (apart x next : ℕ) → slice_index z apart ≡ x → zero_flag x * l.new % P ≡ m.old → HasFrom z next (zero_values x)
      → Meets z (carried_of apart before after next).list
  unfolding carried_of put ◌>>=◌
  carried_complete apart x next is carried has =
      let same = zero_of (wire apart) next in
      let value_is : value (wire apart) z ≡ x = value-wire assigns apart ∙ is in
      let flags = zero_complete z next (wire apart) assigns (subst (λ v. HasFrom z next (zero_values v)) (sym value_is) has) in
      let is_flag : value (wire same.answer) z ≡ zero_flag x = value-wire assigns same.answer ∙ zero_sound z next (wire apart) assigns flags
      ∙ ap zero_flag value_is in
      Meets-join z same.list _ flags (ap₂ (λ u v. u * v % P) is_flag news ∙ carried ∙ sym olds, tt)
