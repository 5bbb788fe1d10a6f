-- The laws of the scan.
use Rattle.tv_core.proofs.Common.{◌≡◌, ℕ, zero, suc, ◌+◌, ◌-◌, ◌*◌, ◌%◌, ◌<◌, ◌≤◌, List, [], ◌∷◌, ◌++◌, length, map, get_or, refl, sym, ◌∙◌, ap, ap₂, subst}
use Rattle.tv_core.proofs.Common.{arith, slice_index, length-map, value-less, value-below, value-wire, InField-none, InField-cons, Meets-split, Meets-join}
use Rattle.tv_core.proofs.Common.{HasFrom-split, put, pure, turns, ◌>>=◌, constant, less, Combination, value, Assigns, Meets, HasFrom, InField, Line}
use Rattle.std.proofs.lemmas.List.{take_all}
use Rattle.tv_bits.proofs.SelectLaws.{select_answer, select_next, select_sound, select_complete}
use Rattle.tv_bits.proofs.SizeLaws.{zero_in_field}
use Rattle.tv_bits.proofs.ZeroLaws.{zero_next, zero_sound, zero_complete}
use Rattle.tv_bits.specs.Select.{select_of, selected}
use Rattle.tv_bits.specs.Bit.{IsBit}
use Rattle.tv_bits.specs.Zero.{zero_of, zero_flag, zero_values}
use Rattle.tv_core.proofs.CombinationLaws.{value-once}
use Rattle.tv_core.proofs.FieldLaws.{InField-append, InField-joined_below}
use Rattle.tv_core.proofs.JoinedLaws.{length-joined_below, has_each_list}
use Rattle.tv_core.proofs.LoopLaws.{turns-next}
use Rattle.tv_core.proofs.MeetsLaws.{parts, whole}
use Rattle.tv_core.specs.Lines.{memory_after}
use Rattle.tv_core.specs.declared.field.TheConstants.{P}
use Rattle.tv_core.specs.declared.lines.LineLc.{LineLc}
use Rattle.tv_lines.specs.PackedLines.{line_value}
use Rattle.tv_scan.proofs.Looks.{word_after-suc, choice, flag_bit, word_small}
use Rattle.tv_lines.specs.Placed.{no_line, zero_line}
use Rattle.tv_scan.specs.Scan.{look_of, turn_of, scan_of, word_after, cell_gap, look_values, ScanIsSound, ScanIsComplete, ScanSizes}

-- ---- where the circuits end
look_next : (earlier : List LineLc) (line : LineLc) (i : ℕ) (word : Combination) (next : ℕ) → (turn_of earlier line i word next).next ≡ next + 3
unfolding turn_of look_of pure ◌>>=◌
look_next earlier line i word next =
    let same = zero_of (less line.cell (get_or earlier i no_line).cell) next in
    select_next same.answer (get_or earlier i no_line).new word same.next ∙ ap (λ n. n + 1) (zero_next (less line.cell (get_or earlier i no_line).cell) next)
    ∙ omega arith

looks_next : (earlier : List LineLc) (line : LineLc) (next n : ℕ) → (turns n (turn_of earlier line) [] next).next ≡ next + n * 3
looks_next earlier line next n = turns-next (turn_of earlier line) [] next 3 n (look_next earlier line)

pub scan_next : (earlier : List LineLc) (line : LineLc) (next : ℕ) → (scan_of earlier line next).next ≡ next + length earlier * 3
unfolding scan_of put ◌>>=◌
scan_next earlier line next = looks_next earlier line next (length earlier)

look_many : (earlier : List Line) (line : Line) (i : ℕ) → length (look_values earlier line i) ≡ 3
look_many earlier line i = refl

value_at : (f : LineLc → Line) (ls : List LineLc) (i : ℕ) → get_or (map f ls) i (f no_line) ≡ f (get_or ls i no_line)
value_at f [] i = refl
value_at f (l ∷ ls) zero = refl
value_at f (l ∷ ls) (suc i) = value_at f ls i

-- ---- the loop
module _ (z : List ℕ) (earlier : List LineLc) (line : LineLc) (assigns : Assigns z) where
  abbrev numbers : List Line
  numbers = map (line_value z) earlier

  abbrev m : Line
  m = line_value z line

  at_place : (i : ℕ) → get_or (map (line_value z) earlier) i zero_line ≡ line_value z (get_or earlier i no_line)
  at_place i = value_at (line_value z) earlier i

  long : length (map (line_value z) earlier) ≡ length earlier
  long = length-map earlier (line_value z)

  apart_is : (i : ℕ) → value (less line.cell (get_or earlier i no_line).cell) z ≡ cell_gap numbers m i
  apart_is i = value-less line.cell (get_or earlier i no_line).cell z ∙ ap (λ (l : Line). (value line.cell z + (P - l.cell)) % P) (sym (at_place i))

  -- the word after line i, as the circuit chooses it
  chosen : (i word : ℕ) → i < length earlier → word ≡ word_after numbers m i
      → selected (zero_flag (cell_gap numbers m i)) (value (get_or earlier i no_line).new z) word ≡ word_after numbers m (i + 1)
  chosen i word h is =
      let l : Line = get_or (map (line_value z) earlier) i zero_line in
      let small : l.cell < P = subst (λ (k : Line). k.cell < P) (sym (at_place i)) (value-below (get_or earlier i no_line).cell z) in
      ap₂ (λ new w. selected (zero_flag (cell_gap numbers m i)) new w) (ap (λ (k : Line). k.new) (sym (at_place i))) is
      ∙ choice l.cell m.cell l.new (word_after numbers m i) small (value-below line.cell z)
      ∙ sym (word_after-suc (map (line_value z) earlier) m i (omega (arith, long)))

  look_sound : (i next : ℕ) (word : Combination) → i < length earlier → value word z ≡ word_after numbers m i → Meets z (turn_of earlier line i word next).list
      → value (turn_of earlier line i word next).answer z ≡ word_after numbers m (i + 1)
  unfolding turn_of look_of pure ◌>>=◌
  look_sound i next word h is meets =
      let x : Combination = less line.cell (get_or earlier i no_line).cell in
      let same = zero_of x next in
      let w = select_of same.answer (get_or earlier i no_line).new word same.next in
      let both = Meets-split z (same.list ++ w.list) [] meets in
      let one = Meets-split z same.list w.list both.0 in
      let flag : slice_index z same.answer ≡ zero_flag (cell_gap numbers m i) = zero_sound z next x assigns one.0 ∙ ap zero_flag (apart_is i) in
      let bit = subst IsBit (sym flag) (flag_bit (cell_gap numbers m i)) in
      let is_w = select_sound z same.next same.answer (get_or earlier i no_line).new word assigns bit one.1 in
      value-wire assigns w.answer ∙ is_w
      ∙ ap (λ f. selected f (value (get_or earlier i no_line).new z) (value word z)) flag ∙ chosen i (value word z) h is

  looks_sound : (next n : ℕ) → n ≤ length earlier → Meets z (turns n (turn_of earlier line) [] next).list
      → value (turns n (turn_of earlier line) [] next).answer z ≡ word_after numbers m n
  unfolding turns pure ◌>>=◌
  looks_sound next zero h meets = refl
  looks_sound next (suc n) h meets =
      let before = turns n (turn_of earlier line) [] in
      let both = parts z before (turn_of earlier line n) next meets in
      let same : n + 1 ≡ suc n = omega arith in
      look_sound n (before next).next (before next).answer (omega arith) (looks_sound next n (omega arith) both.0) both.1 ∙ ap (word_after numbers m) same

  look_complete : (i next : ℕ) (word : Combination) → i < length earlier → value word z ≡ word_after numbers m i → HasFrom z next (look_values numbers m i)
      → Meets z (turn_of earlier line i word next).list × (value (turn_of earlier line i word next).answer z ≡ word_after numbers m (i + 1))
  unfolding turn_of look_of pure ◌>>=◌
  look_complete i next word h is has =
      let x : Combination = less line.cell (get_or earlier i no_line).cell in
      let same = zero_of x next in
      let new : Combination = (get_or earlier i no_line).new in
      let w = select_of same.answer new word same.next in
      let both = HasFrom-split z next (zero_values (cell_gap numbers m i)) (word_after numbers m (i + 1) ∷ []) has in
      let flags = zero_complete z next x assigns (subst (λ v. HasFrom z next (zero_values v)) (sym (apart_is i)) both.0) in
      let flag : slice_index z same.answer ≡ zero_flag (cell_gap numbers m i) = zero_sound z next x assigns flags ∙ ap zero_flag (apart_is i) in
      let bit = subst IsBit (sym flag) (flag_bit (cell_gap numbers m i)) in
      let word_is : selected (slice_index z same.answer) (value new z) (value word z) ≡ word_after numbers m (i + 1) =
      ap (λ f. selected f (value new z) (value word z)) flag ∙ chosen i (value word z) h is in
      let there : slice_index z same.next ≡ word_after numbers m (i + 1) = ap (λ n. slice_index z n) (zero_next x next) ∙ both.1.0 in
      let at_w : slice_index z w.answer ≡ word_after numbers m (i + 1) = ap (λ n. slice_index z n) (select_answer same.answer new word same.next) ∙ there in (
        Meets-join z (same.list ++ w.list) [] (Meets-join z same.list w.list flags
            (select_complete z same.next same.answer new word assigns bit (there ∙ sym word_is, tt))) tt,
        value-wire assigns w.answer ∙ at_w,
      )

  more_answer : (next n : ℕ) → value (turns (suc n) (turn_of earlier line) [] next).answer z
      ≡ value (turn_of earlier line n (turns n (turn_of earlier line) [] next).answer (turns n (turn_of earlier line) [] next).next).answer z
  unfolding turns ◌>>=◌
  more_answer next n = refl

  looks_complete : (next n : ℕ) → n ≤ length earlier → ((i : ℕ) → i < n → HasFrom z (next + i * 3) (look_values numbers m i))
      → Meets z (turns n (turn_of earlier line) [] next).list × (value (turns n (turn_of earlier line) [] next).answer z ≡ word_after numbers m n)
  unfolding turns pure
  looks_complete next zero h has = (tt, refl)
  looks_complete next (suc n) h has =
      let before = turns n (turn_of earlier line) [] in
      let rest = looks_complete next n (omega arith) (λ i k. has i (omega arith)) in
      let same : n + 1 ≡ suc n = omega arith in
      let one = look_complete n (before next).next (before next).answer (omega arith) rest.1
      (subst (λ w. HasFrom z w (look_values numbers m n)) (sym (looks_next earlier line next n)) (has n (omega arith))) in
      (whole z before (turn_of earlier line n) next rest.0 one.0, more_answer next n ∙ one.1 ∙ ap (word_after numbers m) same)

  all_taken : word_after numbers m (length earlier) ≡ memory_after (map (line_value z) earlier) (value line.cell z)
  all_taken = ap (λ ls. memory_after ls (value line.cell z)) (take_all (length earlier) (map (line_value z) earlier) (omega (arith, long)))

pub scan_sound : ScanIsSound
unfolding scan_of put
scan_sound z next earlier line assigns meets =
    let looks = turns (length earlier) (turn_of earlier line) [] in
    let both = parts z looks (λ word. put word (constant 1) line.old) next meets in
    sym both.1.0 ∙ value-once z (looks next).answer assigns ∙ looks_sound z earlier line assigns next (length earlier) (omega arith) both.0
    ∙ all_taken z earlier line assigns

pub scan_complete : ScanIsComplete
unfolding scan_of put
scan_complete z next earlier line assigns is has =
    let looks = turns (length earlier) (turn_of earlier line) [] in
    let each = has_each_list z next (length (map (line_value z) earlier)) 3 (look_values (map (line_value z) earlier) (line_value z line))
    (λ i h. look_many (map (line_value z) earlier) (line_value z line) i) has in
    let n = long z earlier line assigns in
    let done = looks_complete z earlier line assigns next (length earlier) (omega arith) (λ i h. each i (omega arith)) in
    whole z looks (λ word. put word (constant 1) line.old) next done.0
    (value-once z (looks next).answer assigns ∙ done.1 ∙ all_taken z earlier line assigns ∙ sym is, tt)

-- ---- sizes
look_small : (earlier : List Line) (line : Line) → ((i : ℕ) → i < length earlier → (get_or earlier i zero_line).new < P) → (i : ℕ) → i < length earlier
    → InField (look_values earlier line i)
look_small earlier line small i h =
    InField-append (zero_values (cell_gap earlier line i)) (word_after earlier line (i + 1) ∷ []) (zero_in_field (cell_gap earlier line i))
    (InField-cons (word_after earlier line (i + 1)) [] (word_small earlier line small (i + 1) (omega arith)) InField-none)

pub scan_fill : ScanSizes
scan_fill = record {
  end = scan_next;
  fills = λ earlier line numbers m many next.
      scan_next earlier line next ∙ ap (λ n. next + n)
      (ap (λ n. n * 3) (sym many) ∙ sym (length-joined_below (length numbers) 3 (look_values numbers m) (λ i h. look_many numbers m i)));
  in_field = λ numbers m small. InField-joined_below (look_values numbers m) (length numbers) (look_small numbers m small);
}
