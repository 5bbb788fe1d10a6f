-- What the turns of a scan emit and give, one after another.
use Rattle.tv_core.proofs.Common.{◌≡◌, ℕ, zero, suc, ◌+◌, ◌-◌, ◌%◌, ◌<◌, ◌==◌, if◌then◌else◌, List, [], ◌∷◌, ◌++◌, length, map, get_or, Result, refl, sym, ◌∙◌}
use Rattle.tv_core.proofs.Common.{ap, ap₂, subst, arith, put, turns, constant, wire, Combination, Line, EmitsAll}
use Rattle.tv_core.proofs.Common.{all_last, emits_in, emits_turn, some_first, then_in, turn_some}
use Rattle.tv_bits.specs.Zero.{zero_values}
use Rattle.tv_core.specs.Values.{ValuesMeaning, GivesSome}
use Rattle.tv_core.specs.Sinks.{Meaning, PutsSome, Emits}
use Rattle.tv_core.specs.declared.field.TheConstants.{P}
use Rattle.tv_core.specs.declared.lines.LineLc.{LineLc}
use Rattle.tv_core.specs.declared.lines.LineNum.{LineNum}
use Rattle.tv_core.specs.declared.sink.SinkFault.{SinkFault}
use Rattle.tv_lines.specs.PackedLines.{line_of_numbers}
use Rattle.tv_scan.proofs.Looks.{word_after-suc}
use Rattle.tv_lines.specs.Placed.{no_line, zero_line}
use Rattle.tv_scan.specs.Scan.{look_of, turn_of, scan_of, word_after, look_values}

module _ {S : Type 0} {m : Meaning S} (earlier : List LineLc) (line : LineLc) where
  pub last_put : (i : ℕ) {old mid : S} (new : S) {k l p q : ℕ} {word : Combination} (result : Result (Unit {0}) SinkFault) → i ≡ length earlier → k ≡ p
      → l + 1 ≡ q → EmitsAll m old mid (turns i (turn_of earlier line) []) k l word → Emits m mid new (put word (constant 1) line.old) 0 1 result
      → Emits m old new (scan_of earlier line) p q result
  unfolding scan_of
  last_put i new result all made added d e = emits_in _ _ _ _ _ (omega (arith, made)) added (then_in _ _ _ _ _ (rw all at d) e)

  module _ (i : ℕ) {old mid new : S} {k n : ℕ} {before : Combination} {l : LineLc} (there : get_or earlier i no_line ≡ l)
      (d : EmitsAll m old mid (turns i (turn_of earlier line) []) k n before) where
    pub one_turn : {after : Combination} {w : ℕ} → EmitsAll m mid new (look_of l line before) 3 3 w → after ≡ wire w
        → EmitsAll m old new (turns (i + 1) (turn_of earlier line) []) (k + 3) (n + 3) after
    unfolding turn_of
    one_turn e is = rw is (emits_turn _ _ i d (all_last _ (rw (← there) at e) refl))

    pub look_refused : {fault : SinkFault} → i < length earlier → PutsSome m mid new (look_of l line before) fault
        → PutsSome m old new (scan_of earlier line) fault
    unfolding turn_of scan_of
    look_refused h p = some_first _ (turn_some _ _ i d h (some_first _ (rw (← there) at p)))

-- what was passed of a list, the list being written in another way
pub given_as : {V : Type 0} (m : ValuesMeaning V) (xs ys : List ℕ) (old new : V) (fault : SinkFault) → xs ≡ ys → GivesSome m old new xs fault
    → GivesSome m old new ys fault
given_as m xs ys old new fault same p = subst (λ vs. GivesSome m old new vs fault) same p

-- ---- numbers
pub number_at : (ls : List LineNum) (i : ℕ) (d : LineNum) (e : Line) → i < length ls → get_or (map line_of_numbers ls) i e ≡ line_of_numbers (get_or ls i d)
number_at [] i d e h = absurd (omega arith)
number_at (l ∷ ls) zero d e h = refl
number_at (l ∷ ls) (suc i) d e h = number_at ls i d e (omega arith)

module _ (ls : List LineNum) (line item : LineNum) (i word : ℕ) (h : i < length (map line_of_numbers ls))
    (there : get_or (map line_of_numbers ls) i zero_line ≡ line_of_numbers item)
    (is : word ≡ word_after (map line_of_numbers ls) (line_of_numbers line) i) where
  pub next_word : (if item.cell == line.cell then item.new else word) ≡ word_after (map line_of_numbers ls) (line_of_numbers line) (i + 1)
  next_word =
      ap₂ (λ (l : Line) w. if l.cell == line.cell then l.new else w) (sym there) is
      ∙ sym (word_after-suc (map line_of_numbers ls) (line_of_numbers line) i h)

  pub values_of_turn : (x next : ℕ) → x ≡ (line.cell + (P - item.cell)) % P → next ≡ word_after (map line_of_numbers ls) (line_of_numbers line) (i + 1)
      → zero_values x ++ next ∷ [] ≡ look_values (map line_of_numbers ls) (line_of_numbers line) i
  values_of_turn x next apart e =
      ap₂ (λ v w. zero_values v ++ w ∷ []) (apart ∙ ap (λ (l : Line). (line.cell + (P - l.cell)) % P) (sym there)) e
