-- What earlier lines leave in a cell, one line after another.
use Rattle.tv_core.proofs.Common.{◌≡◌, ℕ, zero, suc, ◌+◌, ◌-◌, ◌%◌, ◌<◌, ◌≤◌, ◌==◌, if◌then◌else◌, List, [], ◌∷◌, length, take, get_or, inl, inr, sym, ◌∙◌, ap}
use Rattle.tv_core.proofs.Common.{arith, cases_eq, eq-eqb, ne_eqb, cond_both, Line}
use Rattle.std.proofs.lemmas.List.{take_more}
use Rattle.std.proofs.lemmas.List.Sums.{fold-append}
use Rattle.tv_bits.proofs.ZeroLaws.{zero_flag-zero, zero_flag-other}
use Rattle.tv_bits.specs.Bit.{IsBit}
use Rattle.tv_bits.specs.Select.{selected}
use Rattle.tv_bits.specs.Zero.{zero_flag}
use Rattle.tv_core.proofs.DifferenceLaws.{same_of_minus}
use Rattle.tv_core.specs.Lines.{written, memory_after}
use Rattle.tv_core.specs.declared.field.TheConstants.{P}
use Rattle.tv_lines.specs.Placed.{zero_line}
use Rattle.tv_scan.specs.Scan.{word_after}

pub word_after-suc : (earlier : List Line) (line : Line) (i : ℕ) → i < length earlier
    → word_after earlier line (i + 1) ≡ (if (get_or earlier i zero_line).cell == line.cell then (get_or earlier i zero_line).new else word_after earlier line i)
word_after-suc earlier line i h =
    ap (λ ls. memory_after ls line.cell) (take_more earlier i zero_line h)
    ∙ ap (λ (m : ℕ → ℕ). m line.cell) (fold-append written (λ _. 0) (take i earlier) (get_or earlier i zero_line ∷ []))

-- the choice by the flag, as numbers: c and d are the cells
pub choice : (c d new word : ℕ) → c < P → d < P → selected (zero_flag ((d + (P - c)) % P)) new word ≡ (if c == d then new else word)
choice c d new word small_c small_d = elim (cases_eq c d) [
  | inl same ↦
      let flag = zero_flag-zero ((d + (P - c)) % P) (omega arith) in
      ap (λ f. selected f new word) flag ∙ ap (λ b. if b then new else word) (sym (eq-eqb c d same))
  | inr apart ↦
      let flag = zero_flag-other ((d + (P - c)) % P) (λ none. apart (sym (same_of_minus d c small_d small_c none))) in
      ap (λ f. selected f new word) flag ∙ ap (λ b. if b then new else word) (sym (ne_eqb c d apart))
]

pub flag_bit : (x : ℕ) → IsBit (zero_flag x)
flag_bit x = elim (cases_eq x 0) [ inl none ↦ omega (arith, zero_flag-zero x none) | inr some ↦ omega (arith, zero_flag-other x some) ]

-- a word that was left is below P where the new words are
pub word_small : (earlier : List Line) (line : Line) → ((i : ℕ) → i < length earlier → (get_or earlier i zero_line).new < P) → (n : ℕ) → n ≤ length earlier
    → word_after earlier line n < P
word_small earlier line small zero h = omega arith
word_small earlier line small (suc n) h =
    let same : n + 1 ≡ suc n = omega arith in
    let at : ℕ = (get_or earlier n zero_line).new in
    let rest : word_after earlier line n < P = word_small earlier line small n (omega arith) in
    let here : at < P = small n (omega arith) in
    let e = word_after-suc earlier line n (omega arith) in
    omega (
      arith,
      ap (λ k. word_after earlier line k) same,
      e,
      cond_both ((get_or earlier n zero_line).cell == line.cell) at (word_after earlier line n) (λ v. v < P) (λ e. here) (λ e. rest),
    )
