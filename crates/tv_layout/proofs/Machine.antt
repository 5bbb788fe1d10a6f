-- What a step in numbers says of the state of the machine that its numbers are of.
use Rattle.tv_core.proofs.Common.{◌≡◌, ℕ, Bool, true, false, List, [], ◌∷◌, ◌++◌, refl, sym, ap, ◌∙◌, subst, Line}
use Rattle.std.proofs.Common.{fold}
use Rattle.tv_core.specs.Lines.{written, HonestFrom}
use Rattle.tv_mem.specs.Words.{AreBytes}
use Rattle.tv_numbers.specs.Laws.{HoldsOlds, AuxFits, DoesStep}
use Rattle.tv_numbers.specs.Numbers.{Transition, lines_in}
use Rattle.tv_numbers.specs.Views.{Matches}
use Rattle.tv_step.specs.Cells.{cells_of}
use Rattle.tv_step.specs.Machine.{next, left_in, state_after}
use Rattle.tv_step.specs.State.{State, Next}
use Rattle.tv_step.proofs.HonestLaws.{written_same}

-- ---- lines
pub HonestFrom-right : (m : ℕ → ℕ) (xs ys : List Line) → HonestFrom m (xs ++ ys) → HonestFrom (fold written m xs) ys
HonestFrom-right m [] ys h = h
HonestFrom-right m (x ∷ xs) ys h = HonestFrom-right (written m x) xs ys h.1

-- ---- one step
module _ (w : ℕ) (x : List ℕ) (time : ℕ) (b : Transition) (st : State) (does : DoesStep w x time b) where
  -- honest lines, of a memory that holds what the state's cells hold, have their olds in these cells
  pub holds : (m : ℕ → ℕ) → ((c : ℕ) → m c ≡ cells_of w x st c) → (later : List Line) → HonestFrom m (lines_in b ++ later) → HoldsOlds w x b st
  holds m cells later h =
      let e1 = written_same m b.first (does.fetches.0 ∙ h.0) in
      let e2 = written_same (written m b.first) b.second (does.fetches.1 ∙ h.1.0) in
      record {
        first = h.0 ∙ cells b.first.cell;
        second = h.1.0 ∙ (e1 b.second.cell ∙ cells b.second.cell);
        data_line = h.1.1.0 ∙ (e2 b.data_line.cell ∙ (e1 b.data_line.cell ∙ cells b.data_line.cell));
      }

  -- where the step leads: the numbers after it are of the state after it; and it answers where the machine does
  pub record Led (rest : List ℕ) : Type 0 where
    pub matches : Matches x b.after (state_after w 1 st)
    pub aux : (state_after w 1 st).aux ≡ rest
    pub says : b.answers ≡ true → next w st ≡ Next.Answered b.value
    pub answers : (v : ℕ) → next w st ≡ Next.Answered v → (b.answers ≡ true) × (b.value ≡ v)

  module _ (bytes : AreBytes st.memory) (now : Matches x b.now st) (olds : HoldsOlds w x b st) where
    led_by : (rest : List ℕ) → AuxFits w st b.takes b.word rest → (answers : Bool) → b.answers ≡ answers → Led rest
    led_by rest fits true t =
        let s = does.stands st bytes now olds t in
        let same : state_after w 1 st ≡ st = ap (left_in (λ a. a) st) s.is in
        record {
          matches = subst (λ u. Matches x b.after u) (sym same) (subst (λ v. Matches x v st) (sym s.same) now);
          aux = ap (λ (u : State). u.aux) same ∙ fits.left s.takes;
          says = λ e. s.is;
          answers = λ v e. let both : Next.Answered b.value ≡ Next.Answered v = sym s.is ∙ e in (t, cc);
        }
    led_by rest fits false t =
        let g = does.goes st rest bytes now olds fits t in
        let same : state_after w 1 st ≡ g.state = ap (left_in (λ a. a) st) g.is in
        record {
          matches = subst (λ u. Matches x b.after u) (sym same) g.matches;
          aux = ap (λ (u : State). u.aux) same ∙ g.aux;
          says = λ e. absurd cc;
          answers = λ v e. let both : Next.Gone g.state ≡ Next.Answered v = sym g.is ∙ e in absurd cc;
        }

    pub led : (rest : List ℕ) → AuxFits w st b.takes b.word rest → Led rest
    led rest fits = led_by rest fits b.answers refl
