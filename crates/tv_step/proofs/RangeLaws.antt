-- A step keeps a state in range.
use Rattle.tv_core.proofs.Common.{◌≡◌, ℕ, zero, suc, ◌+◌, ◌-◌, ◌*◌, ◌/◌, ◌%◌, ◌^◌, ◌<◌, ◌≤◌, ◌⊎◌, inl, inr, ◌==◌, Bool, true, false, cond, nat_lt, List, []}
use Rattle.tv_core.proofs.Common.{◌∷◌, length, refl, ap, subst, ◌∙◌, arith, rules, slice_index, cond_both, cases_lt, for_widths, IsWidth}
use Rattle.std.specs.Prelude.{ℤ, pos, negsuc, ◌*ℤ◌}
use Rattle.std.specs.Int.Bits.{and_lt}
use Rattle.std.proofs.Math.Nat.{div-le_self, mod-lt, mod-le}
use Rattle.std.proofs.lemmas.Nat.{or_lt, xor_lt}
use Rattle.std.proofs.lemmas.List.{get_or_past, length-set}
use Rattle.std.proofs.lemmas.List.Elements.{All-set, All-tail, All-head, All-replicate}
use Rattle.tv_mem.proofs.WordLaws.{words_are_small, bytes_after_byte, bytes_after_word}
use Rattle.tv_mem.specs.Bytes.{Bytes}
use Rattle.tv_mem.specs.Words.{AreBytes}
use Rattle.tv_word.specs.Twos.{twos}
use Rattle.tv_word.specs.Word.{signed}
use Rattle.tv_word.proofs.ArithmeticLaws.{high_small}
use Rattle.tv_step.proofs.RunLaws.{either, state_next}
use Rattle.tv_step.specs.Machine.{next, fetched, operand, reg, left_in, state_after}
use Rattle.tv_step.specs.Ops.{op_of}
use Rattle.tv_step.specs.Range.{AreWords, StateInRange, StartInRange}
use Rattle.tv_step.specs.Rows.{row, gives, tests, moves, goes_on, jumps, stores, takes}
use Rattle.tv_step.specs.State.{State, Next}
use Rattle.tv_step.specs.declared.op.Op.{Op}
use Rattle.tv_step.specs.declared.op.Op.TheVariants.{And, Or, Xor, Not, Add, Sub, Mull, Umulh, Smulh, Udiv, Umod, Shl, Shr, Cmpe, Cmpa, Cmpae, Cmpg, Cmpge}
use Rattle.tv_step.specs.declared.op.Op.TheVariants.{Mov, Cmov, Jmp, Cjmp, Cnjmp, StoreB, LoadB, StoreW, LoadW, Read, Answer, Unused}

pub twos_small : (n : ℕ) (z : ℤ) → 0 < 2 ^ n → twos n z < 2 ^ n
twos_small n (pos k) some = mod-lt k some
twos_small n (negsuc k) some = omega arith

module _ (w : ℕ) (width : IsWidth w) where
  abbrev Word : ℕ → Type 0
  Word v = v < 2 ^ w

  abbrev NextIn : Next → Type 0
  NextIn (Next.Gone after) = StateInRange w after
  NextIn (Next.Answered v) = Word v
  NextIn (Next.Undefined op) = Unit {0}

  some_words : 0 < 2 ^ w
  some_words = for_widths (λ w. 0 < 2 ^ w) (omega arith) (omega arith) w width

  byte_is_word : (v : ℕ) → v < 256 → Word v
  byte_is_word v h = for_widths (λ w. v < 2 ^ w) (omega arith) (omega arith) w width

  next_aligned : (pc : ℕ) → pc % (w / 4) ≡ 0 → (pc + w / 4) % 2 ^ w % (w / 4) ≡ 0
  next_aligned pc h = for_widths (λ w. pc % (w / 4) ≡ 0 → (pc + w / 4) % 2 ^ w % (w / 4) ≡ 0) (λ h. omega arith) (λ h. omega arith) w width h

  jump_aligned : (a : ℕ) → (a - a % (w / 4)) % (w / 4) ≡ 0
  jump_aligned a = for_widths (λ w. (a - a % (w / 4)) % (w / 4) ≡ 0) (omega arith) (omega arith) w width

  pub signed_small : (s a : ℕ) → Word (twos (2 * w) (signed w s *ℤ signed w a) / 2 ^ w)
  signed_small s a = half (twos_small (2 * w) (signed w s *ℤ signed w a) (for_widths (λ w. 0 < 2 ^ (2 * w)) (omega arith) (omega arith) w width))
    where
      half : {v : ℕ} → v < 2 ^ (2 * w) → v / 2 ^ w < 2 ^ w
      half {v} h = for_widths (λ w. v < 2 ^ (2 * w) → v / 2 ^ w < 2 ^ w) (λ h. omega arith) (λ h. omega arith) w width h

  module _ (st : State) (h : StateInRange w st) where
    gives_in : (i v : ℕ) (f : Bool) → Word v → NextIn (gives w st i v f)
    gives_in i v f small = record {
      pc_fits = mod-lt (st.pc + w / 4) some_words;
      pc_aligned = next_aligned st.pc h.pc_aligned;
      registers = length-set st.regs i v ∙ h.registers;
      words = All-set Word st.regs i v small h.words;
      bytes = h.bytes;
      primary = h.primary;
      aux = h.aux;
    }

    tests_in : (f : Bool) → NextIn (tests w st f)
    tests_in f = let fits = mod-lt (st.pc + w / 4) some_words in let aligned = next_aligned st.pc h.pc_aligned in search rules

    jumps_in : (a : ℕ) → Word a → NextIn (jumps w st a)
    jumps_in a small = let aligned = jump_aligned a in search rules

    stores_in : (m : Bytes) → AreBytes m → NextIn (stores w st m)
    stores_in m bytes = let fits = mod-lt (st.pc + w / 4) some_words in let aligned = next_aligned st.pc h.pc_aligned in search rules

  takes_in : (st : State) (i : ℕ) (tape : List ℕ) (rest : List ℕ → State) → StateInRange w st → AreWords w tape
      → ((left : List ℕ) → AreWords w left → StateInRange w (rest left)) → NextIn (takes w st i tape rest)
  takes_in st i [] rest h words later = gives_in st h i 0 true some_words
  takes_in st i (v ∷ left) rest h words later = gives_in (rest left) (later left (All-tail Word v left words)) i v false (All-head Word v left words)

  row_in : (op : Op) (st : State) (i d s a : ℕ) → StateInRange w st → Word d → Word s → Word a
      → NextIn (row w op st (record { dest = i; held = d; source = s; operand = a }))
  row_in And st i d s a h hd hs ha = gives_in st h i _ _ (and_lt w s a hs ha)
  row_in Or st i d s a h hd hs ha = gives_in st h i _ _ (or_lt w s a hs ha)
  row_in Xor st i d s a h hd hs ha = gives_in st h i _ _ (xor_lt w s a hs ha)
  row_in Not st i d s a h hd hs ha = gives_in st h i _ _ (omega (arith, ha))
  row_in Add st i d s a h hd hs ha = gives_in st h i _ _ (mod-lt (s + a) some_words)
  row_in Sub st i d s a h hd hs ha = gives_in st h i _ _ (mod-lt (s + (2 ^ w - a)) some_words)
  row_in Mull st i d s a h hd hs ha = gives_in st h i _ _ (mod-lt (s * a) some_words)
  row_in Umulh st i d s a h hd hs ha = gives_in st h i _ _ (high_small w width s a hs ha)
  row_in Smulh st i d s a h hd hs ha = gives_in st h i _ _ (signed_small s a)
  row_in Udiv st i d s a h hd hs ha = gives_in st h i _ _
      (cond_both (a == 0) 0 (s / a) Word (λ e. some_words) (λ e. let most = div-le_self s a in omega (arith, most, hs)))
  row_in Umod st i d s a h hd hs ha = gives_in st h i _ _
      (cond_both (a == 0) 0 (s % a) Word (λ e. some_words) (λ e. let most = mod-le s a in omega (arith, most, hs)))
  row_in Shl st i d s a h hd hs ha = gives_in st h i _ _
      (cond_both (nat_lt a w) (s * 2 ^ a % 2 ^ w) 0 Word (λ e. mod-lt (s * 2 ^ a) some_words) (λ e. some_words))
  row_in Shr st i d s a h hd hs ha = gives_in st h i _ _
      (cond_both (nat_lt a w) (s / 2 ^ a) 0 Word (λ e. let most = div-le_self s (2 ^ a) in omega (arith, most, hs)) (λ e. some_words))
  row_in Cmpe st i d s a h hd hs ha = tests_in st h _
  row_in Cmpa st i d s a h hd hs ha = tests_in st h _
  row_in Cmpae st i d s a h hd hs ha = tests_in st h _
  row_in Cmpg st i d s a h hd hs ha = tests_in st h _
  row_in Cmpge st i d s a h hd hs ha = tests_in st h _
  row_in Mov st i d s a h hd hs ha = gives_in st h i _ _ ha
  row_in Cmov st i d s a h hd hs ha = either NextIn st.flag (moves w st i a) (goes_on w st) (gives_in st h i _ _ ha) (tests_in st h _)
  row_in Jmp st i d s a h hd hs ha = jumps_in st h a ha
  row_in Cjmp st i d s a h hd hs ha = either NextIn st.flag (jumps w st a) (goes_on w st) (jumps_in st h a ha) (tests_in st h _)
  row_in Cnjmp st i d s a h hd hs ha = either NextIn st.flag (goes_on w st) (jumps w st a) (tests_in st h _) (jumps_in st h a ha)
  row_in StoreB st i d s a h hd hs ha = stores_in st h _ (bytes_after_byte st.memory a (d % 256) h.bytes (omega arith))
  row_in LoadB st i d s a h hd hs ha = gives_in st h i _ _ (byte_is_word (st.memory a) (h.bytes a))
  row_in StoreW st i d s a h hd hs ha = stores_in st h _ (bytes_after_word w st.memory (a / (w / 8)) d h.bytes)
  row_in LoadW st i d s a h hd hs ha = gives_in st h i _ _ (words_are_small w width st.memory h.bytes (a / (w / 8)))
  row_in Read st i d s a h hd hs ha =
      let primary = takes w st i st.primary (λ left. record st { primary = left }) in
      let aux = takes w st i st.aux (λ left. record st { aux = left }) in
      let none = takes w st i [] (λ _. st) in
      either NextIn (a == 0) primary (cond (a == 1) aux none)
      (takes_in st i st.primary (λ left. record st { primary = left }) h h.primary (λ left words. search rules))
      (either NextIn (a == 1) aux none (takes_in st i st.aux (λ left. record st { aux = left }) h h.aux (λ left words. search rules))
      (gives_in st h i 0 true some_words))
  row_in Answer st i d s a h hd hs ha = ha
  row_in (Unused op) st i d s a h hd hs ha = tt

  -- the word at a place of a list of words, and past its end
  pub word_at : (words : List ℕ) (i : ℕ) → AreWords w words → Word (slice_index words i)
  word_at words i all = by_place (cases_lt i (length words))
    where
      by_place : ((i < length words) ⊎ (length words ≤ i)) → Word (slice_index words i)
      by_place (inl within) = all i 0 within
      by_place (inr past) = rw (get_or_past words i 0 past) some_words

  pub operand_is_word : (st : State) → StateInRange w st → Word (operand st (fetched w st))
  operand_is_word st h =
      let i = fetched w st in
      cond_both i.imm i.a (reg st (i.a % 16)) Word (λ e. words_are_small w width st.memory h.bytes (st.pc / (w / 8) + 1))
      (λ e. word_at st.regs (i.a % 16) h.words)

  next_in : (st : State) → StateInRange w st → NextIn (next w st)
  next_in st h =
      let i = fetched w st in
      row_in (op_of i.op) st i.dest (reg st i.dest) (reg st i.source) (operand st i) h (word_at st.regs i.dest h.words) (word_at st.regs i.source h.words)
      (operand_is_word st h)

  left_in_range : (st : State) (came : Next) → StateInRange w st → NextIn came → StateInRange w (left_in (λ after. after) st came)
  left_in_range st (Next.Gone after) h k = k
  left_in_range st (Next.Answered v) h k = h
  left_in_range st (Next.Undefined op) h k = h

  pub step_keeps_range : (st after : State) → StateInRange w st → next w st ≡ Next.Gone after → StateInRange w after
  step_keeps_range st after h e = subst NextIn e (next_in st h)

  pub answer_is_word : (st : State) (v : ℕ) → StateInRange w st → next w st ≡ Next.Answered v → Word v
  answer_is_word st v h e = subst NextIn e (next_in st h)

  pub run_keeps_range : (st : State) (t : ℕ) → StateInRange w st → StateInRange w (state_after w t st)
  run_keeps_range st zero h = h
  run_keeps_range st (suc t) h =
      let before = run_keeps_range st t h in
      let more : t + 1 ≡ suc t = omega arith in
      let last : state_after w 1 (state_after w t st) ≡ state_after w (suc t) st = state_next w t st ∙ ap (λ k. state_after w k st) more in
      subst (StateInRange w) last (left_in_range (state_after w t st) (next w (state_after w t st)) before (next_in (state_after w t st) before))

pub start_in_range : StartInRange
start_in_range w width image x aux x_words aux_words = record {
  pc_fits = some_words w width;
  pc_aligned = for_widths (λ w. 0 % (w / 4) ≡ 0) refl refl w width;
  registers = refl;
  words = All-replicate (λ v. v < 2 ^ w) 16 0 (some_words w width);
  bytes = λ at. omega arith;
  primary = x_words;
  aux = aux_words;
}
