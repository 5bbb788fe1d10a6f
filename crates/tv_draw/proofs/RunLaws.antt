-- A drawn program is of words, and answers 0 at its last instruction.
use Rattle.tv_core.proofs.Common.{◌≡◌, ℕ, zero, suc, ◌+◌, ◌-◌, ◌*◌, ◌/◌, ◌%◌, ◌^◌, ◌<◌, ◌≤◌, ◌==◌, inl, inr, Bool, true, false, cond, nat_lt, List, [], ◌∷◌}
use Rattle.tv_core.proofs.Common.{length, refl, sym, ap, ap₂, ◌∙◌, subst, arith, slice_index, cases_eq, cond_both, eq-eqb, range_with_len, length-each_below}
use Rattle.tv_core.proofs.Common.{each_below, joined_below, IsWidth}
use Rattle.std.proofs.Common.{length-append}
use Rattle.std.specs.Prelude.{◌||◌}
use Rattle.std.proofs.Math.Nat.{mod-lt}
use Rattle.std.proofs.lemmas.Bool.{agree_below_at, ltb-true}
use Rattle.std.proofs.lemmas.List.{get_or_append_left, get_or-append_right}
use Rattle.std.proofs.lemmas.List.Elements.{All-nil, All-cons, All-append, All-map}
use Rattle.std.proofs.lemmas.Nat.{xor_lt}
use Rattle.tv_core.proofs.JoinedLaws.{joined_below-zero, joined_below-suc, length-joined_below}
use Rattle.tv_draw.proofs.DrawLaws.{state_then, words_then}
use Rattle.tv_draw.specs.Program.{op_in, imm_in, whole_a, dest_if, source_if, instr_in}
use Rattle.tv_draw.specs.Program.{last_instr, generator_state, word_at, words_drawn, image_drawn, tape_drawn}
use Rattle.tv_draw.specs.Program.{aux_drawn, IsDrawn}
use Rattle.tv_draw.specs.Program as drawing
use Rattle.tv_isa.specs.Instruction.{field, decode, encode}
use Rattle.tv_isa.specs.Table.{shape_of}
use Rattle.tv_isa.specs.declared.operation.Shape.{Shape}
use Rattle.tv_isa.specs.declared.operation.Shape.TheVariants.{DestSourceA, DestA, SourceA, ADest}
use Rattle.tv_mem.proofs.WordLaws.{others_after_byte, others_after_word}
use Rattle.tv_mem.specs.Bytes.{word_in}
use Rattle.tv_step.proofs.ImageLaws.{word_of_image}
use Rattle.tv_step.proofs.RunLaws.{Ran, either, ran_none, ran_on, end_stopped}
use Rattle.tv_step.specs.Cells.{is_store}
use Rattle.tv_step.specs.Machine.{next, fetched, executed, operand, reg, start}
use Rattle.tv_step.specs.Ops.{op_of}
use Rattle.tv_step.specs.Range.{AreWords}
use Rattle.tv_step.specs.Rows.{row, following, takes, moves, goes_on}
use Rattle.tv_step.specs.State.{State, Next}
use Rattle.tv_step.specs.declared.op.Op.{Op}
use Rattle.tv_step.specs.declared.op.Op.TheVariants as ops

width : IsWidth 32
width = inr refl

-- ---- steps to the next instruction in memory
-- the opcodes of no jump and no answer that are used
abbrev stays : Op → Bool
stays ops.Jmp = false
stays ops.Cjmp = false
stays ops.Cnjmp = false
stays ops.Answer = false
stays (ops.Unused op) = false
stays _ = true

-- the next instruction in memory comes, and the first 2^16 bytes are as they were
abbrev Follows : State → Next → Type 0
Follows st (Next.Gone after) = (after.pc ≡ following 32 st) × ((j : ℕ) → j < 16384 → word_in 32 after.memory j ≡ word_in 32 st.memory j)
Follows st (Next.Answered v) = ⊥
Follows st (Next.Undefined op) = ⊥

taken : (st : State) (i : ℕ) (tape : List ℕ) (rest : List ℕ → State) → ((left : List ℕ) → (rest left).pc ≡ st.pc)
    → ((left : List ℕ) → (rest left).memory ≡ st.memory) → Follows st (takes 32 st i tape rest)
taken st i [] rest pc memory = (refl, λ j h. refl)
taken st i (v ∷ left) rest pc memory = (ap (λ n. (n + 8) % 2 ^ 32) (pc left), λ j h. ap (λ m. word_in 32 m j) (memory left))

row_follows : (op : Op) (st : State) (i d s a : ℕ) → stays op ≡ true → (is_store op ≡ true → 65536 ≤ a)
    → Follows st (row 32 op st (record { dest = i; held = d; source = s; operand = a }))
row_follows ops.Jmp st i d s a e far = cc
row_follows ops.Cjmp st i d s a e far = cc
row_follows ops.Cnjmp st i d s a e far = cc
row_follows ops.Answer st i d s a e far = cc
row_follows (ops.Unused op) st i d s a e far = cc
row_follows ops.Cmov st i d s a e far = either (Follows st) st.flag (moves 32 st i a) (goes_on 32 st) (refl, λ j h. refl) (refl, λ j h. refl)
row_follows ops.StoreB st i d s a e far = (
  refl,
  λ j h. others_after_byte 32 width st.memory a (d % 256) j (λ same. let most = far refl in omega (arith, most, h, same)),
)
row_follows ops.StoreW st i d s a e far = (
  refl,
  λ j h. others_after_word 32 width st.memory (a / 4) d j (λ same. let most = far refl in omega (arith, most, h, same)),
)
row_follows ops.Read st i d s a e far =
    let primary = takes 32 st i st.primary (λ left. record st { primary = left }) in
    let aux = takes 32 st i st.aux (λ left. record st { aux = left }) in
    let none = takes 32 st i [] (λ _. st) in
    either (Follows st) (a == 0) primary (cond (a == 1) aux none)
    (taken st i st.primary (λ left. record st { primary = left }) (λ left. refl) (λ left. refl))
    (either (Follows st) (a == 1) aux none (taken st i st.aux (λ left. record st { aux = left }) (λ left. refl) (λ left. refl)) (refl, λ j h. refl))
row_follows _ st i d s a e far = (refl, λ j h. refl)

-- ---- a drawn instruction
abbrev shifted : ℕ → ℕ
shifted i = cond (nat_lt i 20) i (i + 6)

drawn_stays : (g : ℕ) → stays (op_of (op_in g)) ≡ true
drawn_stays g = agree_below_at (λ i. stays (op_of (shifted i))) (λ _. true) 25 (g % 25) refl (omega arith)

drawn_small : (g : ℕ) → op_in g < 32
drawn_small g = ltb-true (op_in g) 32 (agree_below_at (λ i. nat_lt (shifted i) 32) (λ _. true) 25 (g % 25) refl (omega arith))

store_test : (op : ℕ) → op < 32 → is_store (op_of op) ≡ drawing.is_store op
store_test op h = agree_below_at (λ k. is_store (op_of k)) drawing.is_store 32 op refl h

dest_small : (shape : Shape) (dest : ℕ) → dest < 16 → dest_if shape dest < 16
dest_small DestSourceA dest h = h
dest_small DestA dest h = h
dest_small ADest dest h = h
dest_small _ dest h = omega arith

source_small : (shape : Shape) (source : ℕ) → source < 16 → source_if shape source < 16
source_small DestSourceA source h = h
source_small SourceA source h = h
source_small _ source h = omega arith

-- the first word of an instruction: a word, which has the opcode and whether the operand is immediate
abbrev head_of : ℕ → Bool → ℕ → ℕ → ℕ
head_of op imm dest source = op * 2 ^ 27 + cond imm (2 ^ 26) 0 + dest * 2 ^ 22 + source * 2 ^ 18

record HeadFields (op : ℕ) (imm : Bool) (head : ℕ) : Type 0 where
  small : head < 2 ^ 32
  op_is : field 27 5 head ≡ op
  imm_is : (field 26 1 head == 1) ≡ imm

head_fields : (op : ℕ) (imm : Bool) (dest source : ℕ) → op < 32 → dest < 16 → source < 16 → HeadFields op imm (head_of op imm dest source)
head_fields op true dest source h k l = record { small = omega arith; op_is = omega arith; imm_is = eq-eqb _ 1 (omega arith) }
head_fields op false dest source h k l = let none : field 26 1 (head_of op false dest source) ≡ 0 = omega arith in
    record { small = omega arith; op_is = omega arith; imm_is = ap (λ n. n == 1) none }

abbrev drawn_head : ℕ → ℕ
drawn_head g = head_of (op_in g) (imm_in g) (dest_if (shape_of (op_in g)) (g / 2 ^ 9 % 16)) (source_if (shape_of (op_in g)) (g / 2 ^ 13 % 16))

drawn_fields : (g : ℕ) → HeadFields (op_in g) (imm_in g) (drawn_head g)
drawn_fields g = head_fields (op_in g) (imm_in g) _ _ (drawn_small g) (dest_small (shape_of (op_in g)) _ (omega arith))
    (source_small (shape_of (op_in g)) _ (omega arith))

-- a store has an address after the first 2^16 bytes
stores_far : (g : ℕ) → drawing.is_store (op_in g) ≡ true → (imm_in g ≡ true) × (65536 ≤ (instr_in g).a)
stores_far g store =
    let imm : imm_in g ≡ true = ap (λ b. b || (op_in g == 30 || g / 2 ^ 8 % 2 == 1)) store in
    let whole : whole_a g ≡ 65536 + g / 2 ^ 32 % 65536 = ap
    (λ b. cond b (65536 + g / 2 ^ 32 % 65536) (cond (op_in g == 30) (g / 2 ^ 32 % 3) (g / 2 ^ 32))) store in
    let is : (instr_in g).a ≡ whole_a g = ap (λ b. cond b (whole_a g) (whole_a g % 16)) imm in
    (imm, omega (arith, is, whole))

-- the step at a drawn instruction
drawn_follows : (g : ℕ) (st : State) → word_in 32 st.memory (st.pc / 4) ≡ drawn_head g → word_in 32 st.memory (st.pc / 4 + 1) ≡ (instr_in g).a
    → Follows st (next 32 st)
drawn_follows g st head tail =
    let i = fetched 32 st in
    let fields = drawn_fields g in
    let op_is : i.op ≡ op_in g = ap (field 27 5) head ∙ fields.op_is in
    row_follows (op_of i.op) st i.dest (reg st i.dest) (reg st i.source) (operand st i) (ap (λ op. stays (op_of op)) op_is ∙ drawn_stays g)
    (λ store.
    let far = stores_far g (sym (store_test (op_in g) (drawn_small g)) ∙ ap (λ op. is_store (op_of op)) (sym op_is) ∙ store) in
    let imm : i.imm ≡ true = ap (λ n. field 26 1 n == 1) head ∙ fields.imm_is ∙ far.0 in
    let whole : operand st i ≡ (instr_in g).a = ap (λ b. cond b i.a (reg st (i.a % 16))) imm ∙ tail in
    omega (arith, whole, far.1))

-- ---- the words of a program
abbrev pair_at : ℕ → ℕ → List ℕ
pair_at seed i = encode 32 (instr_in (word_at seed i))

module _ (seed : ℕ) where
  pairs_many : (n : ℕ) → length (joined_below n (pair_at seed)) ≡ n * 2
  pairs_many n = length-joined_below n 2 (pair_at seed) (λ i h. refl)

  pair_is : (n i j : ℕ) → i < n → j < 2 → slice_index (joined_below n (pair_at seed)) (i * 2 + j) ≡ slice_index (pair_at seed i) j
  pair_is zero i j h k = absurd (omega arith)
  pair_is (suc n) i j h k =
      ap (λ l. slice_index l (i * 2 + j)) (joined_below-suc n (pair_at seed)) ∙ elim (cases_eq i n) [
        | inl same ↦
            let place : i * 2 + j - n * 2 ≡ j = omega (arith, same) in
            get_or-append_right (joined_below n (pair_at seed)) (pair_at seed n) (n * 2) (i * 2 + j) 0 (pairs_many n) (omega (arith, same))
            ∙ ap₂ (λ m p. slice_index (pair_at seed m) p) (sym same) place
        | inr apart ↦
            let before : i < n = grind (arith, h, apart) in
            get_or_append_left (joined_below n (pair_at seed)) (pair_at seed n) 0 (i * 2 + j) (omega (arith, pairs_many n, before, k))
            ∙ pair_is n i j before k
      ]

  word_small : (i : ℕ) → word_at seed i < 2 ^ 64
  word_small i = xor_lt 64 _ _ (mod-lt _ (omega arith)) (folded _ (mod-lt _ (omega arith)))
    where
      folded : (z : ℕ) → z < 2 ^ 64 → z / 2 ^ 31 < 2 ^ 64
      folded z small = omega (arith, small)

  whole_small : (g : ℕ) → g < 2 ^ 64 → whole_a g < 2 ^ 32
  whole_small g h =
      cond_both (drawing.is_store (op_in g)) (65536 + g / 2 ^ 32 % 65536) (cond (op_in g == 30) (g / 2 ^ 32 % 3) (g / 2 ^ 32)) (λ a. a < 2 ^ 32)
      (λ e. omega arith)
      (λ e. cond_both (op_in g == 30) (g / 2 ^ 32 % 3) (g / 2 ^ 32) (λ a. a < 2 ^ 32) (λ e. omega arith) (λ e. omega (arith, h)))

  operand_small : (g : ℕ) → g < 2 ^ 64 → (instr_in g).a < 2 ^ 32
  operand_small g h = cond_both (imm_in g) (whole_a g) (whole_a g % 16) (λ a. a < 2 ^ 32) (λ e. whole_small g h) (λ e. omega arith)

  pair_words : (head a : ℕ) → head < 2 ^ 32 → a < 2 ^ 32 → AreWords 32 (head ∷ a ∷ [])
  pair_words head a h k = All-cons (λ v. v < 2 ^ 32) head (a ∷ []) h (All-cons (λ v. v < 2 ^ 32) a [] k (All-nil (λ v. v < 2 ^ 32)))

  pairs_words : (n : ℕ) → AreWords 32 (joined_below n (pair_at seed))
  pairs_words zero = subst (AreWords 32) (sym (joined_below-zero (pair_at seed))) (All-nil (λ v. v < 2 ^ 32))
  pairs_words (suc n) =
      let g = word_at seed n in
      subst (AreWords 32) (sym (joined_below-suc n (pair_at seed)))
      (All-append (λ v. v < 2 ^ 32) (joined_below n (pair_at seed)) (pair_at seed n) (pairs_words n)
      (pair_words (drawn_head g) (instr_in g).a (drawn_fields g).small (operand_small g (word_small n))))

  words_small : (i n : ℕ) → AreWords 32 (words_drawn seed i n)
  unfolding each_below
  words_small i n = All-map (λ v. v < 2 ^ 32) (λ j. word_at seed (i + j) % 2 ^ 32) (range_with_len 0 n) (λ j d h. mod-lt _ (omega arith))

  module _ (k : ℕ) where
    image_words : AreWords 32 (image_drawn seed k)
    image_words = All-append (λ v. v < 2 ^ 32) (joined_below k (pair_at seed)) (encode 32 last_instr) (pairs_words k)
        (pair_words _ 0 (omega arith) (omega arith))

    drawn_word : (i j : ℕ) → i < k → j < 2 → slice_index (image_drawn seed k) (i * 2 + j) ≡ slice_index (pair_at seed i) j
    drawn_word i j h l = get_or_append_left (joined_below k (pair_at seed)) (encode 32 last_instr) 0 (i * 2 + j) (omega (arith, pairs_many k, h, l))
        ∙ pair_is k i j h l

    last_word : (j : ℕ) → slice_index (image_drawn seed k) (k * 2 + j) ≡ slice_index (encode 32 last_instr) j
    last_word j =
        let place : k * 2 + j - k * 2 ≡ j = omega arith in
        get_or-append_right (joined_below k (pair_at seed)) (encode 32 last_instr) (k * 2) (k * 2 + j) 0 (pairs_many k) (omega arith)
        ∙ ap (slice_index (encode 32 last_instr)) place

    -- ---- its run
    abbrev first : State
    first = start 32 (image_drawn seed k) (tape_drawn seed k) (aux_drawn seed k)

    -- i steps went on to instruction i, and the program is as it was
    record At (i : ℕ) : Type 0 where
      st : State
      ran : Ran 32 i first st
      pc : st.pc ≡ i * 8
      words : (j : ℕ) → j < 16384 → word_in 32 st.memory j ≡ slice_index (image_drawn seed k) j

    went : (i : ℕ) (at : At i) (came : Next) → i < 8192 → next 32 at.st ≡ came → Follows at.st came → At (i + 1)
    went i at (Next.Gone after) few e follows = record {
      st = after;
      ran = ran_on 32 i first at.st at.ran after e;
      pc = let pc = at.pc in follows.0 ∙ omega (arith, pc, few);
      words = λ j h. follows.1 j h ∙ at.words j h;
    }
    went i at (Next.Answered v) few e follows = absurd follows
    went i at (Next.Undefined op) few e follows = absurd follows

    -- the words of the instruction there
    word_there : (i j : ℕ) (at : At i) → i < 8192 → j < 2 → word_in 32 at.st.memory (at.st.pc / 4 + j) ≡ slice_index (image_drawn seed k) (i * 2 + j)
    word_there i j at few h =
        let pc = at.pc in
        let place : at.st.pc / 4 + j ≡ i * 2 + j = omega (arith, pc) in
        ap (word_in 32 at.st.memory) place ∙ at.words (i * 2 + j) (omega (arith, few, h))

    head_there : (i : ℕ) (at : At i) → i < 8192 → word_in 32 at.st.memory (at.st.pc / 4) ≡ slice_index (image_drawn seed k) (i * 2 + 0)
    head_there i at few = let same : at.st.pc / 4 ≡ at.st.pc / 4 + 0 = omega arith in ap (word_in 32 at.st.memory) same ∙ word_there i 0 at few (omega arith)

    module _ (few : k ≤ 8191) where
      at_each : (i : ℕ) → i ≤ k → At i
      at_each zero h = record { st = first; ran = ran_none 32 first; pc = refl; words = λ j h. word_of_image 32 width (image_drawn seed k) j image_words }
      at_each (suc i) h =
          let at = at_each i (omega arith) in
          let within : i < k = omega arith in
          let small : i < 8192 = omega (arith, within, few) in
          let more : i + 1 ≡ suc i = omega arith in
          subst At more (went i at (next 32 at.st) small refl
          (drawn_follows (word_at seed i) at.st (head_there i at small ∙ drawn_word i 0 within (omega arith))
          (word_there i 1 at small (omega arith) ∙ drawn_word i 1 within (omega arith))))

      -- the last instruction answers 0
      pub drawn_is : IsDrawn k (image_drawn seed k) (tape_drawn seed k) (aux_drawn seed k)
      drawn_is =
          let at = at_each k (omega arith) in
          let small : k < 8192 = omega (arith, few) in
          let head = head_there k at small ∙ last_word 0 in
          let tail = word_there k 1 at small (omega arith) ∙ last_word 1 in
          let stops : next 32 at.st ≡ Next.Answered 0 = ap₂ (λ h a. executed 32 at.st (decode 32 h a)) head tail in
          record {
            image_words = image_words;
            image_count = length-append (joined_below k (pair_at seed)) (encode 32 last_instr) ∙ ap (λ n. n + 2) (pairs_many k);
            tape_words = words_small k 2;
            tape_count = length-each_below 2 (λ j. word_at seed (k + j) % 2 ^ 32);
            aux_words = words_small (k + 2) 8;
            aux_count = length-each_below 8 (λ j. word_at seed (k + 2 + j) % 2 ^ 32);
            answers = end_stopped 32 k first at.st at.ran (k + 1) (omega arith) (Next.Answered 0) stops;
          }

-- what is drawn from a seed, one after another, is such a program
pub drawn_from : (seed rng mid k : ℕ) (image tape aux : List ℕ) → k ≤ 8191 → rng ≡ generator_state seed k → mid ≡ generator_state rng 2
    → image ≡ image_drawn seed k
    → tape ≡ words_drawn rng 0 2 → aux ≡ words_drawn mid 0 8 → IsDrawn k image tape aux
drawn_from seed rng mid k image tape aux few is_rng is_mid is_image is_tape is_aux =
    let none : k + 0 ≡ k = omega arith in
    let more : k + 2 + 0 ≡ k + 2 = omega arith in
    let tape_is : tape ≡ tape_drawn seed k = is_tape ∙ ap (λ s. words_drawn s 0 2) is_rng ∙ words_then seed k 0 2 ∙ ap (λ i. words_drawn seed i 2) none in
    let mid_is : mid ≡ generator_state seed (k + 2) = is_mid ∙ ap (λ s. generator_state s 2) is_rng ∙ state_then seed k 2 in
    let aux_is : aux ≡ aux_drawn seed k = is_aux ∙ ap (λ s. words_drawn s 0 8) mid_is ∙ words_then seed (k + 2) 0 8 ∙ ap (λ i. words_drawn seed i 8) more in
    rw (is_image, tape_is, aux_is) (drawn_is seed k few)
