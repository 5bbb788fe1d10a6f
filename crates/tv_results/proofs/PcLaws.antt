-- The numbers of the next program counter.
use Rattle.tv_core.proofs.Common.{◌≡◌, ◌≢◌, ℕ, ◌+◌, ◌-◌, ◌*◌, ◌/◌, ◌%◌, ◌^◌, ◌<◌, ◌==◌, not, Bool, true, false, if◌then◌else◌, inl, inr, refl, sym, ◌∙◌, ap}
use Rattle.tv_core.proofs.Common.{arith, cases_eq, ne_eqb, for_widths, IsWidth, flag_of}
use Rattle.std.proofs.Common.{eq-eqb}
use Rattle.tv_bits.proofs.BitLaws.{bit_cases}
use Rattle.tv_bits.specs.Bit.{IsBit}
use Rattle.tv_core.specs.declared.field.TheConstants.{P}
use Rattle.tv_isa.specs.Opcodes.{among, chosen, unused_ops}
use Rattle.tv_numbers.proofs.Cases.{for_opcode}
use Rattle.tv_numbers.specs.Tables.{next_pc, target, pcs}

-- ---- the place after the instruction
-- how far the counter is from the last instruction's, and whether it wraps
abbrev pub distance : ℕ → ℕ → ℕ
distance w pc = (pc + (P - (2 ^ w - w / 4))) % P

abbrev pub wrap : ℕ → ℕ → ℕ → ℕ
wrap w pc goes = if distance w pc == 0 then goes else 0

-- the number of the combination
abbrev pub after_number : ℕ → ℕ → ℕ → ℕ → ℕ
after_number w pc answers wraps = (w / 4 + pc + (P - w / 4) * answers + (P - 2 ^ w) * wraps) % P

abbrev AfterIs : ℕ → Type 0
AfterIs w = (pc : ℕ) → pc < 2 ^ w → pc % (w / 4) ≡ 0 → (distance w pc ≡ 0 → (w / 4 + pc + (P - 2 ^ w)) % P ≡ next_pc w pc)
    × (distance w pc ≢ 0 → (w / 4 + pc) % P ≡ next_pc w pc)

after_is : (w : ℕ) → IsWidth w → AfterIs w
after_is w width = for_widths AfterIs
    (λ pc h k. ((λ e. omega arith), (λ e. let other : (pc + (P - (2 ^ 16 - 4))) % P ≡ 0 → ⊥ = e in omega arith)))
    (λ pc h k. ((λ e. omega arith), (λ e. let other : (pc + (P - (2 ^ 32 - 8))) % P ≡ 0 → ⊥ = e in omega arith))) w width

pub goes_after : (w : ℕ) → IsWidth w → (pc : ℕ) → pc < 2 ^ w → pc % (w / 4) ≡ 0 → after_number w pc 0 (wrap w pc 1) ≡ next_pc w pc
goes_after w width pc small aligned = elim (cases_eq (distance w pc) 0) [
  | inl none ↦ ap (λ b. after_number w pc 0 (if b then 1 else 0)) (eq-eqb (distance w pc) 0 none) ∙ once (w / 4 + pc) (P - w / 4) (P - 2 ^ w)
      ∙ (after_is w width pc small aligned).0 none
  | inr some ↦ ap (λ b. after_number w pc 0 (if b then 1 else 0)) (ne_eqb (distance w pc) 0 some) ∙ never (w / 4 + pc) (P - w / 4) (P - 2 ^ w)
      ∙ (after_is w width pc small aligned).1 some
]
  where
    once : (m j k : ℕ) → (m + j * 0 + k * 1) % P ≡ (m + k) % P
    once m j k = omega arith

    never : (m j k : ℕ) → (m + j * 0 + k * 0) % P ≡ m % P
    never m j k = omega arith

pub stays_there : (w : ℕ) → IsWidth w → (pc : ℕ) → pc < 2 ^ w → after_number w pc 1 (wrap w pc 0) ≡ pc
stays_there w width pc small = ap (λ n. after_number w pc 1 n) (same (distance w pc == 0)) ∙ stay w width pc small
  where
    same : (b : Bool) → (if b then flag_of false else flag_of false) ≡ flag_of false
    same true = refl
    same false = refl

    stay : (w : ℕ) → IsWidth w → (pc : ℕ) → pc < 2 ^ w → after_number w pc 1 0 ≡ pc
    stay w width = for_widths (λ w. (pc : ℕ) → pc < 2 ^ w → after_number w pc 1 0 ≡ pc) (λ pc h. omega arith) (λ pc h. omega arith) w width

-- ---- the jump
abbrev pub target_number : ℕ → ℕ → ℕ
target_number w a = w / 4 * (a / 2 ^ (w / 16 + 1)) % P

pub target_by : (w : ℕ) → IsWidth w → (a : ℕ) → a < 2 ^ w → target_number w a ≡ target w a
target_by w width = for_widths (λ w. (a : ℕ) → a < 2 ^ w → target_number w a ≡ target w a) (λ a h. omega arith) (λ a h. omega arith) w width

-- the combination's number is the target less the place after
pub jump_number : (w : ℕ) → IsWidth w → (pc answers wraps t : ℕ) → pc < 2 ^ w → answers < 2 → wraps < 2 → t < P
    → ((P - w / 4) + (P - 1) * pc + w / 4 * answers + (t + 2 ^ w * wraps) % P) % P ≡ (t + (P - after_number w pc answers wraps)) % P
jump_number w width = for_widths
    (λ w. (pc answers wraps t : ℕ) → pc < 2 ^ w → answers < 2 → wraps < 2 → t < P
    → ((P - w / 4) + (P - 1) * pc + w / 4 * answers + (t + 2 ^ w * wraps) % P) % P ≡ (t + (P - after_number w pc answers wraps)) % P)
    (λ pc answers wraps t h j k l. omega arith) (λ pc answers wraps t h j k l. omega arith) w width

-- a jump that is taken, and one that isn't
taken : (after t : ℕ) → after < P → t < P → (after + 1 * ((t + (P - after)) % P)) % P ≡ t
taken after t h k = omega arith

passed : (after t : ℕ) → after < P → (after + 0 * t) % P ≡ after
passed after t h = omega arith

-- ---- the counter by the opcode
-- the sum of the wires of the jumps that are taken
abbrev pub flag_jump : ℕ → ℕ → ℕ
flag_jump k f = f * ((flag_of (k == 21) + (P - flag_of (k == 22))) % P) % P

abbrev pub jump_gate : ℕ → ℕ → ℕ
jump_gate k f = (flag_of (k == 20) + flag_of (k == 22) + flag_jump k f) % P

abbrev pub wrap_of : ℕ → ℕ → ℕ → ℕ
wrap_of w pc k = wrap w pc (flag_of (not (k == 31)))

abbrev pub after_of : ℕ → ℕ → ℕ → ℕ
after_of w pc k = after_number w pc (flag_of (k == 31)) (wrap_of w pc k)

abbrev pub PcNumber : ℕ → ℕ → ℕ → ℕ → ℕ → Type 0
PcNumber w pc a f k = (after_of w pc k + jump_gate k f * ((target w a + (P - after_of w pc k)) % P)) % P ≡ chosen (pcs w pc a f) k

module _ (w : ℕ) (width : IsWidth w) (pc a f : ℕ) (small : pc < 2 ^ w) (aligned : pc % (w / 4) ≡ 0) (word : a < 2 ^ w) (bit : IsBit f) where
  next_place : after_number w pc 0 (wrap w pc 1) ≡ next_pc w pc
  next_place = goes_after w width pc small aligned

  after_small : (answers wraps : ℕ) → after_number w pc answers wraps < P
  after_small answers wraps = mod_small (w / 4 + pc + (P - w / 4) * answers + (P - 2 ^ w) * wraps)
    where
      mod_small : (n : ℕ) → n % P < P
      mod_small n = omega arith

  t_small : target w a < P
  t_small = for_widths (λ w. (a : ℕ) → a < 2 ^ w → target w a < P) (λ a h. omega arith) (λ a h. omega arith) w width a word

  straight : (after_number w pc 0 (wrap w pc 1) + 0 * ((target w a + (P - after_number w pc 0 (wrap w pc 1))) % P)) % P ≡ next_pc w pc
  straight = passed (after_number w pc 0 (wrap w pc 1)) _ (after_small 0 (wrap w pc 1)) ∙ next_place

  jumped : (after_number w pc 0 (wrap w pc 1) + 1 * ((target w a + (P - after_number w pc 0 (wrap w pc 1))) % P)) % P ≡ target w a
  jumped = taken (after_number w pc 0 (wrap w pc 1)) (target w a) (after_small 0 (wrap w pc 1)) t_small

  abbrev by_gate : (g : ℕ) → ℕ
  by_gate g = (after_number w pc 0 (wrap w pc 1) + g * ((target w a + (P - after_number w pc 0 (wrap w pc 1))) % P)) % P

  where_set : by_gate (jump_gate 21 f) ≡ (if f == 1 then target w a else next_pc w pc)
  where_set = elim (bit_cases f bit) [
    | inl none ↦ ap (λ n. by_gate (jump_gate 21 n)) none ∙ straight ∙ sym (ap (λ n. if n == 1 then target w a else next_pc w pc) none)
    | inr one ↦ ap (λ n. by_gate (jump_gate 21 n)) one ∙ jumped ∙ sym (ap (λ n. if n == 1 then target w a else next_pc w pc) one)
  ]

  where_clear : by_gate (jump_gate 22 f) ≡ (if f == 1 then next_pc w pc else target w a)
  where_clear = elim (bit_cases f bit) [
    | inl none ↦ ap (λ n. by_gate (jump_gate 22 n)) none ∙ jumped ∙ sym (ap (λ n. if n == 1 then next_pc w pc else target w a) none)
    | inr one ↦ ap (λ n. by_gate (jump_gate 22 n)) one ∙ straight ∙ sym (ap (λ n. if n == 1 then next_pc w pc else target w a) one)
  ]

  none_of : (n : ℕ) → n * 0 % P ≡ 0
  none_of n = omega arith

  goes_on : by_gate ((0 + 0 + f * 0 % P) % P) ≡ next_pc w pc
  goes_on = ap (λ n. by_gate ((0 + 0 + n) % P)) (none_of f) ∙ straight

  always : by_gate ((1 + 0 + f * 0 % P) % P) ≡ target w a
  always = ap (λ n. by_gate ((1 + 0 + n) % P)) (none_of f) ∙ jumped

  ends : (after_number w pc 1 (wrap w pc 0) + ((0 + 0 + f * 0 % P) % P) * ((target w a + (P - after_number w pc 1 (wrap w pc 0))) % P)) % P ≡ pc
  ends = ap (λ n. (after_number w pc 1 (wrap w pc 0) + ((0 + 0 + n) % P) * ((target w a + (P - after_number w pc 1 (wrap w pc 0))) % P)) % P) (none_of f)
      ∙ passed (after_number w pc 1 (wrap w pc 0)) _ (after_small 1 (wrap w pc 0)) ∙ stays_there w width pc small

  pub pc_number : (k : ℕ) → k < 32 → among unused_ops k ≡ false → PcNumber w pc a f k
  pc_number =
      for_opcode (PcNumber w pc a f)
      (goes_on, (goes_on, (goes_on, (goes_on, (goes_on, (goes_on, (goes_on, (goes_on, (goes_on, (goes_on, (goes_on, (goes_on, (goes_on, tt)))))))))))))
      (goes_on, (goes_on, (goes_on, (goes_on, (goes_on, tt))))) (goes_on, (goes_on, (always, (where_set, (where_clear, tt)))))
      (goes_on, (goes_on, (goes_on, (goes_on, (goes_on, (ends, tt))))))
