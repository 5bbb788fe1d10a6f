-- The laws of sums over the row of the opcodes that are used.
use Rattle.tv_core.proofs.Common.{◌≡◌, ℕ, ◌+◌, ◌*◌, ◌%◌, ◌<◌, ◌==◌, nat_lt, not, Bool, true, false, if◌then◌else◌, List, [], ◌∷◌, inl, inr, refl, sym, ◌∙◌, ap}
use Rattle.tv_core.proofs.Common.{arith, slice_index, eqb-true, cases_eq, eq-eqb, ne_eqb, value-below, value-cons, value, flag_of}
use Rattle.std.proofs.Common.{◌&&◌}
use Rattle.std.proofs.lemmas.Bool.{and_parts, ltb-true, not-true}
use Rattle.tv_core.specs.declared.field.TheConstants.{P}
use Rattle.tv_isa.specs.Opcodes.{among, unused_ops, place_of}
use Rattle.tv_inputs.specs.OpcodeSums.{opcode_terms, distinct, IsOpcode, OpcodeSumIsSound}

cold_sum : (c n v : ℕ) → n ≡ 0 → v < P → (c * n + v) % P ≡ v
cold_sum c n v e h = rw e (omega arith)

hot_sum : (c n v : ℕ) → c < P → n ≡ 1 → v ≡ 0 → (c * n + v) % P ≡ c
hot_sum c n v h e f = rw (e, f) (omega arith)

-- the sum of c times the wires is c where the opcode is one of them
pub opcode_terms_sound : (z : List ℕ) (c op k : ℕ) (ks : List ℕ) → c < P → IsOpcode z op k → distinct ks ≡ true
    → value (opcode_terms c op ks) z ≡ (if among ks k then c else 0)
opcode_terms_sound z c op k [] small row is = refl
opcode_terms_sound z c op k (j ∷ js) small row is =
    let first = and_parts ((nat_lt j 32 && not (among unused_ops j)) && not (among js j)) (distinct js) is in
    let here = and_parts (nat_lt j 32 && not (among unused_ops j)) (not (among js j)) first.0 in
    let used = and_parts (nat_lt j 32) (not (among unused_ops j)) here.0 in
    let rest = opcode_terms_sound z c op k js small row first.1 in
    let wire = row.row j (ltb-true j 32 used.0) (not-true (among unused_ops j) used.1) in
    value-cons c (op + place_of j) (opcode_terms c op js) z ∙ by_test (j == k) refl (not-true (among js j) here.1) wire rest
  where
    by_test : (t : Bool) → (j == k) ≡ t → among js j ≡ false → slice_index z (op + place_of j) ≡ flag_of (j == k)
        → value (opcode_terms c op js) z ≡ (if among js k then c else 0)
        → (c * slice_index z (op + place_of j) + value (opcode_terms c op js) z) % P ≡ (if among (j ∷ js) k then c else 0)
    by_test true t apart wire rest =
        let same : j ≡ k = eqb-true j k t in
        let none : among js k ≡ false = ap (among js) (sym same) ∙ apart in
        hot_sum c (slice_index z (op + place_of j)) (value (opcode_terms c op js) z) small (wire ∙ ap flag_of t) (rest ∙ ap (λ b. if b then c else 0) none)
        ∙ sym (ap (λ b. if (if b then true else among js k) then c else 0) t)
    by_test false t apart wire rest =
        cold_sum c (slice_index z (op + place_of j)) (value (opcode_terms c op js) z) (wire ∙ ap flag_of t) (value-below (opcode_terms c op js) z) ∙ rest
        ∙ sym (ap (λ b. if (if b then true else among js k) then c else 0) t)

pub opcode_sum_sound : OpcodeSumIsSound
opcode_sum_sound z op k ks row is = opcode_terms_sound z 1 op k ks (omega arith) row is

-- ---- one wire
eqb_turned : (j k : ℕ) → (j == k) ≡ (k == j)
eqb_turned j k = elim (cases_eq j k) [
  | inl same ↦ eq-eqb j k same ∙ sym (eq-eqb k j (sym same))
  | inr apart ↦ ne_eqb j k apart ∙ sym (ne_eqb k j (λ e. apart (sym e)))
]

pub opcode_wire_is : (z : List ℕ) (op k j : ℕ) → IsOpcode z op k → j < 32 → among unused_ops j ≡ false → slice_index z (op + place_of j) ≡ flag_of (k == j)
opcode_wire_is z op k j row within used = row.row j within used ∙ ap flag_of (eqb_turned j k)
