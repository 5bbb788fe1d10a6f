-- Sums over the one-hot row of the 29 opcodes that are used.
use Rattle.std.specs.Prelude.{◌≡◌, ℕ, ◌+◌, ◌<◌, ◌==◌, ◌&&◌, not, nat_lt, Bool, true, false, List, [], ◌∷◌, map, slice_index}
use Rattle.tv_core.specs.Constraints.{Combination, value}
use Rattle.tv_isa.specs.Opcodes.{among, unused_ops, place_of}
use Rattle.tv_word.specs.Word.{flag_of}

-- c times the sum of the wires of these opcodes in the row from `op` on, and that sum
abbrev pub opcode_terms : ℕ → ℕ → List ℕ → Combination
opcode_terms c op ks = map (λ k. (c, op + place_of k)) ks

abbrev pub opcode_sum : ℕ → List ℕ → Combination
opcode_sum op ks = opcode_terms 1 op ks

-- k is an opcode that is used, and of the row's 29 wires that of k holds 1, and each other one 0
pub record IsOpcode (z : List ℕ) (op k : ℕ) : Type 0 where
  pub within : k < 32
  pub used : among unused_ops k ≡ false
  pub row : (j : ℕ) → j < 32 → among unused_ops j ≡ false → slice_index z (op + place_of j) ≡ flag_of (j == k)

-- opcodes that are used, none of them twice
abbrev pub distinct : List ℕ → Bool
distinct [] = true
distinct (j ∷ js) = ((nat_lt j 32 && not (among unused_ops j)) && not (among js j)) && distinct js

-- the sum is 1 where the opcode is one of them, and else 0
abbrev pub OpcodeSumIsSound : Type 0
OpcodeSumIsSound = (z : List ℕ) (op k : ℕ) (ks : List ℕ) → IsOpcode z op k → distinct ks ≡ true → value (opcode_sum op ks) z ≡ flag_of (among ks k)
