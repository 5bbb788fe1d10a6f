-- Sums over the row of the opcodes are normal where the opcodes rise.
use Rattle.tv_core.proofs.Common.{◌≡◌, ℕ, ◌+◌, ◌<◌, ◌≤◌, Bool, true, List, [], ◌∷◌, ◌++◌, arith, top, Combination, IsNormal, IsNormalFrom}
use Rattle.std.proofs.Common.{nat_le, ◌&&◌}
use Rattle.std.proofs.lemmas.Bool.{and_parts, leb-true}
use Rattle.tv_core.proofs.NormalCircuits.{normal_append}
use Rattle.tv_core.proofs.NormalLaws.{IsNormalFrom-lower}
use Rattle.tv_core.specs.declared.field.TheConstants.{P}
use Rattle.tv_isa.specs.Opcodes.{place_of}
use Rattle.tv_inputs.specs.OpcodeSums.{opcode_terms, opcode_sum}

-- the places of opcodes rise from one on, and end below another
abbrev pub rises_from : ℕ → List ℕ → Bool
rises_from least [] = true
rises_from least (k ∷ ks) = nat_le least (place_of k) && rises_from (place_of k + 1) ks

abbrev pub places_below : ℕ → List ℕ → Bool
places_below most [] = true
places_below most (k ∷ ks) = nat_le (place_of k + 1) most && places_below most ks

pub opcodes_normal : (c op least : ℕ) (ks : List ℕ) → 0 < c → c < P → rises_from least ks ≡ true → IsNormalFrom (op + least) (opcode_terms c op ks)
opcodes_normal c op least [] some small rises = tt
opcodes_normal c op least (k ∷ ks) some small rises =
    let parts = and_parts (nat_le least (place_of k)) (rises_from (place_of k + 1) ks) rises in
    let here : least ≤ place_of k = leb-true least (place_of k) parts.0 in
    let rest = opcodes_normal c op (place_of k + 1) ks some small parts.1 in
    (omega (arith, here), some, small, IsNormalFrom-lower (op + place_of k + 1) (op + (place_of k + 1)) (opcode_terms c op ks) (omega arith) rest)

pub opcode_sum_normal : (op : ℕ) (ks : List ℕ) → rises_from 0 ks ≡ true → IsNormal (opcode_sum op ks)
opcode_sum_normal op ks rises = IsNormalFrom-lower 0 (op + 0) (opcode_sum op ks) (omega arith) (opcodes_normal 1 op 0 ks (omega arith) (omega arith) rises)

pub opcodes_top : (c op most : ℕ) (ks : List ℕ) → places_below most ks ≡ true → top (opcode_terms c op ks) ≤ op + most
opcodes_top c op most [] within = omega arith
opcodes_top c op most (k ∷ ks) within =
    let parts = and_parts (nat_le (place_of k + 1) most) (places_below most ks) within in
    let here : place_of k + 1 ≤ most = leb-true (place_of k + 1) most parts.0 in
    omega (arith, here, opcodes_top c op most ks parts.1)

-- and wires after them
pub opcodes_then : (c op least most : ℕ) (ks : List ℕ) (y : Combination) → 0 < c → c < P → rises_from least ks ≡ true → places_below most ks ≡ true
    → least ≤ most → IsNormalFrom (op + most) y → IsNormalFrom (op + least) (opcode_terms c op ks ++ y)
opcodes_then c op least most ks y some small rises within h n =
    normal_append (op + least) (op + most) (opcode_terms c op ks) y (opcodes_normal c op least ks some small rises) (opcodes_top c op most ks within)
    (omega (arith, h)) n
