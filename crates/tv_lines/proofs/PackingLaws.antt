-- Packing and unpacking, as numbers.
use Rattle.tv_core.proofs.Common.{◌≡◌, ℕ, ◌+◌, ◌*◌, ◌/◌, ◌%◌, ◌^◌, ◌<◌, List, [], sym, ◌∙◌, ap, arith, value-append, scaled, Combination, value}
use Rattle.tv_core.proofs.CombinationLaws.{value-scaled}
use Rattle.tv_core.proofs.NormalLaws.{value-normal}
use Rattle.tv_core.specs.declared.field.TheConstants.{P}
use Rattle.tv_lines.specs.PackedLines.{unpacked, packed_terms, ItemIsRight, PackIsRight, PackIsOneToOne, UnpackUndoesPack}
use Rattle.tv_core.proofs.LineLaws.{pair_same}

joined_value : (z : List ℕ) (low high : Combination) → value (packed_terms low high) z ≡ (2 ^ 32 * value high z + value low z) % P
joined_value z low high = value-append low (scaled (2 ^ 32 % P) high) z ∙ ap (λ n. (value low z + n) % P) (value-scaled (2 ^ 32 % P) high z) ∙ omega arith

below_p : (high low : ℕ) → high < 2 ^ 31 → low < 2 ^ 32 → (2 ^ 32 * high + low) % P ≡ high * 2 ^ 32 + low
below_p high low h k = omega arith

pub pack_right : PackIsRight
pack_right z line range = pair_same _ _ _ _
    (joined_value z line.old line.cell ∙ below_p (value line.cell z) (value line.old z) range.cell range.old)
    (joined_value z line.new line.time ∙ below_p (value line.time z) (value line.new z) (omega (arith, range.time)) range.new)

pub item_right : ItemIsRight
item_right z line range = pair_same _ _ _ _
    (value-normal z (packed_terms [] line.cell) ∙ joined_value z [] line.cell ∙ below_p (value line.cell z) 0 range.cell (omega arith))
    (value-normal z (packed_terms line.new line.time) ∙ joined_value z line.new line.time
    ∙ below_p (value line.time z) (value line.new z) (omega (arith, range.time)) range.new)

-- what was packed is there again
pub unpack_packed : UnpackUndoesPack
unpack_packed line range =
    let cell : (line.cell * 2 ^ 32 + line.old) / 2 ^ 32 ≡ line.cell = omega (arith, range.old) in
    let time : (line.time * 2 ^ 32 + line.new) / 2 ^ 32 ≡ line.time = omega (arith, range.new) in
    let old : (line.cell * 2 ^ 32 + line.old) % 2 ^ 32 ≡ line.old = omega (arith, range.old) in
    let new : (line.time * 2 ^ 32 + line.new) % 2 ^ 32 ≡ line.new = omega (arith, range.new) in
    λ i. record { cell = cell i; time = time i; old = old i; new = new i }

pub pack_one_to_one : PackIsOneToOne
pack_one_to_one l m in_l in_m same = sym (unpack_packed l in_l) ∙ ap unpacked same ∙ unpack_packed m in_m
