-- The bytes of a number.
use Rattle.std.proofs.Common.{◌≡◌, ℕ, zero, suc, ◌*◌, ◌/◌, ◌^◌, ◌<◌, arith}
use Rattle.std.proofs.Math.Nat.{pow-succ', pow-zero}
use Rattle.tv_word.specs.Word.{low_bytes, little_endian}

-- the n lowest bytes of a number below 256 ^ n represent it
pub little_endian-low_bytes : (n v : ℕ) → v < 256 ^ n → little_endian (low_bytes n v) ≡ v
little_endian-low_bytes zero v h = let none : v < 1 = rw (pow-zero 256) at h in omega arith
little_endian-low_bytes (suc n) v h =
    let long : v < 256 * 256 ^ n = rw (pow-succ' 256 n) at h in
    let above : v / 256 < 256 ^ n = omega arith in
    omega (arith, little_endian-low_bytes n (v / 256) above)
