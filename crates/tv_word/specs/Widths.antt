-- The widths that a machine word may have.
use Rattle.std.specs.Prelude.{◌≡◌, ℕ, ◌⊎◌}

-- a word has 16 or 32 bits
abbrev pub IsWidth : ℕ → Type 0
IsWidth w = (w ≡ 16) ⊎ (w ≡ 32)
