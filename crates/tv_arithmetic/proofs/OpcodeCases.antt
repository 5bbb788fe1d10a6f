-- Cases over the entries of a table that covers an opcode.
use Rattle.tv_core.proofs.Common.{◌≡◌, ℕ, Bool, true, false, if◌then◌else◌, List, [], ◌∷◌, refl}
use Rattle.tv_isa.specs.Opcodes.{among, Entry, chosen}
use Rattle.tv_numbers.proofs.Cases.{out, EachOf, each_of}
use Rattle.tv_inputs.specs.Rows.{covers}

-- one proof for each opcode of each entry
abbrev pub EachEntry : (ℕ → ℕ → Type 0) → List (Entry ℕ) → Type 0
EachEntry T [] = Unit {0}
EachEntry T (e ∷ es) = EachOf (λ k. T k e.gives) e.ops × EachEntry T es

pub by_entry : (T : ℕ → ℕ → Type 0) (table : List (Entry ℕ)) → EachEntry T table → (k : ℕ) → covers table k ≡ true → T k (chosen table k)
by_entry T [] each k t = out t
by_entry T (e ∷ es) each k t = by_test (among e.ops k) (each_of (λ k. T k e.gives) e.ops each.0 k) (by_entry T es each.1 k) t
  where
    by_test : (b : Bool) → (b ≡ true → T k e.gives) → (covers es k ≡ true → T k (chosen es k)) → (if b then true else covers es k) ≡ true
        → T k (if b then e.gives else chosen es k)
    by_test true here rest t = here refl
    by_test false here rest t = rest t
