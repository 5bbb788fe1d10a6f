use Rattle.tv_core.proofs.Common.{◌≡◌, ℕ, ◌≤◌, Bool, refl, sym, subst, arith, inl, inr, cases_eq, flag_of}
use Rattle.tv_isa.specs.Opcodes.{chosen}
use Rattle.tv_numbers.specs.Tables.{flags}
use Rattle.tv_parts.proofs.flag.flag_after.Goals as goal

-- moves and jumps leave the flag
kept : (w x a : ℕ) (found : Bool) (flag op : ℕ) → 18 ≤ op → op ≤ 22 → flag ≡ chosen (flags w x a found flag) op
kept w x a found flag op low high = elim (cases_eq op 18) [
  | inl e ↦ subst Keeps (sym e) refl
  | inr n18 ↦ elim (cases_eq op 19) [
    | inl e ↦ subst Keeps (sym e) refl
    | inr n19 ↦ elim (cases_eq op 20) [
      | inl e ↦ subst Keeps (sym e) refl
      | inr n20 ↦ elim (cases_eq op 21) [
        | inl e ↦ subst Keeps (sym e) refl
        | inr n21 ↦ let e : 22 ≡ op = omega arith in subst Keeps e refl
      ]
    ]
  ]
]
  where
    Keeps : ℕ → Type 0
    Keeps k = flag ≡ chosen (flags w x a found flag) k

pub returns-in-18-to-22-2 : goal.returns-in-18-to-22-2
returns-in-18-to-22-2 g c = kept g.row.W c.args.x c.args.a c.args.found (flag_of c.args.flag) c.args.op (omega arith) (omega arith)
