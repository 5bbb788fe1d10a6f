-- An instruction in two words of w bits. Of the first word, from its highest bit down: five bits opcode,
-- one bit immediate, four bits destination, four bits source; the rest is ignored. The second word is a.
use Rattle.std.specs.Prelude.{ℕ, ◌+◌, ◌-◌, ◌*◌, ◌/◌, ◌%◌, ◌^◌, ◌<◌, ◌==◌, if◌then◌else◌, List, [], ◌∷◌}
use Rattle.tv_isa.specs.declared.instr.Instr.{Instr}

-- the number that is the count bits of h from bit number low on
abbrev pub field : ℕ → ℕ → ℕ → ℕ
field low count h = h / 2 ^ low % 2 ^ count

-- the instruction that two words are
abbrev pub decode : ℕ → ℕ → ℕ → Instr
decode w h a =
    record {
      op = field (w - 5) 5 h;
      imm = field (w - 6) 1 h == 1;
      dest = field (w - 10) 4 h;
      source = field (w - 14) 4 h;
      a = a;
    }

-- fields that an instruction can have
pub record IsInstruction (i : Instr) : Type 0 where
  pub op : i.op < 32
  pub dest : i.dest < 16
  pub source : i.source < 16

-- the two words of an instruction
abbrev pub encode : ℕ → Instr → List ℕ
encode w i =
    (i.op * 2 ^ (w - 5) + (if i.imm then 2 ^ (w - 6) else 0) + i.dest * 2 ^ (w - 10) + i.source * 2 ^ (w - 14))
    ∷ i.a ∷ []
