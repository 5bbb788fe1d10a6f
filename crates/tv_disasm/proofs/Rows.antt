-- Images and their texts, worked out.
use Rattle.std.proofs.Common.{◌≡◌, [], ◌∷◌, codes, refl}
use Rattle.std.specs.Fmt.{digits}
use Rattle.tv_isa.specs.Table.{instructions, with_opcode}
use Rattle.tv_disasm.specs.Disassembly.{disassembly_of, hexadecimal, two_words_text}

nothing : disassembly_of 32 [] ≡ []
unfolding disassembly_of
nothing = refl

zeros : disassembly_of 32 (0 ∷ 0 ∷ 0 ∷ 0 ∷ 0 ∷ 0 ∷ 0 ∷ 0 ∷ []) ≡ codes "and r0, r0, r0\n"
unfolding disassembly_of two_words_text with_opcode instructions digits
zeros = refl

store : disassembly_of 32 (0 ∷ 0 ∷ 192 ∷ 228 ∷ 0 ∷ 0 ∷ 1 ∷ 0 ∷ []) ≡ codes "store.w 65536, r3\n"
unfolding disassembly_of two_words_text with_opcode instructions digits
store = refl

unused_opcode : two_words_text 32 0xb800_0000 0 ≡ codes ".raw 0xb8000000, 0"
unfolding two_words_text with_opcode instructions digits hexadecimal
unused_opcode = refl

ignored_bit : disassembly_of 32 (1 ∷ 0 ∷ 0 ∷ 0 ∷ 16 ∷ 0 ∷ 0 ∷ 0 ∷ []) ≡ codes ".raw 0x00000001, 16\n"
unfolding disassembly_of two_words_text with_opcode instructions digits hexadecimal
ignored_bit = refl

-- `mov` names no source register
unnamed_field : two_words_text 32 0x9404_0000 7 ≡ codes ".raw 0x94040000, 7"
unfolding two_words_text with_opcode instructions digits hexadecimal
unnamed_field = refl

no_such_register : two_words_text 32 0 16 ≡ codes ".raw 0x00000000, 16"
unfolding two_words_text with_opcode instructions digits hexadecimal
no_such_register = refl
