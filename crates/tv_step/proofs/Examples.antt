-- Worked runs of the definitions.
use Rattle.tv_core.proofs.Common.{◌≡◌, ℕ, [], ◌∷◌, refl, Bool, true, false}
use Rattle.tv_step.specs.Machine.{end_of, start, reg}
use Rattle.tv_step.specs.Rows.{row}
use Rattle.tv_step.specs.declared.end.End.TheVariants as ends
use Rattle.tv_step.specs.State.{Next}
use Rattle.tv_step.specs.declared.op.Op.{Op}
use Rattle.tv_step.specs.declared.op.Op.TheVariants.{And, Add, Sub, Mull, Umulh, Smulh, Udiv, Umod, Shl, Shr, Cmpa, Cmpg}

-- `answer 0` answers at its first step
answers_at_once : end_of 32 2 (start 32 (4227858432 ∷ 0 ∷ []) [] []) ≡ ends.Answer 0 1
answers_at_once = refl

-- the answer is any word
answers_seven : end_of 32 2 (start 32 (2487222272 ∷ 7 ∷ 4160749568 ∷ 1 ∷ []) [] []) ≡ ends.Answer 7 2
answers_seven = refl

-- words of 16 bits: a sum that carries, a signed product, and a jump to the last place of memory
sums_in_16_bits : end_of 16 3 (start 16 (37952 ∷ 65535 ∷ 9348 ∷ 1 ∷ 63488 ∷ 2 ∷ []) [] []) ≡ ends.Answer 0 3
sums_in_16_bits = refl

multiplies_in_16_bits : end_of 16 4 (start 16 (37952 ∷ 32768 ∷ 16516 ∷ 1 ∷ 11400 ∷ 16384 ∷ 63488 ∷ 2 ∷ []) [] []) ≡ ends.Answer 0 4
multiplies_in_16_bits = refl

wraps_around_in_16_bits : end_of 16 5 (start 16 (44032 ∷ 9 ∷ 41984 ∷ 65532 ∷ 64512 ∷ 0 ∷ []) [] []) ≡ ends.Answer 0 5
wraps_around_in_16_bits = refl

-- an empty memory is `and r0, r0, r0` for ever
is_silent : end_of 32 64 (start 32 [] [] []) ≡ ends.Silent 64
is_silent = refl

-- an opcode that isn't used
is_undefined : end_of 32 5 (start 32 (3087007744 ∷ 0 ∷ []) [] []) ≡ ends.Undefined 23 1
is_undefined = refl

-- two reads of the auxiliary tape
takes_two_words : end_of 32 4 (start 32 (4097835008 ∷ 1 ∷ 4102029312 ∷ 1 ∷ 683933696 ∷ 2 ∷ 4160749568 ∷ 3 ∷ []) ([]) (9 ∷ 9 ∷ [])) ≡ ends.Answer 0 4
takes_two_words = refl

-- the second read finds it ended
finds_the_tape_ended : end_of 32 4 (start 32 (4097835008 ∷ 1 ∷ 4102029312 ∷ 1 ∷ 683933696 ∷ 2 ∷ 4160749568 ∷ 3 ∷ []) ([]) (9 ∷ [])) ≡ ends.Answer 9 4
finds_the_tape_ended = refl

-- both reads find it ended
finds_no_tape : end_of 32 4 (start 32 (4097835008 ∷ 1 ∷ 4102029312 ∷ 1 ∷ 683933696 ∷ 2 ∷ 4160749568 ∷ 3 ∷ []) ([]) ([])) ≡ ends.Answer 0 4
finds_no_tape = refl

-- no answer yet
is_cut_short : end_of 32 3 (start 32 (4097835008 ∷ 1 ∷ 4102029312 ∷ 1 ∷ 683933696 ∷ 2 ∷ 4160749568 ∷ 3 ∷ []) ([]) (9 ∷ 9 ∷ [])) ≡ ends.Silent 3
is_cut_short = refl

-- the program counter goes on from the last place to 0, and a jump is rounded down
wraps_around : end_of 32 5 (start 32 (2885681152 ∷ 17 ∷ 2751463424 ∷ 4294967288 ∷ 4227858432 ∷ 0 ∷ []) ([]) ([])) ≡ ends.Answer 0 5
wraps_around = refl

-- a byte is written into a word, and read back with an address that is not its first
keeps_other_bytes : end_of 32 6 (start 32
    (2487222272 ∷ 287454020 ∷ 2491416576 ∷ 171 ∷ 3829399552 ∷ 65536 ∷ 3565158400 ∷ 65537 ∷ 3972005888 ∷ 65539 ∷ 4160749568 ∷ 3 ∷ []) ([]) ([]))
    ≡ ends.Answer 287484740 6
keeps_other_bytes = refl

-- the third instruction is overwritten by the second
rewrites_itself : end_of 32 3 (start 32 (2487222272 ∷ 4227858432 ∷ 3829399552 ∷ 16 ∷ 0 ∷ 0 ∷ []) ([]) ([])) ≡ ends.Answer 0 3
rewrites_itself = refl

-- one word of the primary tape, its end, and a tape that is not there
reads_the_primary_tape : end_of 32 4 (start 32 (4097835008 ∷ 0 ∷ 4102029312 ∷ 0 ∷ 4106223616 ∷ 2 ∷ 4160749568 ∷ 1 ∷ []) (4294967295 ∷ []) ([]))
    ≡ ends.Answer 4294967295 4
reads_the_primary_tape = refl

-- the last byte of a page and the first of the next
crosses_pages : end_of 32 6 (start 32 (2487222272 ∷ 7 ∷ 3560964096 ∷ 8191 ∷ 3560964096 ∷ 8192 ∷ 3967811584 ∷ 8188 ∷ 3972005888 ∷ 8192 ∷ 4160749568 ∷ 2 ∷ [])
    ([]) ([])) ≡ ends.Answer 117440512 6
crosses_pages = refl

-- the last word of memory
stores_at_the_top : end_of 32 5 (start 32 (2487222272 ∷ 4294967295 ∷ 3829399552 ∷ 4294967295 ∷ 3699376128 ∷ 4294967292 ∷ 747110400 ∷ 255 ∷ 4160749568 ∷ 2 ∷ [])
    ([]) ([])) ≡ ends.Answer 0 5
stores_at_the_top = refl

-- the word in register 1 and the flag after an instruction on s and a
abbrev result : Op → ℕ → ℕ → ℕ × Bool
result op s a = elim (row 32 op (start 32 [] [] []) (record { dest = 1; held = 0; source = s; operand = a })) as (λ _. ℕ × Bool) [
  | Next.Gone st ↦ (reg st 1, st.flag)
  | Next.Answered v ↦ (v, false)
  | Next.Undefined op ↦ (op, false)
]

and_0 : result And 1 2 ≡ (0, true)
and_0 = refl

add_1 : result Add 4294967295 1 ≡ (0, true)
add_1 = refl

sub_2 : result Sub 0 1 ≡ (4294967295, true)
sub_2 = refl

mull_3 : result Mull 65536 65536 ≡ (0, true)
mull_3 = refl

umulh_4 : result Umulh 65536 65536 ≡ (1, true)
umulh_4 = refl

smulh_5 : result Smulh 2147483648 2147483648 ≡ (1073741824, true)
smulh_5 = refl

smulh_6 : result Smulh 4294967295 1 ≡ (4294967295, false)
smulh_6 = refl

udiv_7 : result Udiv 7 0 ≡ (0, true)
udiv_7 = refl

umod_8 : result Umod 7 0 ≡ (0, true)
umod_8 = refl

shl_9 : result Shl 2147483649 1 ≡ (2, true)
shl_9 = refl

shl_10 : result Shl 2147483649 32 ≡ (0, true)
shl_10 = refl

shr_11 : result Shr 2147483649 4294967295 ≡ (0, true)
shr_11 = refl

cmpg_12 : result Cmpg 4294967295 0 ≡ (0, false)
cmpg_12 = refl

cmpa_13 : result Cmpa 4294967295 0 ≡ (0, true)
cmpa_13 = refl
