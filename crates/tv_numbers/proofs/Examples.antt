-- Worked steps in numbers, at both widths.
use Rattle.tv_core.proofs.Common.{◌≡◌, ℕ, true, false, List, refl, Line}
use Rattle.std.specs.Prelude.{replicate, slice_set}
use Rattle.tv_core.specs.declared.limits.TheConstants.{NULL_CELL}
use Rattle.tv_numbers.specs.Numbers.{transition_of, step_words}
use Rattle.tv_numbers.specs.Views.{View}

-- registers of which one holds this, and the others 0
abbrev regs_with : ℕ → ℕ → List ℕ
regs_with i v = slice_set (replicate 16 0) i v

abbrev view : ℕ → List ℕ → ℕ → ℕ → ℕ → View
view pc regs flag taken ended = record { pc = pc; regs = regs; flag = flag; taken = taken; ended = ended }

abbrev line : ℕ → ℕ → ℕ → ℕ → Line
line cell time old new = record { cell = cell; time = time; old = old; new = new }

-- `add r1, r2, 2` carries, at the last place of memory with words of 16 bits
adds : (transition_of 32 0 10 (view 8 (regs_with 2 4294967295) 0 0 0) (step_words 608698368 2 0 false)).after
    ≡ view 16 (slice_set (regs_with 2 4294967295) 1 1) 1 0 0
adds = refl

adds_in_16_bits : (transition_of 16 0 10 (view 65532 (regs_with 2 65535) 0 0 0) (step_words 9288 2 0 false)).after
    ≡ view 0 (slice_set (regs_with 2 65535) 1 1) 1 0 0
adds_in_16_bits = refl

-- its lines: the instruction's two words, and none
adds_lines : (transition_of 32 0 10 (view 8 (regs_with 2 4294967295) 0 0 0) (step_words 608698368 2 0 false)).second ≡ line 3 11 2 2
adds_lines = refl

adds_looks_nowhere : (transition_of 32 0 10 (view 8 (regs_with 2 4294967295) 0 0 0) (step_words 608698368 2 0 false)).data_line ≡ line NULL_CELL 12 0 0
adds_looks_nowhere = refl

-- `store.b 5, r3` puts the low byte of a register into the second byte of a word
stores : (transition_of 32 0 0 (view 0 (regs_with 3 427) 0 0 0) (step_words 3569352704 5 1144201745 false)).data_line ≡ line 1 2 1144201745 1144236817
stores = refl

stores_in_16_bits : (transition_of 16 0 0 (view 0 (regs_with 3 427) 0 0 0) (step_words 54464 5 8721 false)).data_line ≡ line 2 2 8721 43793
stores_in_16_bits = refl

-- `load.b r3, 6` is the third byte of a word, or with 16 bits the first
loads : (transition_of 32 0 0 (view 0 (replicate 16 0) 1 0 0) (step_words 3703570432 6 1144201745 false)).after ≡ view 8 (regs_with 3 51) 1 0 0
loads = refl

loads_in_16_bits : (transition_of 16 0 0 (view 0 (replicate 16 0) 1 0 0) (step_words 56512 6 8721 false)).after ≡ view 4 (regs_with 3 17) 1 0 0
loads_in_16_bits = refl

-- `read r4, 1` with a word, and at the end of the tape
reads : (transition_of 32 0 0 (view 0 (replicate 16 0) 1 0 0) (step_words 4110417920 1 9 true)).after ≡ view 8 (regs_with 4 9) 0 0 0
reads = refl

finds_the_end : (transition_of 32 0 0 (view 0 (regs_with 4 5) 0 0 0) (step_words 4110417920 1 9 false)).after ≡ view 8 (replicate 16 0) 1 0 1
finds_the_end = refl

-- `read r4, 0` takes the second word of two, which is the last, and then none
reads_the_primary_tape : (transition_of 16 2 0 (view 0 (replicate 16 0) 1 1 0) (step_words 62720 0 77 false)).after ≡ view 4 (regs_with 4 77) 0 2 0
reads_the_primary_tape = refl

reads_a_cell_of_it : (transition_of 16 2 0 (view 0 (replicate 16 0) 1 1 0) (step_words 62720 0 77 false)).data_line ≡ line 1073741825 2 77 77
reads_a_cell_of_it = refl

reads_past_it : (transition_of 16 2 0 (view 0 (regs_with 4 5) 0 2 0) (step_words 62720 0 77 false)).after ≡ view 4 (replicate 16 0) 1 2 0
reads_past_it = refl

-- `cjmp 21` goes to the instruction in which the address lies
jumps : (transition_of 32 0 0 (view 0 (replicate 16 0) 1 0 0) (step_words 2885681152 21 0 false)).after ≡ view 16 (replicate 16 0) 1 0 0
jumps = refl

jumps_in_16_bits : (transition_of 16 0 0 (view 0 (replicate 16 0) 1 0 0) (step_words 44032 21 0 false)).after ≡ view 20 (replicate 16 0) 1 0 0
jumps_in_16_bits = refl

-- `answer r4` stays where it is, and answers the register
answers_nothing_new : (transition_of 32 0 0 (view 24 (regs_with 4 5) 1 0 1) (step_words 4160749568 4 0 false)).after ≡ view 24 (regs_with 4 5) 1 0 1
answers_nothing_new = refl

answers_five : (transition_of 32 0 0 (view 24 (regs_with 4 5) 1 0 1) (step_words 4160749568 4 0 false)).value ≡ 5
answers_five = refl
