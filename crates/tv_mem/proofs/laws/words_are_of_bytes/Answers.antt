use Rattle.tv_mem.proofs.WordLaws.{words_are_small, byte_of_word}
use Rattle.tv_mem.proofs.laws.words_are_of_bytes.Goals as goal

pub returns-clause-small : goal.returns-clause-small
returns-clause-small c = words_are_small

pub returns-clause-bytes : goal.returns-clause-bytes
returns-clause-bytes c = byte_of_word
