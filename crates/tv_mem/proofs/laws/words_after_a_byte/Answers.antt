use Rattle.tv_mem.proofs.WordLaws.{word_after_byte, others_after_byte, bytes_after_byte}
use Rattle.tv_mem.proofs.laws.words_after_a_byte.Goals as goal

pub returns-clause-word : goal.returns-clause-word
returns-clause-word c = word_after_byte

pub returns-clause-others : goal.returns-clause-others
returns-clause-others c = others_after_byte

pub returns-clause-bytes : goal.returns-clause-bytes
returns-clause-bytes c = bytes_after_byte
