use Rattle.tv_double_checks.proofs.TapeLaws.{tape_word_sound, tape_word_complete, tape_word_sizes}
use Rattle.tv_double_checks.proofs.tape_words.tape_word_laws.Goals as goal

pub returns : goal.returns
returns c = record { sound = tape_word_sound; complete = tape_word_complete; sizes = tape_word_sizes }
