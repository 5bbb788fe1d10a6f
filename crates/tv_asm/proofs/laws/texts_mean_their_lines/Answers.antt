use Rattle.tv_asm.proofs.LanguageLaws.{labels_count, texts_mean}
use Rattle.tv_asm.proofs.laws.texts_mean_their_lines.Goals as goal

pub returns : goal.returns
returns c = record { labels = labels_count; lines = texts_mean }
