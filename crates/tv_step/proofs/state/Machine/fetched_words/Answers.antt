use Rattle.tv_core.proofs.Common.{◌+◌, ℕ, ap, ◌∙◌}
use Rattle.tv_mem.specs.Bytes.{word_in}
use Rattle.tv_mem.specs.Pages.{bytes_in}
use Rattle.tv_step.proofs.LineLaws.{first_word}
use Rattle.tv_step.proofs.state.Machine.fetched_words.Goals as goal

pub returns-clause-first : goal.returns-clause-first
returns-clause-first g c =
    let w : ℕ = g.row.W in
    c.load_pair.ensures.first
    ∙ ap (word_in w (bytes_in c.args.self.now.memory)) (first_word w c.requires.width _ c.args.self.now.pc c.address.ensures.same c.address.ensures.aligned)

pub returns-clause-second : goal.returns-clause-second
returns-clause-second g c =
    let w : ℕ = g.row.W in
    c.load_pair.ensures.second
    ∙ ap (λ j. word_in w (bytes_in c.args.self.now.memory) (j + 1))
    (first_word w c.requires.width _ c.args.self.now.pc c.address.ensures.same c.address.ensures.aligned)
