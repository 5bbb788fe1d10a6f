use Rattle.tv_core.proofs.Common.{◌≡◌, sym, ap, ◌∙◌, arith, Line}
use Rattle.tv_layout.proofs.NumberPlaces.{word_of_image}
use Rattle.tv_fill.proofs.RunPlaces.{lines_many, tape_line, step_line}
use Rattle.tv_fill.proofs.run_lines.RunLinesLineNumbers.line.Goals as goal

alike : {a b : Line} → a ≡ b → (a.cell ≡ b.cell) × (a.time ≡ b.time) × (a.old ≡ b.old)
alike e = (ap (λ (l : Line). l.cell) e, ap (λ (l : Line). l.time) e, ap (λ (l : Line). l.old) e)

pub bounds-self-i-else-i-boot : goal.bounds-self-i-else-i-boot
bounds-self-i-else-i-boot c =
    let l = c.args.self.now in
    omega (arith, c.requires, c.if-i-boot.false, lines_many l.image.now l.tape.now l.steps.now)

pub returns-then-i-words : goal.returns-then-i-words
returns-then-i-words c =
    let l = c.args.self.now in
    let same = alike (c.word_line.ensures ∙ sym (word_of_image l.image.now l.tape.now l.steps.now c.args.i (omega (arith, c.if-i-words.true)))) in
    record { cell = same.0; time = same.1; old = same.2 }

pub returns-then-i-boot : goal.returns-then-i-boot
returns-then-i-boot c =
    let l = c.args.self.now in
    let same = alike (c.word_line-then-i-boot.ensures ∙ sym (tape_line l.image.now l.tape.now l.steps.now c.args.i (omega (arith, c.if-i-words.false))
    (omega (arith, c.if-i-boot.true)))) in
    record { cell = same.0; time = same.1; old = same.2 }

pub returns-else-i-boot : goal.returns-else-i-boot
returns-else-i-boot c =
    let l = c.args.self.now in
    let same = alike (sym (step_line l.image.now l.tape.now l.steps.now c.args.i (omega (arith, c.if-i-boot.false)))) in
    record { cell = same.0; time = same.1; old = same.2 }
