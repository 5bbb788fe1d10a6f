use Rattle.std.proofs.Common.{◌≡◌, length, arith, rules, ◌∙◌}
use Rattle.std.proofs.lemmas.Grind.{common_steps}
use Rattle.tv_files.proofs.Pieces.{front_grows, front_ends, held_of_read}
use Rattle.tv_files.proofs.whole.slurp.Goals as goal

pub returns-then-count-eq0-clause-whole : goal.returns-then-count-eq0-clause-whole
returns-then-count-eq0-clause-whole g c = λ files known.
    let seen = g.D.Files.seen in
    let before = c.loop-contents.invariant in
    let at : c.len.result ≡ length c.loop-contents.contents.items = omega arith in
    let none = rw c.if-count-eq0.true at c.in_ok-count.ensures in
    let here = held_of_read (seen c.loop-contents.files) (seen c.read.new.self) c.args.name.now c.len.result c.read.new.into 0 none files
    (before.contents_stay ∙ known) in
    let all = front_ends c.loop-contents.contents.items here.0 c.read.new.into c.len.result at (before.front files known here.0 here.1) here.2 (omega arith) in
    rw all here.1

pub returns-then-count-most-clause-longer : goal.returns-then-count-most-clause-longer
returns-then-count-most-clause-longer g c = λ limit e. (
  cc,
  λ files known.
      let seen = g.D.Files.seen in
      let here = held_of_read (seen c.loop-contents.files)
      (seen c.read.new.self) c.args.name.now c.len.result c.read.new.into c.in_ok-count.count c.in_ok-count.ensures files
      (c.loop-contents.invariant.contents_stay ∙ known) in
      (here.0, here.1, omega arith),
)

pub loop-contents-preserved : goal.loop-contents-preserved
loop-contents-preserved g c = record {
  contents_stay = search rules;
  said_stays = search rules;
  counts = search rules;
  short = grind (arith, common_steps);
  front = λ files known bytes named.
      let before = c.loop-contents.invariant in
      let at : c.len.result ≡ length c.loop-contents.contents.items = omega arith in
      let gives = c.in_ok-count.ensures.bytes files (before.contents_stay ∙ known) bytes named in
      let grown = front_grows c.loop-contents.contents.items bytes c.read.new.into c.len.result c.in_ok-count.count at
      (before.front files known bytes named) gives c.in_ok-count.ensures.within in
      grind (arith, common_steps, grown);
}
