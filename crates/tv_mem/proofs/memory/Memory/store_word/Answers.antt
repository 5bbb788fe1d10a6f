use Rattle.std.proofs.Common.{◌*◌, ◌/◌, IsTrue, subst, sym}
use Rattle.std.specs.Prelude.{is_some}
use Rattle.std.proofs.lemmas.Result.{on_ok_weaker, on_err_weaker}
use Rattle.tv_mem.proofs.StoreLaws.{word_stored, word_page, word_within, page_held, bytes_unchanged, held_unchanged}
use Rattle.tv_mem.specs.Pages.{page_in, bytes_in, is_held}
use Rattle.tv_mem.proofs.memory.Memory.store_word.Goals as goal

pub returns-clause-ok : goal.returns-clause-ok
unfolding bytes_in
returns-clause-ok g c = on_ok_weaker c.write.result
    (word_stored g.row.W c.requires.width (page_in c.args.self.now.tables.items) (page_in c.write.new.tables.items) c.args.at c.args.word)
    (rw (sym (c.low_bytes.ensures c.args.word c.word_bytes.ensures.bytes)) c.write.ensures.ok)

pub returns-clause-held : goal.returns-clause-held
unfolding is_held
returns-clause-held g c =
    let size = g.row.W / 8 in
    let same = word_page g.row.W c.requires.width c.args.at in
    on_ok_weaker c.write.result (λ writes page. rw same at
    (page_held (page_in c.args.self.now.tables.items) (page_in c.write.new.tables.items) (c.args.at / size * size) _ writes
    (page / 4096))) c.write.ensures.ok

pub returns-clause-err : goal.returns-clause-err
unfolding bytes_in
returns-clause-err g c = on_err_weaker c.write.result
    (bytes_unchanged (page_in c.args.self.now.tables.items) (page_in c.write.new.tables.items)) c.write.ensures.err

pub returns-clause-kept : goal.returns-clause-kept
unfolding is_held
returns-clause-kept g c = on_err_weaker c.write.result
    (λ same page. held_unchanged (page_in c.args.self.now.tables.items) (page_in c.write.new.tables.items) same (page / 4096)) c.write.ensures.err

pub write-requires : goal.write-requires
write-requires g c = record {
  within = word_within g.row.W c.requires.width c.args.at c.args.word c.low_bytes.result.now (c.low_bytes.ensures c.args.word c.word_bytes.ensures.bytes);
}

pub returns-clause-free : goal.returns-clause-free
unfolding is_held
returns-clause-free g c = λ held. c.write.ensures.free
    (subst (λ page. IsTrue (is_some (page_in c.args.self.now.tables.items page))) (sym (word_page g.row.W c.requires.width c.args.at)) held)
