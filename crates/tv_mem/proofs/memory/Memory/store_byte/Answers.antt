use Rattle.std.specs.Prelude.{◌/◌}
use Rattle.std.proofs.lemmas.Result.{on_ok_weaker, on_err_weaker}
use Rattle.tv_mem.proofs.StoreLaws.{byte_stored, page_held, bytes_unchanged, held_unchanged}
use Rattle.tv_mem.specs.Pages.{page_in, bytes_in, is_held}
use Rattle.tv_mem.proofs.memory.Memory.store_byte.Goals as goal

pub returns-clause-ok : goal.returns-clause-ok
unfolding bytes_in
returns-clause-ok c = on_ok_weaker c.write.result
    (byte_stored (page_in c.args.self.now.tables.items) (page_in c.write.new.tables.items) c.args.at c.args.value) c.write.ensures.ok

pub returns-clause-held : goal.returns-clause-held
unfolding is_held
returns-clause-held c = on_ok_weaker c.write.result
    (λ writes page. page_held (page_in c.args.self.now.tables.items) (page_in c.write.new.tables.items) c.args.at _ writes (page / 4096)) c.write.ensures.ok

pub returns-clause-err : goal.returns-clause-err
unfolding bytes_in
returns-clause-err c = on_err_weaker c.write.result
    (bytes_unchanged (page_in c.args.self.now.tables.items) (page_in c.write.new.tables.items)) c.write.ensures.err

pub returns-clause-kept : goal.returns-clause-kept
unfolding is_held
returns-clause-kept c = on_err_weaker c.write.result
    (λ same page. held_unchanged (page_in c.args.self.now.tables.items) (page_in c.write.new.tables.items) same (page / 4096)) c.write.ensures.err
