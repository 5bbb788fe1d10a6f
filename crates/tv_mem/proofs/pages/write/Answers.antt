use Rattle.std.proofs.Common.{◌≡◌, ℕ, ◌/◌, ◌%◌, ◌<◌, List, length, Some, IsTrue, ap, sym, subst, ◌∙◌}
use Rattle.std.specs.Prelude.{is_some, slice_get, slice_set}
use Rattle.std.proofs.lemmas.Option.{slice_get-get_or}
use Rattle.std.proofs.lemmas.Result.{on_ok_weaker, on_err_weaker}
use Rattle.tv_mem.proofs.PageLaws.{table_before, table_changes, table_same}
use Rattle.tv_mem.specs.Pages.{Found, Table, page_of, page_in, page_bytes, page_with, Changes}
use Rattle.tv_mem.proofs.pages.write.Goals as goal

-- the table in which the page has its place was there, or is made
pub returns-clause-ok : goal.returns-clause-ok
returns-clause-ok c =
    let old : Found = page_in c.args.tables.now.items in
    let mid : List Table = c.make_tables.new.tables.items in
    let number : ℕ = c.args.at / 4096 in
    let table : Table = c.index_mut.result.now in
    let within : number / 1024 < length mid = c.in_ok-make_tables.ensures.there in
    let was : slice_get mid (number / 1024) ≡ Some table = slice_get-get_or mid (number / 1024) table within
    ∙ ap (λ t. Some t) (sym c.index_mut.ensures.value) in
    let before : page_of table (number % 1024) ≡ old number = table_before old mid c.make_tables.ensures.same number table c.write_in.new.table within was in
    on_ok_weaker c.write_in.result (λ writes. record {
      changes = subst (λ p. Changes old (page_in (slice_set mid (number / 1024) c.write_in.new.table)) number
          (page_with (page_bytes p) (c.args.at % 4096) c.args.bytes.now)) before
          (table_changes old mid c.make_tables.ensures.same number table c.write_in.new.table within was _ writes.changes);
      whole = ap (λ p. length (page_bytes p)) (sym before) ∙ writes.whole;
      within = writes.within;
    }) c.write_in.ensures.ok

pub returns-clause-err : goal.returns-clause-err
returns-clause-err c =
    let mid : List Table = c.make_tables.new.tables.items in
    let number : ℕ = c.args.at / 4096 in
    let table : Table = c.index_mut.result.now in
    let within : number / 1024 < length mid = c.in_ok-make_tables.ensures.there in
    let was : slice_get mid (number / 1024) ≡ Some table = slice_get-get_or mid (number / 1024) table within
    ∙ ap (λ t. Some t) (sym c.index_mut.ensures.value) in
    on_err_weaker c.write_in.result (table_same
    (page_in c.args.tables.now.items) mid c.make_tables.ensures.same number table c.write_in.new.table within was) c.write_in.ensures.err

pub returns-clause-free : goal.returns-clause-free
returns-clause-free c =
    let old : Found = page_in c.args.tables.now.items in
    let mid : List Table = c.make_tables.new.tables.items in
    let number : ℕ = c.args.at / 4096 in
    let table : Table = c.index_mut.result.now in
    let within : number / 1024 < length mid = c.in_ok-make_tables.ensures.there in
    let was : slice_get mid (number / 1024) ≡ Some table = slice_get-get_or mid (number / 1024) table within
    ∙ ap (λ t. Some t) (sym c.index_mut.ensures.value) in
    let before : page_of table (number % 1024) ≡ old number = table_before old mid c.make_tables.ensures.same number table c.write_in.new.table within was in
    λ held. c.write_in.ensures.free (subst (λ p. IsTrue (is_some p)) (sym before) held)
