use Rattle.std.proofs.Common.{rules, ℕ, ◌≡◌, length, replicate, Option, Some, None, false, cond, nat_eq, OnOk, List, ap, refl, sym, subst, ◌∙◌}
use Rattle.std.specs.Prelude.{is_some}
use Rattle.std.proofs.lemmas.List.{length-replicate}
use Rattle.std.proofs.lemmas.Result.{on_ok_weaker, on_err_weaker}
use Rattle.tv_mem.specs.Pages.{page_of, page_bytes, page_with, Changes}
use Rattle.tv_mem.proofs.pages.write_in.Goals as goal

none_of : (page : Option (List ℕ)) → is_some page ≡ false → page ≡ None
none_of None e = refl
none_of (Some page) e = cc

-- a page that wasn't held had only zeros
pub returns-clause-ok : goal.returns-clause-ok
returns-clause-ok c =
    let none : page_of c.args.table.now c.args.place ≡ None = none_of _ (sym c.write_held.ensures.held ∙ c.if-write_held.false) in
    let zeros : c.deref_mut.result.now ≡ replicate 4096 0 = search rules in
    let page : c.overwrite.new.page ≡ page_with (page_bytes (page_of c.args.table.now c.args.place)) c.args.offset c.args.bytes.now =
    c.overwrite.ensures.with
    ∙ ap (λ p. page_with p c.args.offset c.args.bytes.now) zeros
    ∙ sym (ap (λ p. page_with (page_bytes p) c.args.offset c.args.bytes.now) none) in
    let whole : length (page_bytes (page_of c.args.table.now c.args.place)) ≡ 4096 = ap (λ p. length (page_bytes p)) none ∙ length-replicate {A = ℕ} 4096 0 in
    let same = c.write_held.ensures.same c.if-write_held.false in
    let kept : OnOk c.keep.result (Changes (page_of c.write_held.new.table) (page_of c.keep.new.table) c.args.place c.overwrite.new.page) = search
    (c.keep.ensures.ok, rules) in
    on_ok_weaker c.keep.result (λ changes. record {
      changes = λ q. subst
          (Changes (page_of c.write_held.new.table) (page_of c.keep.new.table) c.args.place) page changes q
          ∙ ap (cond (nat_eq q c.args.place) (Some _)) (same q);
      whole = whole;
      within = c.requires.within;
    }) kept

pub returns-clause-err : goal.returns-clause-err
returns-clause-err c =
    let same = c.write_held.ensures.same c.if-write_held.false in
    on_err_weaker c.keep.result (λ later q. later q ∙ same q) c.keep.ensures.err
