use Rattle.tv_core.proofs.Common.{◌+◌, ◌≤◌, ◌<◌, ◌^◌, ap, sym, ◌∙◌, arith}
use Rattle.tv_container.specs.Places.{places}
use Rattle.tv_container.proofs.Chain.{err_is, reads_as, reads_off, reads_on, refuses_any, refuses_first, stopped_here}
use Rattle.tv_r1cs_read.specs.R1cs.{header_in}
use Rattle.tv_r1cs_read.proofs.HeaderLemmas.{checked_has, checked_room, header_in-checked, reads_by}
use Rattle.tv_r1cs_read.proofs.header.header_in.Goals as goal

pub returns-in_err-one : goal.returns-in_err-one
unfolding header_in
returns-in_err-one g c =
    rw (err_is c.from_residual.result c.from_residual.ensures.1) (record {
      reads = record {
        looks = stopped_here _ _ _ c.in_err-one.ensures.own;
        piece = λ file known piece. tt;
        gives = λ file known piece end sections found fit.
            refuses_first _ _ _ (c.in_err-one.ensures.gives file end sections (ap (λ fields. fields.one) found));
      };
      within = λ file sections found fit. tt;
      ends = tt;
      room = tt;
    })

pub returns-in_err-rows : goal.returns-in_err-rows
unfolding header_in
returns-in_err-rows g c =
    rw (err_is c.from_residual-in_err-rows.result c.from_residual-in_err-rows.ensures.1) (record {
      reads = record {
        looks = stopped_here _ _ _ c.in_err-rows.ensures.own;
        piece = λ file known piece. tt;
        gives = λ file known piece end sections found fit.
            rw (c.in_ok-one.ensures.gives file end sections (ap (λ fields. fields.one) found))
            (refuses_first _ _ _ (c.in_err-rows.ensures.gives file end sections (ap (λ fields. fields.two) found)));
      };
      within = λ file sections found fit. tt;
      ends = tt;
      room = tt;
    })

pub returns-in_err-this_field : goal.returns-in_err-this_field
unfolding header_in
returns-in_err-this_field g c =
    rw (err_is c.from_residual-in_err-this_field.result c.from_residual-in_err-this_field.ensures.1) (record {
      reads = reads_as (reads_off c.in_err-this_field.ensures.reads) (λ file known refuses end sections found fit.
          let one_is = ap (λ fields. fields.one) found in
          rw (c.in_ok-one.ensures.gives file end sections one_is, c.in_ok-rows.ensures.gives file end sections (ap (λ fields. fields.two) found))
          (refuses_first _ _ _ (refuses (fit.fits 1 c.in_ok-one.one (sym one_is ∙ c.in_ok-one.ensures.same)))));
      within = λ file sections found fit. tt;
      ends = tt;
      room = tt;
    })

pub returns-in_err-header : goal.returns-in_err-header
returns-in_err-header g c =
    rw (err_is c.from_residual-in_err-header.result c.from_residual-in_err-header.ensures.1) (record {
      reads = reads_as (reads_on c.in_ok-this_field.ensures.reads (reads_off c.in_err-header.ensures.reads)) (λ file known is end sections found fit.
          let within = fit.fits 1 c.in_ok-one.one (sym (ap (λ fields. fields.one) found) ∙ c.in_ok-one.ensures.same) in
          let room : c.in_ok-one.one.at + 40 ≤ places file = omega (arith, within, c.in_ok-this_field.ensures.size) in
          refuses_any _ _ _ (is.rest room));
      within = λ file sections found fit. tt;
      ends = tt;
      room = tt;
    })

pub returns : goal.returns
returns g c =
    let has = c.checked.ensures in
    let rows = c.in_ok-header.ensures.rows in
    let end : c.in_ok-rows.rows.at + c.in_ok-rows.rows.size < 2 ^ 64 = rw c.in_ok-rows.ensures.same at c.requires.two in
    record {
      reads = reads_as (reads_on c.in_ok-this_field.ensures.reads (reads_on c.in_ok-header.ensures.reads (reads_by _ has.own)))
          (λ file known is end sections found fit.
          let one_is = ap (λ fields. fields.one) found in
          let within = fit.fits 1 c.in_ok-one.one (sym one_is ∙ c.in_ok-one.ensures.same) in
          let room : c.in_ok-one.one.at + 40 ≤ places file = omega (arith, within, c.in_ok-this_field.ensures.size) in
          rw (
            header_in-checked file sections _ _ _ c.in_ok-header.header
                (c.in_ok-one.ensures.gives file end sections one_is)
                (c.in_ok-rows.ensures.gives file end sections (ap (λ fields. fields.two) found))
                (is.first within)
                (is.rest.first room),
            ← ap (λ fields. fields.three) found,
          ) has.gives);
      within = λ file sections found fit. checked_has _ c.in_ok-header.header (λ header. header.rows.at + header.rows.size ≤ places file) has.same
          (rw rows (fit.fits 2 c.in_ok-rows.rows (sym (ap (λ fields. fields.two) found) ∙ c.in_ok-rows.ensures.same)));
      ends = checked_has _ c.in_ok-header.header (λ header. header.rows.at + header.rows.size < 2 ^ 64) has.same (rw rows end);
      room = checked_room _ c.in_ok-header.header has.same has.room;
    }
