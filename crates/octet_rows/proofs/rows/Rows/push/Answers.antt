-- why `rows::Rows::push` answers as its contract says
use Rattle.std.proofs.Common.{◌≡◌, ◌++◌, ◌∷◌, [], length, length-append, ap, ◌∙◌, arith}
use Rattle.octet_rows.specs.declared.rows.Extent.{Extent}
use Rattle.octet_rows.specs.Laid.{rows_in}
use Rattle.octet_rows.proofs.RowLaws.{on-err, kept, pushed}
use Rattle.octet_rows.proofs.rows.Rows.push.Goals as goal

-- octets more change no row
pub returns-in_err-push-clause-err : goal.returns-in_err-push-clause-err
returns-in_err-push-clause-err c =
    on-err c.from_residual-in_err-push.result (ap (rows_in c.extend_from_slice.new.self.items) c.in_err-push.ensures.items
    ∙ (kept c.self.inside.octets.items c.extend_from_slice.new.self.items c.args.row.now c.self.inside.extents.items c.in_ok-extend_from_slice.ensures.items c.self.invariant ∙ c.self.view_is))

pub returns-clause-ok : goal.returns-clause-ok
returns-clause-ok c =
    let octets = c.self.inside.octets.items in
    let row = c.args.row.now in
    let next = c.extend_from_slice.new.self.items in
    let extent = c.in_ok-extent.extent in
    let start : extent.start ≡ length octets = ap (λ (e : Extent). e.start) c.in_ok-extent.ensures ∙ (c.len.ensures ∙ c.self.inside.octets.ok.0) in
    let end : extent.end ≡ length next = omega (arith, ap (λ (e : Extent). e.end) c.in_ok-extent.ensures, c.len.ensures, c.self.inside.octets.ok.0, ap length c.in_ok-extend_from_slice.ensures.items, length-append octets row) in
    ap (rows_in next) c.in_ok-push.ensures.items
    ∙ (pushed octets next row c.self.inside.extents.items c.in_ok-extend_from_slice.ensures.items c.self.invariant extent start end ∙ ap (λ l. l ++ row ∷ []) c.self.view_is)
