-- why `rows::Rows::truncate` answers as its contract says
use Rattle.std.proofs.Common.{take, sym, ap, ◌∙◌}
use Rattle.std.proofs.lemmas.List.{take-map}
use Rattle.octet_rows.specs.Laid.{row_in, rows_in}
use Rattle.octet_rows.proofs.rows.Rows.truncate.Goals as goal

pub returns : goal.returns
returns c = ap (rows_in c.self.inside.octets.items) c.truncate.ensures.items
    ∙ (sym (take-map (row_in c.self.inside.octets.items) c.args.len c.self.inside.extents.items) ∙ ap (take c.args.len) c.self.view_is)
