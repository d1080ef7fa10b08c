-- why `data_view::view_data` answers as its contract says
use Rattle.ber_view.specs.View.{spot}
use Rattle.mms_data.proofs.ViewLaws.{view_reads}
use Rattle.mms_data.proofs.data_view.view_data.Goals as goal

pub returns-clause-reads : goal.returns-clause-reads
returns-clause-reads c = view_reads _ (spot c.args.part.now) c.holds_octets.ensures c.checked_view.ensures
