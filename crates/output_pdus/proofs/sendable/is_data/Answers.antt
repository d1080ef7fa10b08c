-- why `sendable::is_data` answers as its contract says
use Rattle.std.proofs.Common.{sym}
use Rattle.ber_view.specs.View.{spot}
use Rattle.output_pdus.proofs.SendableLaws.{data-test}
use Rattle.output_pdus.proofs.sendable.is_data.Goals as goal

pub returns-in-Some : goal.returns-in-Some
returns-in-Some c = data-test c.args.octets.now (spot c.in-Some.part) c.view_data.result c.is_ok.result (sym c.in-Some.ensures.exact) c.view_data.ensures.reads c.is_ok.ensures.value
