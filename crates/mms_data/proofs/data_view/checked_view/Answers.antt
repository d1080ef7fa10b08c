-- why `data_view::checked_view` answers as its contract says
use Rattle.ber_view.specs.View.{spot}
use Rattle.mms_data.proofs.ViewLaws.{viewed, not_viewed}
use Rattle.mms_data.proofs.data_view.checked_view.Goals as goal

pub returns-in-Ok : goal.returns-in-Ok
returns-in-Ok c = viewed (spot c.args.part.now) c.in-Ok.ensures

pub returns-in-Err : goal.returns-in-Err
returns-in-Err c = not_viewed (spot c.args.part.now) c.in-Err.fault c.in-Err.ensures
