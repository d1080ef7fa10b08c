-- why `session::Session::new` answers as its contract says
use Rattle.std.proofs.Common.{refl}
use Rattle.record_session.proofs.ReadingOn.{reads-none}
use Rattle.record_session.proofs.session.Session.new.Goals as goal

pub returns-clause-reads : goal.returns-clause-reads
returns-clause-reads c = reads-none _ tt refl
