-- why `session::Session::read` answers as its contract says
use Rattle.record_session.proofs.ReadingOn.{reads-on}
use Rattle.record_session.proofs.session.Session.read.Goals as goal

pub returns-clause-moves : goal.returns-clause-moves
returns-clause-moves c = reads-on c.in_ok-stop.stop c.args.self.now c.read_next.new.self c.args.line.now c.args.out.now.items c.read_next.new.out.items c.requires.whole c.in_ok-stop.ensures.lines c.in_ok-stop.ensures.moves
