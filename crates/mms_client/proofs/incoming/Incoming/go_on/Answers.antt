use Rattle.mms_client.proofs.FollowLaws.{reports_quiet}
use Rattle.mms_client.proofs.incoming.Incoming.go_on.Goals as goal

pub returns-clause-goes : goal.returns-clause-goes
returns-clause-goes g c = reports_quiet c.args.self.now c.advance.new.self (g.L.Source.left c.args.link.now) (g.L.Source.left c.advance.new.link) c.in_ok-advance.field-0 c.in_ok-advance.ensures.goes
