-- why `playing::Playing::new` answers as its contract says
use Rattle.std.proofs.Common.{sym, subst}
use Rattle.record_steps.specs.Forms.{Stands, shut}
use Rattle.record_session.proofs.playing.Playing.new.Goals as goal

pub returns-clause-plays : goal.returns-clause-plays
returns-clause-plays c = record { moment = c.first.ensures; stands = c.requires; forms = λ a. subst (λ f. Stands f shut) (sym (c.in-Ok.ensures a)) tt }
