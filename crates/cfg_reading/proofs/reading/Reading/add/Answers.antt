-- why `reading::Reading::add` answers as its contract says
use Rattle.std.proofs.Common.{arith, ap, length}
use Rattle.cfg_reading.proofs.KnownLaws.{known-more, known-few}
use Rattle.cfg_reading.proofs.reading.Reading.add.Goals as goal

pub add-requires : goal.add-requires
add-requires c = record { few = known-few c.self.inside.kept c.self.invariant }

pub invariant_of-self : goal.invariant_of-self
invariant_of-self c = known-more c.self.inside.kept c.add.new.self c.args.line c.self.invariant (omega (arith, c.requires.few, ap length c.self.view_is)) c.in-Ok.ensures.lines c.in-Ok.ensures.noted
