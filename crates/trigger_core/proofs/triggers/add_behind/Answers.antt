-- why `triggers::add_behind` answers as its contract says
use Rattle.std.proofs.Common.{arith}
use Rattle.std.proofs.lemmas.Grind.{common_steps}
use Rattle.trigger_core.proofs.BehindLaws.{add_behind}
use Rattle.trigger_core.proofs.triggers.add_behind.Goals as goal

pub add-requires : goal.add-requires
add-requires c = rw (add_behind c.args.member.0 c.args.reasons c.args.out.now.items c.requires.below) (grind (arith, common_steps))
