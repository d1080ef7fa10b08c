-- why `scripting::Scripts::end` answers as its contract says
use Rattle.std.proofs.Common.{ap, ne_eqb}
use Rattle.std.specs.Prelude.{if◌then◌else◌}
use Rattle.record_outcome.specs.declared.status.Status.TheVariants as statuses
use Rattle.script_plans.specs.Moves.{stops, ends}
use Rattle.script_reading.specs.Readings.{plan_seen, among}
use Rattle.script_reading.proofs.scripting.Scripts.end.Goals as goal

pub returns-clause-moves : goal.returns-clause-moves
returns-clause-moves c =
    let p = plan_seen c.args.self.now.plan in
    (p, ap (among p) c.requires.between, ap (λ b. if b then stops (statuses.Record c.args.number 5) else ends p) (ne_eqb c.args.self.now.plan.count 0 c.if-self-eq0.false))
