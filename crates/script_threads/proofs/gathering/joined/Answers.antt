-- why `gathering::joined` answers as its contract says
use Rattle.std.proofs.Common.{◌∙◌}
use Rattle.history_lock.specs.Passes.{Joined}
use Rattle.script_threads.proofs.Races.{gathers_ours, gathers_theirs}
use Rattle.script_threads.proofs.gathering.joined.Goals as goal

pub returns-clause-pass : goal.returns-clause-pass
returns-clause-pass g c =
    let j : Joined c.args.pass.now c.args.played.pass c.join.new.pass = c.join.ensures in (
      (j.place.0 ∙ c.requires.pass.0, j.place.1 ∙ c.requires.pass.1),
      gathers_ours c.args.pass.now c.args.played.pass c.join.new.pass j,
      gathers_theirs c.args.pass.now c.args.played.pass c.join.new.pass j,
    )
