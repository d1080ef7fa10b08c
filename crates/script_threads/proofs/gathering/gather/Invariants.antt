-- what the loops of `gathering::gather` keep
use Rattle.std.proofs.Common.{◌≡◌, ◌++◌, map}
use Rattle.bay_histories.specs.Histories.{IsLegal}
use Rattle.script_threads.specs.declared.job.Played.{Played}
use Rattle.script_threads.specs.Playing.{IsOf}
use Rattle.script_threads.specs.Races.{Gathers, AllGathered}
use Rattle.script_threads.proofs.gathering.gather.Given as goal

abbrev pub invariant-loop-played : goal.invariant-loop-played
invariant-loop-played g l =
    IsOf l.history l.pass × Gathers l.initial.pass l.pass × IsLegal g.M.StateMachine.rules l.history.config l.pass.seen
    × AllGathered l.pass l.yielded
    × (map (λ (d : Played g.row.M.Denot). d.part) l.yielded ≡ l.parts.items)
    × (l.yielded ++ l.played-iterator.rest.items ≡ l.fn.all.items)
