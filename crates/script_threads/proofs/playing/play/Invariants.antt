-- what the loops of `playing::play` keep
use Rattle.std.proofs.Common.{◌≡◌, ◌+◌, length}
use Rattle.std.specs.Prelude.{vec_capacity}
use Rattle.script_threads.specs.Playing.{Plays}
use Rattle.script_threads.proofs.playing.play.Given as goal

abbrev pub invariant-loop-timed : goal.invariant-loop-timed
invariant-loop-timed g l =
    Plays g.M.StateMachine.rules l.initial.pass l.steps l.replies.items l.pass × (length l.replies.items ≡ l.timed-index) × (vec_capacity l.initial.replies ≡ vec_capacity l.replies)
    × (l.initial.pass.left ≡ l.pass.left + l.timed-index)
