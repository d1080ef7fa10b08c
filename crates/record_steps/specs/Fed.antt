-- What a stack gives for a piece of its stream.
use Rattle.std.specs.Prelude.{◌≡◌, ℕ, List, ◌++◌, Option, None, Some}
use Rattle.osi_stack.specs.Sides.{StandsFor}
use Rattle.osi_stack.specs.declared.events.Event.{Event}
use Rattle.osi_stack.specs.declared.fault.StackFault.{StackFault}
use Rattle.osi_stack.specs.declared.upper.Upper.{Upper}
use Rattle.record_steps.specs.Streams.{events_behind, refusal_behind}

-- it stands for the octets with the piece, or they are refused; the events are those beyond what it gave before
abbrev pub IsFed : Upper → (before piece : List ℕ) → (es now : List Event) → Option StackFault → Type 0
IsFed upper before piece es now None = (now ≡ events_behind before piece) × (refusal_behind before piece ≡ None) × StandsFor upper (before ++ piece) (es ++ now)
IsFed upper before piece es now (Some fault) = (now ≡ events_behind before piece) × (refusal_behind before piece ≡ Some fault)
