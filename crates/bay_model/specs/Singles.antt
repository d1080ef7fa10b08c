-- The single reads and writes of a request, each at a point of its own (ISO 9506-2, Read and Write of a list of
-- variables).
use Rattle.std.specs.Prelude.{ℕ, List, [], ◌∷◌, Option, None, Some, if◌then◌else◌}
use Rattle.std.specs.Option.{option_map_or}
use Rattle.std.specs.List.{filter_map}
use Rattle.sv_base.specs.Same.{value_of}
use Rattle.sv_base.specs.declared.value.Value.{Value}
use Rattle.bay_model.specs.declared.control.Act.{Act}
use Rattle.bay_model.specs.declared.request.Target.{Target}
use Rattle.bay_model.specs.declared.request.Target.TheVariants as targets
use Rattle.bay_model.specs.declared.request.Write.{Write}
use Rattle.bay_model.specs.Model.{Model, operate}
use Rattle.bay_model.specs.Points.{Deed, called, nothing, Point, Past}
use Rattle.bay_model.specs.Commands.{Command, command_of}
use Rattle.bay_model.specs.Outcomes.{Outcome, refused, deed_of}
use Rattle.bay_model.specs.Reads.{read_node}
use Rattle.bay_model.specs.Writes.{write_node}
use Rattle.bay_model.specs.declared.access_errors.TheConstants.{OBJECT_ACCESS_UNSUPPORTED, OBJECT_NON_EXISTENT}

-- a node that is read, one that is written, or the code of a name that can be neither, since no such name is there, or
-- alternate access is asked for
pub data Single : Type 0 where
  reads : (n : ℕ) → Single
  writes : (n : ℕ) → Value → Single
  fails : (code : ℕ) → Single

abbrev pub read_of : Target → Single
read_of (targets.Node n name) = reads n.0
read_of (targets.Missing name) = fails OBJECT_NON_EXISTENT
read_of (targets.Alternate name) = fails OBJECT_ACCESS_UNSUPPORTED

abbrev pub write_to : Target → Value → Single
write_to (targets.Node n name) v = writes n.0 v
write_to (targets.Missing name) v = fails OBJECT_NON_EXISTENT
write_to (targets.Alternate name) v = fails OBJECT_ACCESS_UNSUPPORTED

abbrev pub write_of : Write → Single
write_of w = write_to w.target w.value

-- writes of values to as many nodes
abbrev pub writes_of : List ℕ → List Value → List Single
writes_of (n ∷ ns) (v ∷ vs) = writes n v ∷ writes_of ns vs
writes_of _ _ = []

-- the point of a step at its moment, before anything came of it. What a step comes to is decided there: by all that was
-- before, and by `now` and the entries at the point.
abbrev pub arrival : ℕ → ℕ → Point
arrival step moment = record { moment = moment; step = step; deed = nothing }

-- what comes of a's single; past ends with its arrival
abbrev pub outcome_of : Model → ℕ → Single → Past → Outcome
outcome_of c a (reads n) past = read_node c a n past
outcome_of c a (writes n v) past = write_node c a n v past
outcome_of c a (fails code) past = refused code

-- what comes of a single after past, at the moment of a step
abbrev pub outcome_at : Model → ℕ → ℕ → ℕ → Single → Past → Outcome
outcome_at c a step moment s past = outcome_of c a s (arrival step moment ∷ past)

abbrev pub after_single : Model → ℕ → ℕ → ℕ → Single → Past → Past
after_single c a step moment s past = record { moment = moment; step = step; deed = deed_of (outcome_at c a step moment s past) } ∷ past

-- the points of singles, each after those before it
abbrev pub after_singles : Model → ℕ → ℕ → ℕ → List Single → Past → Past
after_singles c a step moment [] past = past
after_singles c a step moment (s ∷ ss) past = after_singles c a step moment ss (after_single c a step moment s past)

-- what comes of them, in order
abbrev pub outcomes : Model → ℕ → ℕ → ℕ → List Single → Past → List Outcome
outcomes c a step moment [] past = []
outcomes c a step moment (s ∷ ss) past = outcome_at c a step moment s past ∷ outcomes c a step moment ss (after_single c a step moment s past)

-- an accepted Oper that is no test acts
abbrev pub act_of : Deed → Option Act
act_of (called a k operate v) = option_map_or (λ (m : Command). if m.test then None else Some (record { control = record { 0 = k }; value = value_of m.value; by = record { 0 = a } })) (command_of v) None
act_of _ = None

-- the acts of a request, in order
abbrev pub acts_in : List Outcome → List Act
acts_in os = filter_map (λ o. act_of (deed_of o)) os
