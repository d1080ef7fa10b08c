-- What time brings to a bay (IEC 61850-7-2, BRCB attributes BufTm and IntgPd).
use Rattle.std.specs.Prelude.{ℕ, max}
use Rattle.object_model.specs.Nodes.{node_rows}
use Rattle.control_core.specs.Tables.{at_moment}
use Rattle.block_events.specs.Timed.{arrived_all}
use Rattle.bay_core.specs.State.{State}

-- the state at the arrival of a step at this moment
abbrev pub at_arrival : ℕ → State → State
at_arrival t s = record s {
  latest = max s.latest t;
  parts = arrived_all (node_rows s.config) s.book s.stored s.latest (max s.latest t) s.steps s.parts;
  controls = at_moment (max s.latest t) s.controls;
}
