-- why `slots::Slots::pour` answers as its contract says
use Rattle.std.proofs.Common.{ap, arith, length, ℕ}
use Rattle.sv_base.specs.Filled.{Filled}
use Rattle.window_core.specs.Slots.{Slotted, total}
use Rattle.window_core.proofs.SlotLaws.{room-total}
use Rattle.window_core.proofs.slots.Slots.pour.Goals as goal

pub pour_spans-requires-clause-room : goal.pour_spans-requires-clause-room
pour_spans-requires-clause-room c = omega (
  arith,
  ap (λ (f : Filled ℕ). length f.items) c.clear.ensures,
  ap (λ (f : Filled ℕ). f.room) c.clear.ensures,
  ap total c.as_slice-2.ensures.value,
  room-total _ c.self.inside.spans.items c.self.invariant.3,
  ap (λ (v : Slotted). v.members) c.self.view_is,
  c.requires,
)
