-- why `value::Values::get` answers as its contract says
use Rattle.sv_base.proofs.RowLaws.{values-row}
use Rattle.sv_base.proofs.GetLaws.{got}
use Rattle.sv_base.proofs.value.Values.get.Goals as goal

pub returns : goal.returns
returns c = rw (← c.self.view_is, values-row, ← c.deref.ensures.value) (got _ _ _ c.get.ensures.lookup.3)
