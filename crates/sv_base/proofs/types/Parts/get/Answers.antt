-- why `types::Parts::get` answers as its contract says
use Rattle.sv_base.proofs.GetLaws.{got}
use Rattle.sv_base.proofs.types.Parts.get.Goals as goal

pub returns : goal.returns
returns c = rw (← c.as_slice.ensures.items) (got _ _ _ c.get.ensures.lookup.3)
