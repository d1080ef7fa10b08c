-- why `owner::filled_with` answers as its contract says
use Rattle.std.proofs.Common.{ap, ◌∙◌, ◌++◌, length, drop}
use Rattle.std.specs.Prelude.{replicate}
use Rattle.sv_base.proofs.OwnerLaws.{rest_of_none}
use Rattle.sv_base.proofs.owner.filled_with.Goals as goal

pub returns : goal.returns
returns c = ap (λ l. l ++ drop (length c.args.row.now) (replicate 64 0)) c.copy_from_slice.ensures.after ∙ rest_of_none c.args.row.now
