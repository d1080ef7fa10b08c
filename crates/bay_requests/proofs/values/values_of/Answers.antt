-- why `values::values_of` answers as its contract says
use Rattle.std.proofs.Common.{◌≡◌, map, ap, ◌∙◌, arith}
use Rattle.std.proofs.lemmas.Grind.{common_steps}
use Rattle.sv_base.specs.Seen.{row_of}
use Rattle.sv_base.specs.Same.{value_of}
use Rattle.mms_pdu.specs.Datum.{value_at}
use Rattle.bay_requests.proofs.RequestLaws.{row_of_values}
use Rattle.bay_requests.proofs.values.values_of.Goals as goal

pub returns : goal.returns
returns c =
    let all : c.loop-datum.read.items ≡ map value_of (map value_at c.args.values) = grind (arith, common_steps) in
    c.from_vec.ensures ∙ (ap row_of all ∙ row_of_values (map value_at c.args.values))
