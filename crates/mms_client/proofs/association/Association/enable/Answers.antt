use Rattle.std.proofs.Common.{◌≡◌, ◌++◌, sym, subst, ◌∙◌, rules}
use Rattle.std.specs.Prelude.{codes}
use Rattle.mms_client.specs.References.{IsReference}
use Rattle.mms_client.proofs.ReferenceLaws.{component_reference}
use Rattle.mms_client.proofs.association.Association.enable.Goals as goal

pub write-requires-clause-reference : goal.write-requires-clause-reference
write-requires-clause-reference g c =
    let e : c.as_str.result.now ≡ c.args.block.now ++ codes "$RptEna" = c.as_str.ensures.value ∙ c.in_ok-reference.ensures in
    subst IsReference (sym e) (component_reference c.args.block.now (codes "$RptEna") c.requires (search rules) (search rules))
