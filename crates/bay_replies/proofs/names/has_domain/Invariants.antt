-- what the loops of `names::has_domain` keep
use Rattle.std.proofs.Common.{◌≡◌, drop}
use Rattle.std.specs.List.{list_any}
use Rattle.std.specs.Str.{bytes_eq}
use Rattle.sv_base.specs.declared.config.LnDef.{LnDef}
use Rattle.bay_replies.proofs.names.has_domain.Given as goal

abbrev pub invariant-loop-node : goal.invariant-loop-node
invariant-loop-node l = list_any (λ (n : LnDef). bytes_eq n.domain l.domain) (drop l.node-index l.nodes) ≡ list_any (λ (n : LnDef). bytes_eq n.domain l.domain) l.nodes
