-- why `variable_lists::no_names` answers as its contract says
use Rattle.std.proofs.Common.{refl, sym, ◌∙◌}
use Rattle.list_laws.proofs.Options.{some_is}
use Rattle.mms_pdu.specs.ObjectName.{name_at}
use Rattle.mms_pdu.proofs.EachLaws.{each_none}
use Rattle.mms_pdu.proofs.variable_lists.no_names.Goals as goal

pub unreachable-requires : goal.unreachable-requires
unreachable-requires c = let none = c.names_of.ensures ∙ each_none name_at _ refl in cc

pub returns : goal.returns
returns c = some_is _ _ (sym c.in-Some.is ∙ c.names_of.ensures ∙ each_none name_at _ refl)
