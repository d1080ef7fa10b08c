-- why `triggers::with_attr` answers as its contract says
use Rattle.std.proofs.Common.{◌∙◌, sym, ap, Option, unwrap_or}
use Rattle.std.specs.Option.{option_map, option_copied}
use Rattle.bay_model.specs.declared.flags.Change.{Change}
use Rattle.bay_model.specs.Notes.{no_reason, union}
use Rattle.trigger_core.specs.Noted.{reasons_by}
use Rattle.trigger_core.proofs.ReasonLaws.{none_more}
use Rattle.trigger_core.proofs.triggers.with_attr.Goals as goal

pub returns-in-Some : goal.returns-in-Some
returns-in-Some c = c.union.ensures ∙ (ap (union c.args.reasons) c.reasons_by.ensures
    ∙ ap (λ (found : Option Change). union c.args.reasons (unwrap_or (option_map (reasons_by c.args.trg) found) no_reason)) (sym (ap option_copied c.in-Some.is) ∙ c.change_of.ensures))

pub returns-in-None : goal.returns-in-None
returns-in-None c = sym (none_more c.args.reasons)
    ∙ ap (λ (found : Option Change). union c.args.reasons (unwrap_or (option_map (reasons_by c.args.trg) found) no_reason)) (sym (ap option_copied c.in-None.is) ∙ c.change_of.ensures)
