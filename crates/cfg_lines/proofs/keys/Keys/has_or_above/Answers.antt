-- why `keys::Keys::has_or_above` answers as its contract says
use Rattle.std.proofs.Common.{sym, ◌∙◌}
use Rattle.std.proofs.lemmas.Bool.{or_right}
use Rattle.cfg_lines.proofs.PathLaws.{kept-back, let-through, none-beside}
use Rattle.cfg_lines.proofs.keys.Keys.has_or_above.Goals as goal

pub returns-in-Some : goal.returns-in-Some
returns-in-Some c = c.has_by.ensures ∙ none-beside _ _ (let-through _ _ _ (sym c.number_of_free.ensures ∙ c.in-Some.is))

pub returns-in-None : goal.returns-in-None
returns-in-None c = sym (or_right _ _ (kept-back _ _ (sym c.number_of_free.ensures ∙ c.in-None.is)))
