-- why `opening::held_at_first` answers as its contract says
use Rattle.std.proofs.Common.{◌∙◌, ap, length, List}
use Rattle.value_store.specs.Opened.{opened}
use Rattle.value_store.specs.Stored.{Stored}
use Rattle.bay_opening.proofs.opening.held_at_first.Goals as goal

pub returns-clause-attrs : goal.returns-clause-attrs
returns-clause-attrs c = c.in-Ok.ensures.1 ∙ (c.len.ensures ∙ ap (λ (all : List Stored). length all) (c.store.ensures ∙ (c.in_ok-values.ensures ∙ ap opened c.config.ensures.same)))
