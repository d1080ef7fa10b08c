-- why `contexts::Contexts::len` answers as its contract says
use Rattle.std.proofs.Common.{List, Bool, length, sym, ap, ◌∙◌}
use Rattle.session_pres.proofs.ContextLaws.{length-flags}
use Rattle.session_pres.proofs.contexts.Contexts.len.Goals as goal

pub returns : goal.returns
returns c = sym (ap (λ (x : List Bool). length x) (sym c.self.view_is) ∙ length-flags 0 c.self.inside.count c.self.inside.acse c.self.inside.mms)
