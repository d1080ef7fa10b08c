-- why `contexts::Contexts::get` answers as its contract says
use Rattle.std.proofs.Common.{List, Bool, sym, ap, ◌∙◌, zero-add, refl}
use Rattle.std.specs.Prelude.{slice_get}
use Rattle.session_pres.proofs.ContextLaws.{flag_there, no_flag}
use Rattle.session_pres.proofs.contexts.Contexts.get.Goals as goal

pub returns-then-place-self : goal.returns-then-place-self
returns-then-place-self c = sym (ap (λ (x : List Bool). slice_get x c.args.place) (sym c.self.view_is) ∙ no_flag 0 c.self.inside.count c.self.inside.acse c.self.inside.mms c.args.place c.if-place-self.true)

pub returns : goal.returns
returns c = rw c.is_one_of.ensures (sym (ap (λ (x : List Bool). slice_get x c.args.place) (sym c.self.view_is) ∙ flag_there 0 c.self.inside.count c.self.inside.acse c.self.inside.mms c.args.place c.if-place-self.false ∙ rw (zero-add c.args.place) refl))
