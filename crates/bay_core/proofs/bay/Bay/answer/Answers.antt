-- why `bay::Bay::answer` answers as its contract says
use Rattle.std.proofs.Common.{◌≡◌, List, refl, subst}
use Rattle.bay_model.specs.declared.request.Service.{Service}
use Rattle.bay_model.specs.declared.request.Service.TheVariants as services
use Rattle.bay_model.specs.declared.request.Write.{Write}
use Rattle.bay_core.specs.Commanded.{CallsNothing}
use Rattle.block_watch.specs.Served.{AreServedSets}
use Rattle.bay_core.specs.State.{State}
use Rattle.bay_core.proofs.CameLaws.{replied-come}
use Rattle.bay_core.proofs.bay.Bay.answer.Goals as goal

calls-nothing : (s : Service) → ((ws : List Write) → s ≡ services.WriteVars ws → ⊥) → CallsNothing s
calls-nothing (services.WriteVars ws) none = absurd (none ws refl)
calls-nothing _ none = tt

pub answer_plain-requires-clause-plain : goal.answer_plain-requires-clause-plain
answer_plain-requires-clause-plain c = calls-nothing c.args.service.now c.in_default.not-WriteVars

pub returns-in_ok-reply-in_default-clause-came : goal.returns-in_ok-reply-in_default-clause-came
returns-in_ok-reply-in_default-clause-came c =
    let none = c.alone.ensures.none in
    replied-come c.args.self.now c.answer_plain.new.self c.args.moment c.args.a.0 c.args.service.now c.in_ok-reply-in_default.reply c.alone.result
    (subst (λ (t : State). AreServedSets t.config t.book) c.self.view_is c.self.invariant.furnished.booked.served) (calls-nothing c.args.service.now c.in_default.not-WriteVars)
    c.alone.ensures.reply none.0 none.1 none.2 c.in_ok-reply-in_default.ensures.answered
