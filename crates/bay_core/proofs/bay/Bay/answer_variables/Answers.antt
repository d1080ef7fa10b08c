-- why `bay::Bay::answer_variables` answers as its contract says
use Rattle.std.proofs.Common.{◌∙◌, ℕ, List, Option, unwrap_or, refl, ap, ap₂, sym, subst}
use Rattle.std.specs.Prelude.{Bool, Result}
use Rattle.std.specs.List.{All}
use Rattle.std.specs.Option.{option_map}
use Rattle.sv_base.specs.declared.value.Value.{Value}
use Rattle.sv_base.specs.declared.config.Config.{Config}
use Rattle.bay_model.specs.declared.request.Service.TheVariants as services
use Rattle.bay_model.specs.declared.request.Target.{Target}
use Rattle.assoc_table.specs.declared.waiting.Ends.{Ends}
use Rattle.assoc_table.specs.Tables.{row_of}
use Rattle.bay_replies.specs.Reading.{IsReadBy, IsTarget}
use Rattle.bay_replies.proofs.FitLaws.{targets-there}
use Rattle.bay_core.specs.State.{State}
use Rattle.bay_core.specs.Turned.{reply_of}
use Rattle.bay_core.proofs.ReadLaws.{variables-answered}
use Rattle.bay_core.proofs.bay.Bay.answer_variables.Goals as goal

pub read_targets-requires : goal.read_targets-requires
read_targets-requires c =
    let ts = c.args.targets.now in
    subst (λ (d : Config). All (IsTarget d) c.as_slice.result.now) (sym c.replies.ensures.model)
    (subst (All (IsTarget c.args.self.now.config)) (sym c.as_slice.ensures) (targets-there c.args.self.now.config (services.Read ts c.args.spec) ts c.args.spec refl c.requires.fits))

pub turn-requires : goal.turn-requires
turn-requires c =
    let ts = c.args.targets.now in
    subst (λ (s : State). All (IsTarget s.config) ts) (sym c.arrive.ensures.state) (targets-there c.args.self.now.config (services.Read ts c.args.spec) ts c.args.spec refl c.requires.fits)

pub returns-clause-answered : goal.returns-clause-answered
returns-clause-answered c =
    let read = c.in_ok-read.read in
    variables-answered c.args.self.now c.arrive.new.self c.turn.new.self c.args.moment c.args.a.0 c.replies.result c.replies.ensures c.requires.number c.args.targets.now c.args.spec c.unwrap_or-size.result c.in_ok-asked.asked
    read.results.items read.is_cut c.read_reply.result
    (c.unwrap_or-size.ensures ∙ ap (λ (o : Option ℕ). unwrap_or o 0) (c.size.ensures ∙ ap (λ (w : State). option_map (λ (e : Ends). e.size) (row_of w.rows c.args.a.0).ends) c.self.view_is)) c.in_ok-asked.ensures
    (subst (λ (ts : List Target). IsReadBy c.replies.result c.unwrap_or-size.result ts read.results.items read.is_cut) c.as_slice.ensures c.in_ok-read.ensures.read)
    c.turn.ensures.controls
    (c.read_reply.ensures ∙ ap₂ (λ (cut : Bool) (rs : List (Result Value ℕ)). reply_of c.unwrap_or-size.result c.in_ok-asked.asked cut rs) c.turn.ensures.cut c.turn.ensures.results)
    c.arrive.ensures.stands
