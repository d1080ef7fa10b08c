-- why `merging::put_part` answers as its contract says
use Rattle.std.proofs.Common.{◌≡◌, ℕ, ◌∷◌, [], ◌++◌, List, length, Some, sym, ap, subst, ◌∙◌, arith, length-append, length-set, append_assoc}
use Rattle.std.specs.Prelude.{slice_get}
use Rattle.sv_base.specs.declared.config.Config.{Config}
use Rattle.bay_model.specs.Answers.{History}
use Rattle.bay_histories.specs.Rules.{Rules}
use Rattle.actor_scripts.specs.declared.part.Reply.{Reply}
use Rattle.actor_scripts.specs.declared.made.Made.{Made}
use Rattle.actor_scripts.specs.Scripts.{made_of, made}
use Rattle.actor_scripts.specs.Merging.{AreRight}
use Rattle.actor_scripts.proofs.Lists.{get_here, stands_there, right_set}
use Rattle.actor_scripts.proofs.merging.put_part.Goals as goal

pub loop-reply-preserved : goal.loop-reply-preserved
loop-reply-preserved c =
    let i = c.loop-reply.invariant in
    let reply : Reply = c.in-Some.reply in
    let actor : ℕ = c.args.part.actor in
    let step : Made = made actor c.loop-reply.index reply in
    let rest : List Reply = c.next.new.self.rest.items in
    let more : (c.loop-reply.yielded ++ reply ∷ []) ++ rest ≡ c.args.part.replies.items =
    append_assoc c.loop-reply.yielded (reply ∷ []) rest ∙ (ap (λ (xs : List Reply). c.loop-reply.yielded ++ xs) (sym c.in-Some.ensures.steps.0) ∙ i.2) in
    let whole : c.loop-reply.yielded ++ reply ∷ rest ≡ c.args.part.replies.items = sym (append_assoc c.loop-reply.yielded (reply ∷ []) rest) ∙ more in
    let read : slice_get c.args.part.replies.items c.loop-reply.index ≡ Some reply =
    subst (λ (xs : List Reply). slice_get xs c.loop-reply.index ≡ Some reply) whole (get_here c.loop-reply.yielded rest reply c.loop-reply.index i.1) in (
      ap (λ (xs : List _). length xs) c.put.ensures ∙ (length-set c.loop-reply.places reply.place (Some step) ∙ i.0),
      omega (arith, i.1, length-append c.loop-reply.yielded (reply ∷ [])),
      more,
      λ (rules : Rules) (config : Config) (h : History) e right. subst (AreRight (made_of rules config h)) (sym c.put.ensures)
          (right_set (made_of rules config h) c.loop-reply.places reply.place step (stands_there rules config actor h c.loop-reply.index reply (subst (λ (rs : List Reply). slice_get rs c.loop-reply.index ≡ Some reply) e read)) (i.3 rules config h e right)),
    )
