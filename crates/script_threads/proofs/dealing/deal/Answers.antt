-- why `dealing::deal` answers as its contract says
use Rattle.std.proofs.Common.{◌≡◌, ℕ, suc, List, [], ◌∷◌, ◌++◌, map, sym, ap, subst, ◌∙◌, arith, append_assoc}
use Rattle.std.specs.List.{All}
use Rattle.std.proofs.lemmas.List.Elements.{All-push}
use Rattle.history_lock.specs.Passes.{Site}
use Rattle.actor_scripts.specs.declared.script.Script.{Script}
use Rattle.actor_scripts.specs.declared.script.Actor.{Actor}
use Rattle.script_threads.specs.declared.job.Job.{Job}
use Rattle.actor_scripts.specs.Actors.{AreFalling, CanPlay}
use Rattle.script_threads.specs.Dealing.{IsReady, Dealt}
use Rattle.actor_scripts.proofs.Lists.{map_last}
use Rattle.script_threads.proofs.Races.{dealt_more}
use Rattle.script_threads.proofs.dealing.deal.Goals as goal

module _ {M X : Type 0} where
  -- the scripts of jobs and of the actors that are left
  scripts_more : (jobs after : List (Job M X)) (job : Job M X) (actor : Actor X) (left rest : List (Actor X)) (all : List Script) → after ≡ jobs ++ job ∷ [] → job.script ≡ actor.script
      → left ≡ actor ∷ rest → map (λ (j : Job M X). j.script) jobs ++ map (λ (a : Actor X). a.script) left ≡ all
      → map (λ (j : Job M X). j.script) after ++ map (λ (a : Actor X). a.script) rest ≡ all
  scripts_more jobs after job actor left rest all pushed same next is =
      let scripts = map (λ (j : Job M X). j.script) jobs in
      let others = map (λ (a : Actor X). a.script) rest in
      ap (λ (l : List (Job M X)). map (λ (j : Job M X). j.script) l ++ others) pushed
      ∙ (ap (λ (l : List Script). l ++ others) (map_last (λ (j : Job M X). j.script) jobs job)
      ∙ (append_assoc scripts (job.script ∷ []) others
      ∙ (ap (λ (s : Script). scripts ++ s ∷ others) same
      ∙ (ap (λ (l : List (Actor X)). scripts ++ map (λ (a : Actor X). a.script) l) (sym next) ∙ is))))

  dealt_all : (h : Site) (above n : ℕ) (jobs after : List (Job M X)) (job : Job M X) → after ≡ jobs ++ job ∷ [] → job.pass.first ≡ n
      → Dealt h job.pass.first 33 (map (λ (j : Job M X). (j.pass, j.script)) jobs ++ (job.pass, job.script) ∷ [])
      → Dealt h n 33 (map (λ (j : Job M X). (j.pass, j.script)) after)
  dealt_all h above n jobs after job pushed first dealt =
      subst (λ (m : ℕ). Dealt h m 33 (map (λ (j : Job M X). (j.pass, j.script)) after)) first
      (subst (Dealt h job.pass.first 33) (sym (ap (map (λ (j : Job M X). (j.pass, j.script))) pushed ∙ map_last (λ (j : Job M X). (j.pass, j.script)) jobs job)) dealt)

  ready_all : (h : Site) (jobs after : List (Job M X)) (job : Job M X) → after ≡ jobs ++ job ∷ [] → All (λ (j : Job M X). IsReady h j.pass j.script j.replies) jobs
      → IsReady h job.pass job.script job.replies → All (λ (j : Job M X). IsReady h j.pass j.script j.replies) after
  ready_all h jobs after job pushed all is = subst (All (λ (j : Job M X). IsReady h j.pass j.script j.replies)) (sym pushed) (All-push (λ (j : Job M X). IsReady h j.pass j.script j.replies) jobs job all is)

module _ {X : Type 0} where
  falls_on : (above : ℕ) (actor : Actor X) (left rest : List (Actor X)) → left ≡ actor ∷ rest → AreFalling above (map (λ (a : Actor X). a.script.actor) left)
      → AreFalling actor.script.actor (map (λ (a : Actor X). a.script.actor) rest)
  falls_on above actor left rest next falls = (subst (λ (l : List (Actor X)). AreFalling above (map (λ (a : Actor X). a.script.actor) l)) next falls).2

  plays_on : (h : Site) (actor : Actor X) (left rest : List (Actor X)) → left ≡ actor ∷ rest → All (λ (a : Actor X). CanPlay h.config a.script) left
      → All (λ (a : Actor X). CanPlay h.config a.script) rest
  plays_on h actor left rest next all k d near = subst (All (λ (a : Actor X). CanPlay h.config a.script)) next all (suc k) d (omega (arith, near))

pub loop-actor-preserved : goal.loop-actor-preserved
loop-actor-preserved g c =
    let i = c.loop-actor.invariant in
    let job = c.in_ok-job.job in
    let actor = c.in-Some.actor in
    let left = c.loop-actor.actor-iterator.rest.items in
    let rest = c.next.new.self.rest.items in
    let fresh = c.in_ok-job.ensures.fresh in
    let ready = c.in_ok-job.ensures.ready in
    let next = c.in-Some.ensures.steps.0 in
    let pushed = c.in_ok-push.ensures.items in (
      c.in_ok-job.ensures.rest,
      dealt_all c.args.history.now c.loop-actor.above actor.script.actor c.loop-actor.jobs.items c.push.new.self.items job pushed (sym fresh.0.4 ∙ ap (λ (s : Script). s.actor) ready.0)
          (dealt_more c.args.history.now c.loop-actor.above 33 (map (λ j. (j.pass, j.script)) c.loop-actor.jobs.items) (job.pass, job.script) i.1 fresh.0 fresh.1),
      scripts_more c.loop-actor.jobs.items c.push.new.self.items job actor left rest (map (λ a. a.script) c.args.actors.items) pushed ready.0 next i.2,
      ready_all c.args.history.now c.loop-actor.jobs.items c.push.new.self.items job pushed i.3 ready.1,
      falls_on c.loop-actor.above actor left rest next i.4,
      plays_on c.args.history.now actor left rest next i.5,
    )
