-- why `racing::play_scripts` answers as its contract says
use Rattle.std.proofs.Common.{◌≡◌, ℕ, ◌<◌, List, map, length, get_or, sym, subst, ◌∙◌, arith}
use Rattle.std.proofs.lemmas.List.{length-map}
use Rattle.bay_model.specs.Answers.{History}
use Rattle.bay_histories.specs.Rules.{Rules}
use Rattle.bay_histories.specs.Histories.{IsLegal}
use Rattle.history_lock.specs.Passes.{Site, Known, HasNumber}
use Rattle.actor_scripts.specs.declared.script.Script.{Script}
use Rattle.actor_scripts.specs.declared.part.Part.{Part}
use Rattle.script_threads.specs.declared.job.Job.{Job}
use Rattle.script_threads.specs.declared.job.Played.{Played}
use Rattle.script_threads.specs.Playing.{Went}
use Rattle.script_threads.specs.Dealing.{IsRest, Dealt, AllWent}
use Rattle.actor_scripts.specs.Raced.{IsRaced}
use Rattle.script_threads.specs.Races.{HasNoOthers, Gathers, AllGathered}
use Rattle.actor_scripts.proofs.Lists.{ok_with}
use Rattle.script_threads.proofs.Races.{went_all, all_fine, all_held, raced, scripts_paired, scripts_of}
use Rattle.script_threads.proofs.racing.play_scripts.Goals as goal

module _ {M X : Type 0} (rules : Rules) (h : Site) (p : Known) (jobs : List (Job M X)) (ds : List (Played M)) where
  abbrev pairs : List (Known × Script)
  pairs = map (λ (j : Job M X). (j.pass, j.script)) jobs

  went_jobs : length ds ≡ length jobs
      → ((i : ℕ) (x : Known × Script) (d : Played M) → i < length jobs
      → Went rules (get_or (map (λ (j : Job M X). (j.pass, j.script)) jobs) i x).0 (get_or (map (λ (j : Job M X). (j.pass, j.script)) jobs) i x).1 (get_or ds i d))
      → AllWent rules (map (λ (j : Job M X). (j.pass, j.script)) jobs) ds
  went_jobs same each =
      let long : length (map (λ (j : Job M X). (j.pass, j.script)) jobs) ≡ length jobs = length-map {B = Known × Script} jobs (λ (j : Job M X). (j.pass, j.script)) in
      went_all rules pairs ds (omega (arith, same, long)) (λ i x d near. each i x d (omega (arith, near, long)))

  numbers_held : (q : Known) → IsRest h p.count p → Dealt h p.count 33 (map (λ (j : Job M X). (j.pass, j.script)) jobs) → AllWent rules (map (λ (j : Job M X). (j.pass, j.script)) jobs) ds
      → Gathers p q → AllGathered q ds → (k : ℕ) → k < 33 → HasNumber q k
  numbers_held q rest dealt went own gathered k near = (all_held rules h p 33 pairs ds q rest.1 rest.4 dealt went own gathered k near).0

  raced_jobs : (q : Known) (scripts : List Script) (parts : List Part) → IsRest h p.count p → Dealt h p.count 33 (map (λ (j : Job M X). (j.pass, j.script)) jobs)
      → AllWent rules (map (λ (j : Job M X). (j.pass, j.script)) jobs) ds → Gathers p q → AllGathered q ds → IsLegal rules h.config q.seen
      → map (λ (j : Job M X). j.script) jobs ≡ scripts → parts ≡ map (λ (d : Played M). d.part) ds → HasNoOthers q.seen → IsRaced rules h.config scripts parts q.seen
  raced_jobs q scripts parts rest dealt went own gathered legal are told others =
      subst (λ (ss : List Script). IsRaced rules h.config ss parts q.seen) (scripts_paired jobs ∙ are)
      (subst (λ (ps : List Part). IsRaced rules h.config (scripts_of pairs) ps q.seen) (sym told) (raced rules h p q pairs ds rest dealt went own gathered legal others))

pub gather-requires-clause-played : goal.gather-requires-clause-played
gather-requires-clause-played g c κs within =
    let jobs = c.in_ok-jobs.jobs.items in
    let ds = c.in_ok-all.all.items in
    let h : Site = c.args.history.now in
    let p : Known = c.deal.new.pass in
    all_fine g.M.StateMachine.rules h p.count 33 (map (λ j. (j.pass, j.script)) jobs) ds c.in_ok-jobs.ensures.dealt (went_jobs g.M.StateMachine.rules h p jobs ds c.in_ok-all.ensures.len c.in_ok-all.ensures.each)

pub gather-requires-clause-pass : goal.gather-requires-clause-pass
gather-requires-clause-pass g c κs within =
    let rest = c.in_ok-jobs.ensures.rest in
    (rest.0, subst (λ (l : History). IsLegal g.M.StateMachine.rules c.args.history.now.config l) (sym rest.4) tt)

pub returns-clause-numbers : goal.returns-clause-numbers
returns-clause-numbers g c =
    let jobs = c.in_ok-jobs.jobs.items in
    let ds = c.in_ok-all.all.items in
    let h : Site = c.args.history.now in
    let p : Known = c.deal.new.pass in
    let went = went_jobs g.M.StateMachine.rules h p jobs ds c.in_ok-all.ensures.len c.in_ok-all.ensures.each in
    ok_with _ _ _ _ c.gather.result c.gather.ensures.parts c.gather.ensures.pass c.gather.ensures.joined
    (λ v parts pass joined. (pass.0.0, numbers_held g.M.StateMachine.rules h p jobs ds c.gather.new.pass c.in_ok-jobs.ensures.rest c.in_ok-jobs.ensures.dealt went pass.1 joined))

pub returns-clause-raced : goal.returns-clause-raced
returns-clause-raced g c =
    let jobs = c.in_ok-jobs.jobs.items in
    let ds = c.in_ok-all.all.items in
    let h : Site = c.args.history.now in
    let p : Known = c.deal.new.pass in
    let went = went_jobs g.M.StateMachine.rules h p jobs ds c.in_ok-all.ensures.len c.in_ok-all.ensures.each in
    ok_with _ _ _ _ c.gather.result c.gather.ensures.parts c.gather.ensures.pass c.gather.ensures.joined
    (λ v parts pass joined. raced_jobs g.M.StateMachine.rules h p jobs ds c.gather.new.pass (map (λ a. a.script) c.args.actors.items) v.items c.in_ok-jobs.ensures.rest c.in_ok-jobs.ensures.dealt went pass.1 joined pass.2
    c.in_ok-jobs.ensures.scripts parts)
