-- why `gathering::gather` answers as its contract says
use Rattle.std.proofs.Common.{◌≡◌, ◌++◌, ◌∷◌, [], List, map, sym, ap, subst, ◌∙◌, length, refl, arith, append_assoc, append-nil}
use Rattle.std.specs.List.{All}
use Rattle.bay_histories.specs.Histories.{IsLegal}
use Rattle.actor_scripts.specs.declared.part.Part.{Part}
use Rattle.script_threads.specs.declared.job.Played.{Played}
use Rattle.script_threads.specs.Playing.{IsOf}
use Rattle.script_threads.specs.Races.{AllGathered}
use Rattle.actor_scripts.proofs.Lists.{all_here}
use Rattle.script_threads.proofs.Races.{gathers_more, all_more}
use Rattle.script_threads.proofs.gathering.gather.Goals as goal

map_push : {M : Type 0} (ds : List (Played M)) (d : Played M) → map (λ (d : Played M). d.part) (ds ++ d ∷ []) ≡ map (λ (d : Played M). d.part) ds ++ d.part ∷ []
map_push [] d = refl
map_push (x ∷ ds) d = ap (λ (l : List Part). x.part ∷ l) (map_push ds d)

pub loop-played-preserved : goal.loop-played-preserved
loop-played-preserved g c =
    let i = c.loop-played.invariant in
    let d : Played g.row.M.Denot = c.in-Some.played in
    let ds : List (Played g.row.M.Denot) = c.loop-played.yielded in
    let rest : List (Played g.row.M.Denot) = c.next.new.self.rest.items in
    let e = c.joined.ensures.pass in
    let whole : ds ++ d ∷ rest ≡ c.args.all.items = ap (λ (xs : List (Played g.row.M.Denot)). ds ++ xs) (sym c.in-Some.ensures.steps.0) ∙ i.5 in
    let mine = all_here (λ (d : Played g.row.M.Denot). IsOf c.args.history.now d.pass × IsLegal g.M.StateMachine.rules c.args.history.now.config d.pass.seen) ds rest d (subst (All (λ (d : Played g.row.M.Denot). IsOf c.args.history.now d.pass × IsLegal g.M.StateMachine.rules c.args.history.now.config d.pass.seen)) (sym whole) c.requires.played) in (
      e.0,
      gathers_more c.args.pass.now c.loop-played.pass c.joined.new.pass i.1 e.1,
      c.joined.ensures.legal i.2 mine.1,
      all_more c.loop-played.pass c.joined.new.pass ds d i.3 e.1 e.2,
      map_push ds d ∙ ((λ k. i.4 k ++ sym c.joined.ensures.part k ∷ []) ∙ sym c.in_ok-push.ensures.items),
      append_assoc ds (d ∷ []) rest ∙ whole,
    )

none_left : {M : Type 0} (xs : List (Played M)) → length xs ≡ 0 → xs ≡ []
none_left [] e = refl
none_left (x ∷ xs) e = absurd (omega (arith, e))

all_yielded : {M : Type 0} (ds rest all : List (Played M)) → length rest ≡ 0 → ds ++ rest ≡ all → ds ≡ all
all_yielded {M} ds rest all none is = sym (append-nil ds) ∙ (ap (λ (xs : List (Played M)). ds ++ xs) (sym (none_left rest none)) ∙ is)

pub returns-clause-joined : goal.returns-clause-joined
returns-clause-joined g c =
    let i = c.loop-played.invariant in
    let r = c.loop-played.played-iterator.rest in
    subst (AllGathered c.loop-played.pass) (all_yielded c.loop-played.yielded r.items c.args.all.items (omega (arith, r.ok, c.in-None.ensures.steps.0)) i.5) i.3

pub returns-clause-parts : goal.returns-clause-parts
returns-clause-parts g c =
    let i = c.loop-played.invariant in
    let r = c.loop-played.played-iterator.rest in
    sym i.4 ∙ ap (map (λ (d : Played g.row.M.Denot). d.part)) (all_yielded c.loop-played.yielded r.items c.args.all.items (omega (arith, r.ok, c.in-None.ensures.steps.0)) i.5)
