-- why `reading::read_all` answers as its contract says
use Rattle.std.proofs.Common.{◌≡◌, ◌∙◌, ◌++◌, ◌+◌, ℕ, List, [], ◌∷◌, take, drop, ap, ap₂, sym, subst, arith, add-one}
use Rattle.std.specs.Prelude.{Result}
use Rattle.std.proofs.lemmas.List.{drop_more, drop_all, take-append-drop}
use Rattle.sv_base.specs.declared.value.Value.{Value}
use Rattle.bay_model.specs.declared.request.Target.{Target}
use Rattle.control_core.specs.Tables.{Table}
use Rattle.bay_queues.specs.Queued.{Queued, configs}
use Rattle.bay_replies.specs.Reading.{selecting_in}
use Rattle.bay_core.specs.Turned.{after_turn, after_turns, in_turns, with_turn}
use Rattle.bay_core.proofs.TurnLaws.{place-next, turn-configs}
use Rattle.bay_core.proofs.reading.read_all.Goals as goal

pub read_in_turn-requires-clause-controls : goal.read_in_turn-requires-clause-controls
read_in_turn-requires-clause-controls c = c.loop-place.invariant.configs ∙ c.requires.controls

pub loop-place-preserved : goal.loop-place-preserved
loop-place-preserved c =
    let inv = c.loop-place.invariant in
    let m = c.args.model.now in
    let a = c.args.a.0 in
    let i = c.loop-place.place in
    let ts = c.args.targets.now in
    let x = c.index-targets-place.result in
    let t = c.loop-place.queues.table in
    let rs = c.loop-place.results.items in
    let others = drop (i + 1) ts in
    let rest : drop i ts ≡ x ∷ others = drop_more ts i x c.loop-place-test.true ∙ ap (λ (y : Target). y ∷ others) (sym c.index-targets-place.is) in
    let next = ap (λ (q : Queued). q.table) c.read_in_turn.ensures.controls in
    let more = subst (λ (j : ℕ). take j (with_turn i (selecting_in m x) t rs) ++ in_turns a m others (after_turn a (selecting_in m x) t) (drop j (with_turn i (selecting_in m x) t rs)) ≡ take i rs ++ in_turns a m (x ∷ others) t (drop i rs))
    (sym (add-one i)) (place-next a m i x others t rs) in
    record {
      rows = ap (λ (q : Queued). q.rows) c.read_in_turn.ensures.controls ∙ inv.rows;
      configs = ap configs next ∙ (turn-configs a (selecting_in m x) t ∙ inv.configs);
      controls = ap (after_turns a m others) next ∙ (ap (λ (l : List Target). after_turns a m l t) (sym rest) ∙ inv.controls);
      results = ap₂ (λ (u : Table) (l : List (Result Value ℕ)). take (i + 1) l ++ in_turns a m others u (drop (i + 1) l)) next c.read_in_turn.ensures.result
          ∙ (more ∙ (ap (λ (l : List Target). take i rs ++ in_turns a m l t (drop i rs)) (sym rest) ∙ inv.results));
    }

pub returns-clause-controls : goal.returns-clause-controls
returns-clause-controls c =
    let inv = c.loop-place.invariant in
    let none : drop c.loop-place.place c.args.targets.now ≡ [] = drop_all c.loop-place.place c.args.targets.now (omega (arith, c.loop-place-test.false)) in
    ap₂ (λ rows (t : Table). record { rows = rows; table = t }) inv.rows (ap (λ (l : List Target). after_turns c.args.a.0 c.args.model.now l c.loop-place.queues.table) (sym none) ∙ inv.controls)

pub returns-clause-results : goal.returns-clause-results
returns-clause-results c =
    let i = c.loop-place.place in
    let rs = c.loop-place.results.items in
    let none : drop i c.args.targets.now ≡ [] = drop_all i c.args.targets.now (omega (arith, c.loop-place-test.false)) in
    sym (take-append-drop i rs) ∙ (ap (λ (l : List Target). take i rs ++ in_turns c.args.a.0 c.args.model.now l c.loop-place.queues.table (drop i rs)) (sym none) ∙ c.loop-place.invariant.results)
