-- why `casting::placed` answers as its contract says
use Rattle.std.proofs.Common.{◌++◌, ◌∷◌, [], map, sym, ap, ◌∙◌, append_assoc, arith}
use Rattle.std.specs.Prelude.{Some}
use Rattle.actor_scripts.proofs.Lists.{map_last}
use Rattle.race_settling.proofs.SeatLaws.{every-yielded}
use Rattle.race_settling.proofs.casting.placed.Goals as goal

pub loop-gate-preserved : goal.loop-gate-preserved
loop-gate-preserved g c =
    let i = c.loop-gate.invariant in
    let done = c.loop-gate.yielded in
    let rest = c.next.new.self.rest.items in (
      c.in_ok-push.ensures.items ∙ (ap (λ l. l ++ Some c.in-Some.gate ∷ []) i.0 ∙ sym (map_last Some done c.in-Some.gate)),
      append_assoc done (c.in-Some.gate ∷ []) rest ∙ (ap (λ xs. done ++ xs) (sym c.in-Some.ensures.steps.0) ∙ i.1),
    )

pub returns : goal.returns
returns g c =
    let i = c.loop-gate.invariant in
    let r = c.loop-gate.gate-iterator.rest in
    i.0 ∙ ap (map Some) (every-yielded c.loop-gate.yielded r.items c.args.gates.items (omega (arith, r.ok, c.in-None.ensures.steps.0)) i.1)
