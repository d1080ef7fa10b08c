-- why `casting::add_roles` answers as its contract says
use Rattle.std.proofs.Common.{◌≡◌, ◌++◌, ◌∷◌, [], List, map, sym, ap, ◌∙◌, append_assoc, arith}
use Rattle.std.specs.Prelude.{Option}
use Rattle.script_plans.specs.Plans.{Script}
use Rattle.race_records.specs.Merged.{lines_in}
use Rattle.actor_scripts.proofs.Lists.{map_last}
use Rattle.race_settling.specs.Casting.{script_steps, script_place}
use Rattle.race_settling.proofs.CastLaws.{all-yielded}
use Rattle.race_settling.proofs.casting.add_roles.Goals as goal

pub loop-slot-preserved : goal.loop-slot-preserved
loop-slot-preserved c =
    let i = c.loop-slot.invariant in
    let slot : Option Script = c.in-Some.slot in
    let done : List (Option Script) = c.loop-slot.yielded in
    let rest : List (Option Script) = c.next.new.self.rest.items in
    let whole : done ++ slot ∷ rest ≡ c.args.slots.items = ap (λ (xs : List (Option Script)). done ++ xs) (sym c.in-Some.ensures.steps.0) ∙ i.2 in (
      c.in_ok-add_role.ensures.roles ∙ (ap (λ l. l ++ script_steps slot ∷ []) i.0 ∙ sym (map_last script_steps done slot)),
      c.in_ok-add_role.ensures.book ∙ (ap (λ l. l ++ lines_in slot ∷ []) i.1 ∙ sym (map_last lines_in done slot)),
      append_assoc done (slot ∷ []) rest ∙ whole,
      c.in_ok-add_role.ensures.places ∙ (ap (λ l. l ++ script_place slot ∷ []) i.3 ∙ sym (map_last script_place done slot)),
    )

pub returns-clause-roles : goal.returns-clause-roles
returns-clause-roles c =
    let i = c.loop-slot.invariant in
    let r = c.loop-slot.slot-iterator.rest in
    i.0 ∙ ap (map script_steps) (all-yielded c.loop-slot.yielded r.items c.args.slots.items (omega (arith, r.ok, c.in-None.ensures.steps.0)) i.2)

pub returns-clause-book : goal.returns-clause-book
returns-clause-book c =
    let i = c.loop-slot.invariant in
    let r = c.loop-slot.slot-iterator.rest in
    i.1 ∙ ap (map lines_in) (all-yielded c.loop-slot.yielded r.items c.args.slots.items (omega (arith, r.ok, c.in-None.ensures.steps.0)) i.2)

pub returns-clause-places : goal.returns-clause-places
returns-clause-places c =
    let i = c.loop-slot.invariant in
    let r = c.loop-slot.slot-iterator.rest in
    i.3 ∙ ap (map script_place) (all-yielded c.loop-slot.yielded r.items c.args.slots.items (omega (arith, r.ok, c.in-None.ensures.steps.0)) i.2)
