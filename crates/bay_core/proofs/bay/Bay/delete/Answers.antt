-- why `bay::Bay::delete` answers as its contract says
use Rattle.std.proofs.Common.{◌≡◌, Result, Ok, sym, subst, vec_capacity}
use Rattle.data_sets.specs.declared.book.DeleteFault.{DeleteFault}
use Rattle.data_sets.specs.Books.{Book}
use Rattle.bay_core.specs.Deleted.{deletion_at}
use Rattle.bay_core.specs.State.{State}
use Rattle.bay_core.specs.Whole.{IsWhole}
use Rattle.bay_core.proofs.DeletionLaws.{going-is}
use Rattle.bay_core.proofs.RemoveLaws.{name-there, whole-deleted}
use Rattle.bay_core.proofs.bay.Bay.delete.Goals as goal

pub delete-requires-clause-to : goal.delete-requires-clause-to
delete-requires-clause-to c =
    let s = c.self.inside in
    let z : State = record { config = s.model; steps = s.steps; latest = s.latest; stored = s.values; book = s.sets; parts = s.parts.items; rows = s.associations.rows; groups = s.groups; controls = s.associations.table } in
    let is = subst (λ (t : State). ◌≡◌ {A = Result _ DeleteFault} (deletion_at t c.args.name.now) (Ok c.in_ok-number.number)) (sym c.self.view_is) (sym c.in_ok-number.ensures) in
    (name-there s.sets c.args.name.now c.in_ok-number.number (going-is z c.args.name.now c.in_ok-number.number is).number).0

pub invariant_of-self : goal.invariant_of-self
invariant_of-self c =
    let s = c.self.inside in
    let k = c.in_ok-number.number in
    let z : State = record { config = s.model; steps = s.steps; latest = s.latest; stored = s.values; book = s.sets; parts = s.parts.items; rows = s.associations.rows; groups = s.groups; controls = s.associations.table } in
    let is = subst (λ (t : State). ◌≡◌ {A = Result _ DeleteFault} (deletion_at t c.args.name.now) (Ok k)) (sym c.self.view_is) (sym c.in_ok-number.ensures) in
    let goes = going-is z c.args.name.now k is in
    subst (λ (b : Book). IsWhole s.model s.values s.groups b c.renumber_all.new.parts.items s.watch s.octets (vec_capacity s.changes) s.latest s.dues s.events s.associations.table) (sym c.delete.ensures)
    (whole-deleted s.model s.values s.groups s.sets s.parts.items c.renumber_all.new.parts.items s.watch s.octets (vec_capacity s.changes) s.latest s.dues s.events s.associations.table c.args.name.now k
    goes.number goes.from goes.unused c.renumber_all.ensures c.self.invariant)
