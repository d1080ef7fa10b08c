-- why `member_rooms::member_reference_in` answers as its contract says
use Rattle.std.proofs.Common.{◌∙◌, arith, sym}
use Rattle.bay_model.specs.Named.{configured_model}
use Rattle.block_reports.proofs.AgainLaws.{reference-found, reference-missing, reference-short}
use Rattle.block_reports.proofs.member_rooms.member_reference_in.Goals as goal

pub reference_in-requires-clause-room : goal.reference_in-requires-clause-room
reference_in-requires-clause-room c =
    let short = reference-short (configured_model c.args.model.now) c.args.set.now c.args.number c.saturating_sub.result c.in-Some.shape.now
    c.requires.short c.saturating_sub.ensures c.in-Some.ensures in
    omega (arith, short, c.requires.room)

pub returns-in-Some : goal.returns-in-Some
returns-in-Some c =
    c.reference_in.ensures
    ∙ sym (reference-found (configured_model c.args.model.now) c.args.set.now c.args.number c.saturating_sub.result c.in-Some.shape.now
    c.saturating_sub.ensures c.in-Some.ensures)

pub returns-in-None : goal.returns-in-None
returns-in-None c =
    (c.from_vec.ensures ∙ c.copied_in.ensures)
    ∙ sym (reference-missing (configured_model c.args.model.now) c.args.set.now c.args.number c.saturating_sub.result
    c.saturating_sub.ensures c.in-None.ensures)
