-- why `bay::Bay::write_copy` answers as its contract says
use Rattle.std.proofs.Common.{◌<◌, length, sym, subst}
use Rattle.std.specs.Prelude.{◌+◌}
use Rattle.bay_model.specs.Lookups.{attr_of}
use Rattle.bay_model.specs.Writes.{write_attribute}
use Rattle.setting_groups.proofs.FirstLaws.{within}
use Rattle.bay_replies.specs.Given.{copies_from}
use Rattle.bay_core.specs.Asked.{IsWrite}
use Rattle.bay_core.specs.State.{State}
use Rattle.bay_core.proofs.GroupLaws.{copy-done, fit-done}
use Rattle.bay_core.proofs.bay.Bay.write_copy.Goals as goal

pub write_se-requires-clause-domain : goal.write_se-requires-clause-domain
write_se-requires-clause-domain c =
    let s = c.self.inside in
    let whole = c.self.invariant in
    let there : c.args.place < length s.groups.settings = subst (λ (t : State). c.args.place < length t.groups.settings) (sym c.self.view_is) c.requires.there in
    within s.model whole.furnished.servable.grouped s.groups whole.grouped.framed c.args.place there

pub invariant_of-self : goal.invariant_of-self
invariant_of-self c =
    let s = c.self.inside in
    let z : State = record { config = s.model; steps = s.steps; latest = s.latest; stored = s.values; book = s.sets; parts = s.parts.items; rows = s.associations.rows; groups = s.groups; controls = s.associations.table } in
    let whole = c.self.invariant in
    let fit = whole.furnished in
    let there : c.args.place < length s.groups.settings = subst (λ (t : State). c.args.place < length t.groups.settings) (sym c.self.view_is) c.requires.there in
    record {
      furnished = fit;
      grouped = fit-done z fit.servable fit.values whole.grouped c.args.a.0 c.args.place c.args.value.now there c.write_se.new.self c.write_se.result c.write_se.ensures.answer c.write_se.ensures.set c.write_se.ensures.kept c.requires.sound;
      quiet = whole.quiet;
      roomy = whole.roomy;
      controls = whole.controls;
    }

pub returns-clause-written : goal.returns-clause-written
returns-clause-written c =
    let s = c.self.inside in
    let z : State = record { config = s.model; steps = s.steps; latest = s.latest; stored = s.values; book = s.sets; parts = s.parts.items; rows = s.associations.rows; groups = s.groups; controls = s.associations.table } in
    let whole = c.self.invariant in
    let fit = whole.furnished in
    let there : c.args.place < length s.groups.settings = subst (λ (t : State). c.args.place < length t.groups.settings) (sym c.self.view_is) c.requires.there in
    subst (λ (w : State). IsWrite w (record z { groups = c.write_se.new.self }) (λ m past. write_attribute m c.args.a.0 (copies_from w.stored w.groups + c.args.place) c.args.value.now (attr_of m (copies_from w.stored w.groups + c.args.place)).access past) c.write_se.result) c.self.view_is
    (copy-done z fit.servable fit.values whole.grouped c.args.a.0 c.args.place c.args.value.now there c.write_se.new.self c.write_se.result c.write_se.ensures.answer c.write_se.ensures.set c.write_se.ensures.kept)
