-- why `bay::Bay::take_due` answers as its contract says
use Rattle.std.proofs.Common.{◌≡◌, ◌<◌, ◌∙◌, List, Some, length, max, suc, arith, refl, sym, subst, ap, slice_set, vec_capacity}
use Rattle.std.specs.Prelude.{slice_get}
use Rattle.std.specs.List.{All}
use Rattle.std.specs.Option.{option_map}
use Rattle.list_laws.proofs.Places.{all-at}
use Rattle.sv_base.specs.declared.config.Config.{Config}
use Rattle.bay_model.specs.Answers.{points}
use Rattle.bay_model.specs.declared.tables.MemberShape.{MemberShape}
use Rattle.bay_model.specs.Named.{configured_model}
use Rattle.bay_model.specs.Notes.{Kept}
use Rattle.object_model.specs.Nodes.{node_rows}
use Rattle.data_sets.specs.Books.{Book}
use Rattle.report_block.specs.declared.block.ReportBlock.{ReportBlock}
use Rattle.block_reports.specs.Again.{AreNodes}
use Rattle.block_reports.specs.Blanks.{AreFew, AreShortTexts, IsShortSet}
use Rattle.report_block.specs.Offers.{first_offered}
use Rattle.report_block.specs.Writes.{reported_by}
use Rattle.report_block.specs.Offers.{offered}
use Rattle.block_reports.specs.Reporting.{report_by}
use Rattle.bay_config.specs.Servable.{IsServable}
use Rattle.bay_core.specs.Standing.{StandsAt}
use Rattle.block_watch.specs.Served.{AreServedSets}
use Rattle.bay_core.specs.State.{State}
use Rattle.bay_core.specs.Timed.{at_arrival}
use Rattle.bay_core.specs.Whole.{IsWhole}
use Rattle.bay_core.proofs.ArriveLaws.{texts-arrived}
use Rattle.block_watch.proofs.ShapeLaws.{served-few, served_members}
use Rattle.bay_core.proofs.FurnishLaws.{part-fits}
use Rattle.bay_core.proofs.SentLaws.{whole-sent}
use Rattle.block_events.proofs.ServedLaws.{shapes-short, shapes-there}
use Rattle.bay_core.proofs.TakenLaws.{empty-for, given-for, same-part}
use Rattle.block_watch.proofs.WatchLaws.{at-place}
use Rattle.bay_core.proofs.bay.Bay.take_due.Goals as goal

pub set_of-set-requires : goal.set_of-set-requires
set_of-set-requires c =
    let u = c.self.inside in
    let block = c.in-Some.offer.block in
    let part = c.index-part.result.now in
    let within = subst (λ (ps : List ReportBlock). block < length ps) c.deref.ensures.value c.in-Some.ensures.within in
    let there = at-place u.parts.items block part within c.index-part.ensures in
    (part-fits u.model u.values u.sets u.parts.items u.watch u.octets (vec_capacity u.changes) c.self.invariant.furnished block part there).0

pub filled-report-requires-clause-few : goal.filled-report-requires-clause-few
filled-report-requires-clause-few c =
    let u = c.self.inside in
    let block = c.in-Some.offer.block in
    let part = c.index-part.result.now in
    let within = subst (λ (ps : List ReportBlock). block < length ps) c.deref.ensures.value c.in-Some.ensures.within in
    let there = at-place u.parts.items block part within c.index-part.ensures in
    let shapes = c.set_of-set.ensures ∙ (part-fits u.model u.values u.sets u.parts.items u.watch u.octets (vec_capacity u.changes) c.self.invariant.furnished block part there).1 in
    omega (arith, ap (λ (l : List MemberShape). length l) shapes, served-few u.model u.sets c.self.invariant.furnished.booked.served part.block.options.dat_set)

pub filled-report-requires-clause-nodes : goal.filled-report-requires-clause-nodes
filled-report-requires-clause-nodes c =
    let u = c.self.inside in
    let block = c.in-Some.offer.block in
    let part = c.index-part.result.now in
    let within = subst (λ (ps : List ReportBlock). block < length ps) c.deref.ensures.value c.in-Some.ensures.within in
    let there = at-place u.parts.items block part within c.index-part.ensures in
    let shapes = c.set_of-set.ensures ∙ (part-fits u.model u.values u.sets u.parts.items u.watch u.octets (vec_capacity u.changes) c.self.invariant.furnished block part there).1 in
    subst (AreNodes u.model) (sym shapes) (shapes-there u.model u.sets c.self.invariant.furnished.booked.served part.block.options.dat_set)

pub filled-report-requires-clause-short : goal.filled-report-requires-clause-short
filled-report-requires-clause-short c =
    let u = c.self.inside in
    let block = c.in-Some.offer.block in
    let part = c.index-part.result.now in
    let within = subst (λ (ps : List ReportBlock). block < length ps) c.deref.ensures.value c.in-Some.ensures.within in
    let there = at-place u.parts.items block part within c.index-part.ensures in
    let shapes = c.set_of-set.ensures ∙ (part-fits u.model u.values u.sets u.parts.items u.watch u.octets (vec_capacity u.changes) c.self.invariant.furnished block part there).1 in
    subst (IsShortSet (configured_model u.model)) (sym shapes) (shapes-short u.model u.sets c.self.invariant.furnished.booked.served part.block.options.dat_set)

pub filled-report-requires-clause-texts : goal.filled-report-requires-clause-texts
filled-report-requires-clause-texts c =
    let s = c.args.self.now in
    let u = c.self.inside in
    let block = c.in-Some.offer.block in
    let part = c.index-part.result.now in
    let within = subst (λ (ps : List ReportBlock). block < length ps) c.deref.ensures.value c.in-Some.ensures.within in
    let there = at-place u.parts.items block part within c.index-part.ensures in
    let most = c.in-Ok.blank.texts in
    let after = texts-arrived most (node_rows s.config) s.book s.stored s.latest (max s.latest c.args.moment) s.steps s.parts c.in-Ok.ensures.texts in
    let is = c.self.view_is ∙ (c.arrive.ensures.state ∙ ap (at_arrival c.args.moment) c.blank.ensures.state) in
    let all = subst (All (AreShortTexts most)) (sym (ap (λ (t : State). t.parts) is)) after in
    all-at (AreShortTexts most) u.parts.items block part all there

pub invariant_of-self : goal.invariant_of-self
invariant_of-self c =
    let u = c.self.inside in
    let block = c.in-Some.offer.block in
    let part = c.index_mut.result.now in
    let within = subst (λ (ps : List ReportBlock). block < length ps) c.deref.ensures.value c.in-Some.ensures.within in
    let there = at-place u.parts.items block part within c.index_mut.ensures.value in
    subst (λ (p : ReportBlock). IsWhole u.model u.values u.groups u.sets (slice_set u.parts.items block p) u.watch u.octets (vec_capacity u.changes) u.latest u.dues u.events u.associations.table) (sym c.sent.ensures)
    (whole-sent u.model u.values u.groups u.sets u.parts.items u.watch u.octets (vec_capacity u.changes) u.latest u.dues u.events u.associations.table block c.in-Some.offer.next.id part there c.self.invariant)

pub returns-in_default-first_offer-clause-does : goal.returns-in_default-first_offer-clause-does
returns-in_default-first_offer-clause-does c = λ c' h was.
    let u = c.self.inside in
    let z = c.arrive.new.self in
    let here = c.arrive.ensures.stands c' (length h) (points (configured_model c') h) (subst (λ (t : State). StandsAt t c' (length h) (points (configured_model c') h)) (sym c.blank.ensures.state) was.1) in
    let config : u.model ≡ c' = ap (λ (t : State). t.config) c.self.view_is ∙ here.is_config in
    let stay : z.parts ≡ u.parts.items = sym (ap (λ (t : State). t.parts) c.self.view_is) in
    let none = ap (first_offered c.args.a 0) (stay ∙ sym c.deref.ensures.value) ∙ (sym c.first_offer.ensures.first ∙ ap (option_map offered) c.in_default-first_offer.is) in
    empty-for c.args.self.now z c.count.new.self c' h c.args.moment c.args.actor c.args.a (subst IsServable config c.self.invariant.furnished.servable) c.requires.number was here c.args.actor
    (c.count.ensures ∙ ap (λ (t : State). record t { steps = suc t.steps }) c.keep.ensures) c.requires.writer refl c.requires.empty
    (ap (λ (ps : List ReportBlock). length ps) stay ∙ (c.self.invariant.furnished.count ∙ ap (λ (d : Config). length d.blocks) config)) none

pub returns-clause-does : goal.returns-clause-does
returns-clause-does c = λ c' h was.
    let u = c.self.inside in
    let z = c.arrive.new.self in
    let here = c.arrive.ensures.stands c' (length h) (points (configured_model c') h) (subst (λ (t : State). StandsAt t c' (length h) (points (configured_model c') h)) (sym c.blank.ensures.state) was.1) in
    let config : u.model ≡ c' = ap (λ (t : State). t.config) c.self.view_is ∙ here.is_config in
    let stay : z.parts ≡ u.parts.items = sym (ap (λ (t : State). t.parts) c.self.view_is) in
    let book : z.book ≡ u.sets = sym (ap (λ (t : State). t.book) c.self.view_is) in
    let booked = subst (λ (b : Book). AreServedSets c' b) (sym book) (subst (λ (m : Config). AreServedSets m u.sets) config c.self.invariant.furnished.booked.served) in
    let o = c.in-Some.offer in
    let part = c.index-part.result.now in
    let within = subst (λ (ps : List ReportBlock). o.block < length ps) c.deref.ensures.value c.in-Some.ensures.within in
    let there = at-place u.parts.items o.block part within c.index-part.ensures in
    let shapes = c.set_of-set.ensures ∙ (part-fits u.model u.values u.sets u.parts.items u.watch u.octets (vec_capacity u.changes) c.self.invariant.furnished o.block part there).1 in
    let same = same-part u.parts.items o.block c.index_mut.result.now part (at-place u.parts.items o.block c.index_mut.result.now within c.index_mut.ensures.value) there in
    let after : ReportBlock → State = λ p. record { config = u.model; steps = suc u.steps; latest = u.latest; stored = u.values; book = u.sets; parts = slice_set u.parts.items o.block p; rows = u.associations.rows; groups = u.groups; controls = u.associations.table } in
    let is = c.count-2.ensures ∙ (ap after c.sent.ensures ∙ (ap (λ p. after (reported_by o.next.id p)) same ∙ ap (λ (t : State). record t { steps = suc t.steps; parts = slice_set t.parts o.block (reported_by o.next.id part) }) c.self.view_is)) in
    let room = c.in-Ok.ensures.members in
    let is_report = subst (λ (m : Config). (ks : List Kept) → AreFew 256 (offered o).entry.kept ks → c.filled-report.result.0 ≡ report_by (configured_model m) c.set_of-set.result part (offered o) ks) config
    (λ ks few. c.filled-report.ensures.report ks (subst (λ n. AreFew n (offered o).entry.kept ks) (sym room) few)) in
    given-for c.args.self.now z c.count-2.new.self c' h c.args.moment c.args.actor c.args.a (subst IsServable config c.self.invariant.furnished.servable) c.requires.number was here c.args.actor (offered o) c.set_of-set.result part c.filled-report.result.0
    is c.requires.writer refl c.requires.empty (ap (λ (ps : List ReportBlock). length ps) stay ∙ (c.self.invariant.furnished.count ∙ ap (λ (d : Config). length d.blocks) config))
    (ap (first_offered c.args.a 0) (stay ∙ sym c.deref.ensures.value) ∙ (sym c.first_offer.ensures.first ∙ ap (option_map offered) c.in-Some.is)) (subst (λ (ps : List ReportBlock). slice_get ps o.block ≡ Some part) (sym stay) there)
    booked (subst (λ (b : Book). c.set_of-set.result ≡ served_members c' b part.block.options.dat_set) (sym book) (subst (λ (m : Config). c.set_of-set.result ≡ served_members m u.sets part.block.options.dat_set) config shapes)) is_report
