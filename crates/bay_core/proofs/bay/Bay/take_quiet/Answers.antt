-- why `bay::Bay::take_quiet` answers as its contract says
use Rattle.std.proofs.Common.{◌≡◌, ◌<◌, length, Some, List, arith, refl, sym, subst, ap, ◌∙◌, slice_set, suc, vec_capacity}
use Rattle.std.specs.Prelude.{slice_get}
use Rattle.std.specs.Option.{option_map}
use Rattle.sv_base.specs.declared.config.Config.{Config}
use Rattle.bay_model.specs.Answers.{points}
use Rattle.bay_model.specs.Named.{configured_model}
use Rattle.bay_model.specs.Notes.{Kept}
use Rattle.report_block.specs.declared.block.ReportBlock.{ReportBlock}
use Rattle.block_reports.specs.Again.{AreKept, AreNodes}
use Rattle.report_block.specs.Offers.{first_offered}
use Rattle.report_block.specs.Writes.{reported_by}
use Rattle.report_block.specs.Offers.{offered}
use Rattle.block_reports.specs.Reporting.{report_by}
use Rattle.bay_config.specs.Servable.{IsServable}
use Rattle.bay_core.specs.Standing.{StandsAt}
use Rattle.data_sets.specs.Books.{Book}
use Rattle.block_watch.specs.Served.{AreServedSets}
use Rattle.bay_core.specs.State.{State}
use Rattle.bay_core.specs.Timed.{at_arrival}
use Rattle.bay_core.specs.Whole.{IsWhole}
use Rattle.block_watch.proofs.ShapeLaws.{served-few, served_members}
use Rattle.bay_core.proofs.FurnishLaws.{part-fits}
use Rattle.bay_core.proofs.SentLaws.{whole-sent}
use Rattle.block_events.proofs.ServedLaws.{shapes-there}
use Rattle.bay_core.proofs.TakenLaws.{empty-for, given-for, same-part}
use Rattle.block_watch.proofs.WatchLaws.{at-place}
use Rattle.bay_core.proofs.bay.Bay.take_quiet.Goals as goal

pub set_of-set-requires : goal.set_of-set-requires
set_of-set-requires c =
    let s = c.self.inside in
    let block = c.in-Some.offer.block in
    let within = subst (λ (ps : List ReportBlock). block < length ps) c.deref.ensures.value c.in-Some.ensures.within in
    (part-fits s.model s.values s.sets s.parts.items s.watch s.octets (vec_capacity s.changes) c.self.invariant.furnished block c.index-part.result.now
    (at-place s.parts.items block c.index-part.result.now within c.index-part.ensures)).0

pub report_of-requires-clause-few : goal.report_of-requires-clause-few
report_of-requires-clause-few c =
    let s = c.self.inside in
    let block = c.in-Some.offer.block in
    let within = subst (λ (ps : List ReportBlock). block < length ps) c.deref.ensures.value c.in-Some.ensures.within in
    let shapes = c.set_of-set.ensures ∙ (part-fits s.model s.values s.sets s.parts.items s.watch s.octets (vec_capacity s.changes) c.self.invariant.furnished block c.index-part.result.now
    (at-place s.parts.items block c.index-part.result.now within c.index-part.ensures)).1 in
    omega (arith, ap length shapes, served-few s.model s.sets c.self.invariant.furnished.booked.served c.index-part.result.now.block.options.dat_set)

pub report_of-requires-clause-nodes : goal.report_of-requires-clause-nodes
report_of-requires-clause-nodes c =
    let s = c.self.inside in
    let block = c.in-Some.offer.block in
    let within = subst (λ (ps : List ReportBlock). block < length ps) c.deref.ensures.value c.in-Some.ensures.within in
    let shapes = c.set_of-set.ensures ∙ (part-fits s.model s.values s.sets s.parts.items s.watch s.octets (vec_capacity s.changes) c.self.invariant.furnished block c.index-part.result.now
    (at-place s.parts.items block c.index-part.result.now within c.index-part.ensures)).1 in
    subst (AreNodes s.model) (sym shapes) (shapes-there s.model s.sets c.self.invariant.furnished.booked.served c.index-part.result.now.block.options.dat_set)

pub index_mut-requires : goal.index_mut-requires
index_mut-requires c =
    let within = subst (λ (ps : List ReportBlock). c.in-Some.offer.block < length ps) c.deref.ensures.value c.in-Some.ensures.within in
    let stay = ap (λ (t : State). t.parts) (c.self-2.view_is ∙ (c.arrive-2.ensures.state ∙ (ap (at_arrival c.args.moment) c.self.view_is ∙ c.requires.quiet))) ∙ sym (ap (λ (t : State). t.parts) c.self.view_is) in
    let below : c.in-Some.offer.block < length c.self-2.inside.parts.items = subst (λ (ps : List ReportBlock). c.in-Some.offer.block < length ps) (sym stay) within in
    omega (arith, below, c.self-2.inside.parts.ok.0)

pub invariant_of-self-3 : goal.invariant_of-self-3
invariant_of-self-3 c =
    let s = c.self-2.inside in
    let block = c.in-Some.offer.block in
    let within = subst (λ (ps : List ReportBlock). block < length ps) c.deref.ensures.value c.in-Some.ensures.within in
    let stay = ap (λ (t : State). t.parts) (c.self-2.view_is ∙ (c.arrive-2.ensures.state ∙ (ap (at_arrival c.args.moment) c.self.view_is ∙ c.requires.quiet))) ∙ sym (ap (λ (t : State). t.parts) c.self.view_is) in
    let below : block < length s.parts.items = subst (λ (ps : List ReportBlock). block < length ps) (sym stay) within in
    let part = c.index_mut.result.now in
    let there = at-place s.parts.items block part below c.index_mut.ensures.value in
    subst (λ (p : ReportBlock). IsWhole s.model s.values s.groups s.sets (slice_set s.parts.items block p) s.watch s.octets (vec_capacity s.changes) s.latest s.dues s.events s.associations.table) (sym c.sent.ensures)
    (whole-sent s.model s.values s.groups s.sets s.parts.items s.watch s.octets (vec_capacity s.changes) s.latest s.dues s.events s.associations.table block c.in-Some.offer.next.id part there c.self-2.invariant)

pub returns-in_default-clause-does : goal.returns-in_default-clause-does
returns-in_default-clause-does c = λ c' h was.
    let config : c.self.inside.model ≡ c' = ap (λ (t : State). t.config) c.self.view_is ∙ was.1.is_config in
    let here = c.arrive.ensures.stands c' (length h) (points (configured_model c') h) was.1 in
    let stay = ap (λ (t : State). t.parts) (c.arrive.ensures.state ∙ c.requires.quiet) ∙ sym (ap (λ (t : State). t.parts) c.self.view_is) in
    let none = ap (first_offered c.args.a 0) (stay ∙ sym c.deref.ensures.value) ∙ (sym c.first_offer.ensures.first ∙ ap (option_map offered) c.in_default.is) in
    empty-for c.args.self.now c.arrive.new.self c.count.new.self c' h c.args.moment c.args.actor c.args.a (subst IsServable config c.self.invariant.furnished.servable) c.requires.number was here c.args.actor c.count.ensures c.requires.writer refl c.requires.empty
    (ap (λ (ps : List ReportBlock). length ps) stay ∙ (c.self.invariant.furnished.count ∙ ap (λ (d : Config). length d.blocks) config)) none

pub returns-clause-does : goal.returns-clause-does
returns-clause-does c = λ c' h was.
    let s = c.self.inside in
    let u = c.self-2.inside in
    let z = c.arrive-2.new.self in
    let config : s.model ≡ c' = ap (λ (t : State). t.config) c.self.view_is ∙ was.1.is_config in
    let here = c.arrive-2.ensures.stands c' (length h) (points (configured_model c') h) (subst (λ (t : State). StandsAt t c' (length h) (points (configured_model c') h)) (sym c.self.view_is) was.1) in
    let stay : z.parts ≡ s.parts.items = ap (λ (t : State). t.parts) (c.arrive-2.ensures.state ∙ (ap (at_arrival c.args.moment) c.self.view_is ∙ c.requires.quiet)) ∙ sym (ap (λ (t : State). t.parts) c.self.view_is) in
    let o = c.in-Some.offer in
    let part = c.index-part.result.now in
    let within = subst (λ (ps : List ReportBlock). o.block < length ps) c.deref.ensures.value c.in-Some.ensures.within in
    let there = at-place s.parts.items o.block part within c.index-part.ensures in
    let shapes = c.set_of-set.ensures ∙ (part-fits s.model s.values s.sets s.parts.items s.watch s.octets (vec_capacity s.changes) c.self.invariant.furnished o.block part there).1 in
    let book : z.book ≡ s.sets = ap (λ (t : State). t.book) (c.arrive-2.ensures.state ∙ ap (at_arrival c.args.moment) c.self.view_is) ∙ sym (ap (λ (t : State). t.book) c.self.view_is) in
    let booked = subst (λ (b : Book). AreServedSets c' b) (sym book) (subst (λ (m : Config). AreServedSets m s.sets) config c.self.invariant.furnished.booked.served) in
    let moved : u.parts.items ≡ s.parts.items = ap (λ (t : State). t.parts) c.self-2.view_is ∙ stay in
    let below : o.block < length u.parts.items = subst (λ (ps : List ReportBlock). o.block < length ps) (sym moved) within in
    let again = subst (λ (ps : List ReportBlock). slice_get ps o.block ≡ Some c.index_mut.result.now) moved (at-place u.parts.items o.block c.index_mut.result.now below c.index_mut.ensures.value) in
    let same = same-part s.parts.items o.block c.index_mut.result.now part again there in
    let after : ReportBlock → State = λ p. record { config = u.model; steps = suc u.steps; latest = u.latest; stored = u.values; book = u.sets; parts = slice_set u.parts.items o.block p; rows = u.associations.rows; groups = u.groups; controls = u.associations.table } in
    let is = c.count-2.ensures ∙ (ap after c.sent.ensures ∙ (ap (λ p. after (reported_by o.next.id p)) same ∙ ap (λ (t : State). record t { steps = suc t.steps; parts = slice_set t.parts o.block (reported_by o.next.id part) }) c.self-2.view_is)) in
    let is_report = subst (λ (m : Config). (ks : List Kept) → AreKept (offered o).entry.kept ks → c.in-Ok.report ≡ report_by (configured_model m) c.set_of-set.result part (offered o) ks) config c.in-Ok.ensures in
    given-for c.args.self.now z c.count-2.new.self c' h c.args.moment c.args.actor c.args.a (subst IsServable config c.self.invariant.furnished.servable) c.requires.number was here c.args.actor (offered o) c.set_of-set.result part c.in-Ok.report
    is c.requires.writer refl c.requires.empty (ap (λ (ps : List ReportBlock). length ps) stay ∙ (c.self.invariant.furnished.count ∙ ap (λ (d : Config). length d.blocks) config))
    (ap (first_offered c.args.a 0) (stay ∙ sym c.deref.ensures.value) ∙ (sym c.first_offer.ensures.first ∙ ap (option_map offered) c.in-Some.is)) (subst (λ (ps : List ReportBlock). slice_get ps o.block ≡ Some part) (sym stay) there)
    booked (subst (λ (b : Book). c.set_of-set.result ≡ served_members c' b part.block.options.dat_set) (sym book) (subst (λ (m : Config). c.set_of-set.result ≡ served_members m s.sets part.block.options.dat_set) config shapes)) (λ ks few. is_report ks few.kept)
