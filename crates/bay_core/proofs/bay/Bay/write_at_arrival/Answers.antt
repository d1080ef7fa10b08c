-- why `bay::Bay::write_at_arrival` answers as its contract says
use Rattle.std.proofs.Common.{◌≡◌, ◌<◌, ◌∙◌, ℕ, List, Option, Some, length, slice_set, ap, ap₂, sym, subst, refl, arith, vec_capacity}
use Rattle.std.specs.Prelude.{slice_get}
use Rattle.std.specs.List.{All}
use Rattle.list_laws.proofs.Places.{all-at}
use Rattle.bay_model.specs.declared.tables.MemberShape.{MemberShape}
use Rattle.object_model.specs.Nodes.{node_rows}
use Rattle.value_store.specs.Stored.{Stored}
use Rattle.report_block.specs.EntryOctets.{IsWritable}
use Rattle.block_events.specs.Events.{IsReady}
use Rattle.report_block.specs.declared.block.ReportBlock.{ReportBlock}
use Rattle.report_block.specs.Alls.{all_pieces, for_general}
use Rattle.report_block.specs.Components.{after_writing}
use Rattle.report_block.specs.Due.{IsBefore}
use Rattle.report_block.specs.Writes.{without_effect, write_answer}
use Rattle.bay_core.specs.Put.{answer_at, written_at, IsOpenAt}
use Rattle.bay_core.specs.State.{State}
use Rattle.bay_core.specs.Written.{named_by}
use Rattle.block_events.specs.Timed.{AreQuietUntil}
use Rattle.block_watch.specs.Watched.{members_in}
use Rattle.block_events.proofs.QuietLaws.{quiet-set}
use Rattle.bay_core.proofs.TakenLaws.{same-part}
use Rattle.bay_core.proofs.ArriveLaws.{HasAll, general-are}
use Rattle.bay_core.proofs.WrittenLaws.{written-at}
use Rattle.block_watch.proofs.BookLaws.{part-lent}
use Rattle.bay_core.proofs.SettingLaws.{are-ready, have-members}
use Rattle.block_watch.proofs.WatchLaws.{at-place}
use Rattle.bay_core.proofs.bay.Bay.write_at_arrival.Goals as goal

pub owner_of-requires-clause-is_open : goal.owner_of-requires-clause-is_open
owner_of-requires-clause-is_open c = subst (λ (t : State). IsOpenAt t c.args.a.0) (sym c.self.view_is) c.requires.is_open

pub set_of-set-requires : goal.set_of-set-requires
set_of-set-requires c =
    let s = c.self.inside in
    let parts = s.parts.items in
    let b = c.args.b.0 in
    let part = c.index_mut-part.result.now in
    let fit = c.self.invariant.furnished in
    let below : b < length parts = subst (λ (t : State). b < length t.parts) (sym c.self.view_is) c.requires.there in
    let there = at-place parts b part below c.index_mut-part.ensures.value in
    part-lent s.model s.sets fit.booked.served part (fit.sets b part there)

pub write_any-answer-requires-clause-few : goal.write_any-answer-requires-clause-few
write_any-answer-requires-clause-few c =
    let s = c.self.inside in
    let parts = s.parts.items in
    let b = c.args.b.0 in
    let part = c.index_mut-part.result.now in
    let fit = c.self.invariant.furnished in
    let below : b < length parts = subst (λ (t : State). b < length t.parts) (sym c.self.view_is) c.requires.there in
    let there = at-place parts b part below c.index_mut-part.ensures.value in
    let ready = all-at (IsReady (node_rows s.model) s.sets s.values) parts b part (are-ready s.model (node_rows s.model) s.values s.values s.sets parts s.watch s.octets (vec_capacity s.changes) refl fit fit.values) there in
    omega (arith, ap (λ (l : List MemberShape). length l) c.set_of-set.ensures, ready.few)

pub write_any-answer-requires-clause-members : goal.write_any-answer-requires-clause-members
write_any-answer-requires-clause-members c =
    let s = c.self.inside in
    let parts = s.parts.items in
    let b = c.args.b.0 in
    let part = c.index_mut-part.result.now in
    let fit = c.self.invariant.furnished in
    let below : b < length parts = subst (λ (t : State). b < length t.parts) (sym c.self.view_is) c.requires.there in
    let there = at-place parts b part below c.index_mut-part.ensures.value in
    let ready = all-at (IsReady (node_rows s.model) s.sets s.values) parts b part (are-ready s.model (node_rows s.model) s.values s.values s.sets parts s.watch s.octets (vec_capacity s.changes) refl fit fit.values) there in
    subst (λ (l : List Stored). All (IsWritable l) c.set_of-set.result) (sym c.store.ensures) (subst (All (IsWritable s.values)) (sym c.set_of-set.ensures) ready.writable)

pub write_any-answer-requires-clause-room : goal.write_any-answer-requires-clause-room
write_any-answer-requires-clause-room c =
    let s = c.self.inside in
    let parts = s.parts.items in
    let b = c.args.b.0 in
    let part = c.index_mut-part.result.now in
    let fit = c.self.invariant.furnished in
    let below : b < length parts = subst (λ (t : State). b < length t.parts) (sym c.self.view_is) c.requires.there in
    let there = at-place parts b part below c.index_mut-part.ensures.value in
    let ready = all-at (IsReady (node_rows s.model) s.sets s.values) parts b part (are-ready s.model (node_rows s.model) s.values s.values s.sets parts s.watch s.octets (vec_capacity s.changes) refl fit fit.values) there in
    omega (arith, ap (λ (l : List MemberShape). length l) c.set_of-set.ensures, ready.few, fit.entry)

pub write_any-answer-requires-clause-window : goal.write_any-answer-requires-clause-window
write_any-answer-requires-clause-window c =
    let s = c.self.inside in
    let parts = s.parts.items in
    let b = c.args.b.0 in
    let part = c.index_mut-part.result.now in
    let fit = c.self.invariant.furnished in
    let below : b < length parts = subst (λ (t : State). b < length t.parts) (sym c.self.view_is) c.requires.there in
    let there = at-place parts b part below c.index_mut-part.ensures.value in
    let ready = all-at (IsReady (node_rows s.model) s.sets s.values) parts b part (are-ready s.model (node_rows s.model) s.values s.values s.sets parts s.watch s.octets (vec_capacity s.changes) refl fit fit.values) there in
    omega (arith, ready.gathers, fit.entry)

pub follow-requires : goal.follow-requires
follow-requires c =
    let s = c.self.inside in
    let parts = s.parts.items in
    let b = c.args.b.0 in
    let part = c.index_mut-part.result.now in
    let fit = c.self.invariant.furnished in
    let below : b < length parts = subst (λ (t : State). b < length t.parts) (sym c.self.view_is) c.requires.there in
    let there = at-place parts b part below c.index_mut-part.ensures.value in
    let v = c.args.value.now in
    let o = c.owner_of.result in
    let named = c.set_named.result in
    let all = all_pieces s.values (members_in (node_rows s.model) s.sets part) for_general in
    let kept : c.write_any-answer.new.self ≡ after_writing c.args.a o c.args.comp v named s.latest s.steps all part (write_answer c.args.a o s.latest c.args.comp v named part)
    = c.write_any-answer.ensures.written ∙ ap₂ (λ (st : List Stored) (l : List MemberShape). after_writing c.args.a o c.args.comp v named s.latest s.steps (all_pieces st l for_general) part (write_answer c.args.a o s.latest c.args.comp v named part)) c.store.ensures c.set_of-set.ensures in
    let wrote = written-at s.model s.values s.sets parts s.watch s.octets (vec_capacity s.changes) fit b part c.write_any-answer.new.self there c.args.a o c.args.comp v named all c.set_named.ensures s.latest s.steps kept in
    wrote.follows

pub invariant_of-self : goal.invariant_of-self
invariant_of-self c =
    let s = c.self.inside in
    let parts = s.parts.items in
    let b = c.args.b.0 in
    let part = c.index_mut-part.result.now in
    let fit = c.self.invariant.furnished in
    let below : b < length parts = subst (λ (t : State). b < length t.parts) (sym c.self.view_is) c.requires.there in
    let there = at-place parts b part below c.index_mut-part.ensures.value in
    let v = c.args.value.now in
    let o = c.owner_of.result in
    let named = c.set_named.result in
    let all = all_pieces s.values (members_in (node_rows s.model) s.sets part) for_general in
    let kept : c.write_any-answer.new.self ≡ after_writing c.args.a o c.args.comp v named s.latest s.steps all part (write_answer c.args.a o s.latest c.args.comp v named part)
    = c.write_any-answer.ensures.written ∙ ap₂ (λ (st : List Stored) (l : List MemberShape). after_writing c.args.a o c.args.comp v named s.latest s.steps (all_pieces st l for_general) part (write_answer c.args.a o s.latest c.args.comp v named part)) c.store.ensures c.set_of-set.ensures in
    let wrote = written-at s.model s.values s.sets parts s.watch s.octets (vec_capacity s.changes) fit b part c.write_any-answer.new.self there c.args.a o c.args.comp v named all c.set_named.ensures s.latest s.steps kept in
    let f = wrote.furnished c.follow.new.self c.follow.ensures.index c.follow.ensures.notes c.follow.ensures.options in
    let new = c.write_any-answer.new.self in
    record {
      furnished = record { servable = f.servable; values = f.values; count = f.count; booked = f.booked; sets = f.sets; dat_sets = f.dat_sets; windows = f.windows; watch = f.watch; entry = c.write_any-answer.ensures.room ∙ fit.entry; changes = f.changes };
      quiet = subst (λ (dues : List (Option ℕ)). AreQuietUntil s.latest dues (slice_set parts b new)) (sym c.put.ensures)
          (quiet-set s.latest s.dues parts b c.due_at-due.result new (λ now before. subst (IsBefore now) c.due_at-due.ensures before) c.self.invariant.quiet);
      grouped = c.self.invariant.grouped;
      roomy = c.self.invariant.roomy;
      controls = c.self.invariant.controls;
    }

pub returns-clause-answer : goal.returns-clause-answer
returns-clause-answer c = λ own found.
    let s = c.self.inside in
    let parts = s.parts.items in
    let b = c.args.b.0 in
    let part = c.index_mut-part.result.now in
    let fit = c.self.invariant.furnished in
    let below : b < length parts = subst (λ (t : State). b < length t.parts) (sym c.self.view_is) c.requires.there in
    let there = at-place parts b part below c.index_mut-part.ensures.value in
    let v = c.args.value.now in
    let same = same-part parts b part own there (subst (λ (t : State). slice_get t.parts b ≡ Some own) (sym c.self.view_is) found) in
    let is_named = c.set_named.ensures in
    c.write_any-answer.ensures.answer
    ∙ (ap₂ (λ (n : Option ℕ) (p : ReportBlock). without_effect (write_answer c.args.a c.owner_of.result s.latest c.args.comp v n p)) is_named same
    ∙ ap (λ (o : List ℕ). without_effect (write_answer c.args.a o s.latest c.args.comp v (named_by c.args.comp v s.sets) own)) c.owner_of.ensures
    ∙ ap (λ (t : State). without_effect (answer_at c.args.a c.args.comp v own t)) c.self.view_is)

pub returns-clause-written : goal.returns-clause-written
returns-clause-written c = λ own found.
    let s = c.self.inside in
    let parts = s.parts.items in
    let b = c.args.b.0 in
    let part = c.index_mut-part.result.now in
    let fit = c.self.invariant.furnished in
    let below : b < length parts = subst (λ (t : State). b < length t.parts) (sym c.self.view_is) c.requires.there in
    let there = at-place parts b part below c.index_mut-part.ensures.value in
    let v = c.args.value.now in
    let o = c.owner_of.result in
    let named = c.set_named.result in
    let all = all_pieces s.values (members_in (node_rows s.model) s.sets part) for_general in
    let kept : c.write_any-answer.new.self ≡ after_writing c.args.a o c.args.comp v named s.latest s.steps all part (write_answer c.args.a o s.latest c.args.comp v named part)
    = c.write_any-answer.ensures.written ∙ ap₂ (λ (st : List Stored) (l : List MemberShape). after_writing c.args.a o c.args.comp v named s.latest s.steps (all_pieces st l for_general) part (write_answer c.args.a o s.latest c.args.comp v named part)) c.store.ensures c.set_of-set.ensures in
    let same = same-part parts b part own there (subst (λ (t : State). slice_get t.parts b ≡ Some own) (sym c.self.view_is) found) in
    let with : List ℕ → Option ℕ → ReportBlock → ReportBlock
    = λ o n p. after_writing c.args.a o c.args.comp v n s.latest s.steps (all_pieces s.values (members_in (node_rows s.model) s.sets p) for_general) p (write_answer c.args.a o s.latest c.args.comp v n p) in
    let is = kept ∙ (ap₂ (with o) c.set_named.ensures same ∙ ap (λ (owner : List ℕ). with owner (named_by c.args.comp v s.sets) own) c.owner_of.ensures) in
    ap (λ (p : ReportBlock). record { config = s.model; steps = s.steps; latest = s.latest; stored = s.values; book = s.sets; parts = slice_set parts b p; rows = s.associations.rows; groups = s.groups; controls = s.associations.table }) is
    ∙ ap (λ (t : State). written_at c.args.a b c.args.comp v own t) c.self.view_is

pub returns-clause-general : goal.returns-clause-general
returns-clause-general c = λ own found.
    let s = c.self.inside in
    let fit = c.self.invariant.furnished in
    let all : HasAll s.model s.values s.sets s.parts.items = record {
      servable = fit.servable;
      sets = fit.booked.served;
      values = fit.values;
      members = have-members s.model (node_rows s.model) s.values s.sets s.parts.items s.watch s.octets (vec_capacity s.changes) refl fit;
    } in
    general-are c.args.self.now c.args.a c.args.b.0 c.args.comp c.args.value.now own (subst (λ (t : State). HasAll t.config t.stored t.book t.parts) c.self.view_is all) found
