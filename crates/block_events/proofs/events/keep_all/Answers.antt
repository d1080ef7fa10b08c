-- why `setting::keep_all` answers as its contract says
use Rattle.std.proofs.Common.{◌≡◌, ◌<◌, ◌∙◌, ap, sym, refl, subst, arith, [], List, length}
use Rattle.std.specs.Prelude.{slice_set, slice_index_or}
use Rattle.std.proofs.lemmas.List.{length-set}
use Rattle.std.proofs.lemmas.Option.{slice_get-get_or}
use Rattle.sv_base.specs.Filled.{Filled}
use Rattle.bay_model.specs.declared.note.Mention.{Mention}
use Rattle.bay_model.specs.declared.tables.MemberShape.{MemberShape}
use Rattle.report_block.specs.EntryOctets.{IsKeepable}
use Rattle.report_block.specs.Events.{after_noting, pieces_of}
use Rattle.std.specs.List.{All}
use Rattle.touch_index.specs.Gathering.{Gathered, note_at}
use Rattle.touch_index.proofs.GatheringLaws.{room_same}
use Rattle.report_block.specs.declared.block.ReportBlock.{ReportBlock}
use Rattle.set_view.specs.Shapes.{AreThere, shapes_of}
use Rattle.data_sets.specs.Books.{IsSet, nodes_in}
use Rattle.block_watch.specs.Watched.{IsLent, IsNoteOf}
use Rattle.block_events.proofs.NoteLaws.{Left, left-first, left-next, noting}
use Rattle.block_watch.proofs.WatchLaws.{at-place}
use Rattle.block_events.proofs.events.keep_all.Goals as goal
use Rattle.list_laws.proofs.Options.{some_is}

pub loop-b-init : goal.loop-b-init
loop-b-init c = record {
  parts = refl;
  count = refl;
  rooms = λ b. refl;
  entry = c.requires.entry;
  events = c.requires.events;
  quiet = c.requires.quiet;
  left = λ b part at. left-first c.args.source.now.rows.now c.args.source.now.book.now c.args.source.now.store.now c.args.moment c.args.step c.args.parts.now.items c.args.notes.now.notes b part at (c.requires.notes b part at);
}

pub view-set-requires-clause-set : goal.view-set-requires-clause-set
view-set-requires-clause-set c =
    let b = c.in-Some.b.0 in
    let part = c.index_mut-part.result.now in
    let within : b < length c.loop-b.parts.items = omega (arith, c.in-Some.ensures.within, c.loop-b.invariant.count, c.requires.count, c.loop-b.invariant.parts) in
    let before : b < length c.args.parts.now.items = omega (arith, within, c.loop-b.invariant.parts) in
    let left = c.loop-b.invariant.left b (slice_index_or c.args.parts.now.items b part) (slice_get-get_or c.args.parts.now.items b part before) in
    let same = some_is left.0 part (sym left.1 ∙ at-place c.loop-b.parts.items b part within c.index_mut-part.ensures.value) in
    subst (IsSet c.args.source.now.book.now) (sym c.set.ensures) (subst (IsLent c.args.source.now.rows.now c.args.source.now.book.now) same left.2.lent).set

pub view-set-requires-clause-there : goal.view-set-requires-clause-there
view-set-requires-clause-there c =
    let b = c.in-Some.b.0 in
    let part = c.index_mut-part.result.now in
    let within : b < length c.loop-b.parts.items = omega (arith, c.in-Some.ensures.within, c.loop-b.invariant.count, c.requires.count, c.loop-b.invariant.parts) in
    let before : b < length c.args.parts.now.items = omega (arith, within, c.loop-b.invariant.parts) in
    let left = c.loop-b.invariant.left b (slice_index_or c.args.parts.now.items b part) (slice_get-get_or c.args.parts.now.items b part before) in
    let same = some_is left.0 part (sym left.1 ∙ at-place c.loop-b.parts.items b part within c.index_mut-part.ensures.value) in
    subst (λ o. AreThere (length c.args.source.now.rows.now) (nodes_in c.args.source.now.book.now o)) (sym c.set.ensures) (subst (IsLent c.args.source.now.rows.now c.args.source.now.book.now) same left.2.lent).there

-- what is kept is a note of the part
is-note : (c : goal.After-event-arg-in-Some-2-1) → IsNoteOf c.args.source.now.rows.now c.args.source.now.book.now c.args.source.now.store.now c.index_mut-part.result.now c.as_slice-note.result.now
is-note c =
    let b = c.in-Some.b.0 in
    let within : b < length c.loop-b.parts.items = omega (arith, c.in-Some.ensures.within, c.loop-b.invariant.count, c.requires.count, c.loop-b.invariant.parts) in
    let before : b < length c.args.parts.now.items = omega (arith, within, c.loop-b.invariant.parts) in
    let left = c.loop-b.invariant.left b (slice_index_or c.args.parts.now.items b c.index_mut-part.result.now) (slice_get-get_or c.args.parts.now.items b c.index_mut-part.result.now before) in
    let same = some_is left.0 c.index_mut-part.result.now (sym left.1 ∙ at-place c.loop-b.parts.items b c.index_mut-part.result.now within c.index_mut-part.ensures.value) in
    subst (λ (p : ReportBlock). IsNoteOf c.args.source.now.rows.now c.args.source.now.book.now c.args.source.now.store.now p c.as_slice-note.result.now) same (subst (IsNoteOf c.args.source.now.rows.now c.args.source.now.book.now c.args.source.now.store.now left.0) (sym (c.as_slice-note.ensures ∙ ap (λ (n : Filled Mention). n.items) c.note.ensures)) left.2)

pub event-requires-clause-members : goal.event-requires-clause-members
event-requires-clause-members c =
    subst (λ (l : List MemberShape). All (IsKeepable c.args.source.now.store.now l) c.as_slice-note.result.now) (sym (c.view-set.ensures ∙ ap (λ o. shapes_of c.args.source.now.rows.now (nodes_in c.args.source.now.book.now o)) c.set.ensures)) (is-note c).members

pub event-requires-clause-order : goal.event-requires-clause-order
event-requires-clause-order c = (is-note c).order

pub event-requires-clause-within : goal.event-requires-clause-within
event-requires-clause-within c =
    let lent = c.view-set.ensures ∙ ap (λ o. shapes_of c.args.source.now.rows.now (nodes_in c.args.source.now.book.now o)) c.set.ensures in
    omega (arith, ap (λ (l : List MemberShape). length l) lent, (is-note c).within)

pub event-requires-clause-room : goal.event-requires-clause-room
event-requires-clause-room c =
    let room = c.loop-b.invariant.events in
    let few = (is-note c).few in
    (room.0, omega (arith, room.1, few), omega (arith, room.2, few))

pub event-requires-clause-octets : goal.event-requires-clause-octets
event-requires-clause-octets c = omega (arith, (is-note c).few, c.loop-b.invariant.entry)

pub event-requires-clause-window : goal.event-requires-clause-window
event-requires-clause-window c = omega (arith, (is-note c).gathers, c.loop-b.invariant.entry)

pub keep_due-requires : goal.keep_due-requires
keep_due-requires c =
    let within : c.in-Some.b.0 < length c.loop-b.parts.items = omega (arith, c.in-Some.ensures.within, c.loop-b.invariant.count, c.requires.count, c.loop-b.invariant.parts) in
    omega (arith, within, c.loop-b.invariant.quiet.count)

pub loop-b-preserved : goal.loop-b-preserved
loop-b-preserved c =
    let b = c.in-Some.b.0 in
    let parts = c.loop-b.parts.items in
    let notes = c.loop-b.notes.notes in
    let part = c.index_mut-part.result.now in
    let below = c.in-Some.ensures.within in
    let within : b < length parts = omega (arith, below, c.loop-b.invariant.count, c.requires.count, c.loop-b.invariant.parts) in
    let front = c.in-Some.ensures.some in
    let cleared = c.clear_last.ensures front.0 c.in-Some.b front.1 in
    let there = at-place parts b part within c.index_mut-part.ensures.value in
    let lent = c.view-set.ensures ∙ ap (λ o. shapes_of c.args.source.now.rows.now (nodes_in c.args.source.now.book.now o)) c.set.ensures in
    let kept : c.event.new.self ≡ noting c.args.source.now.rows.now c.args.source.now.book.now c.args.source.now.store.now c.args.moment c.args.step (note_at notes b).items part
    = c.event.ensures.noted ∙ (ap (λ (l : List MemberShape). after_noting c.args.moment c.args.step (pieces_of c.args.source.now.store.now l c.as_slice-note.result.now) part) lent ∙ ap (λ (ms : List Mention). noting c.args.source.now.rows.now c.args.source.now.book.now c.args.source.now.store.now c.args.moment c.args.step ms part) (c.as_slice-note.ensures ∙ ap (λ (n : Filled Mention). n.items) c.note.ensures)) in
    record {
      parts = length-set parts b c.event.new.self ∙ c.loop-b.invariant.parts;
      count = ap (λ (g : Gathered). length g.notes) cleared ∙ (length-set notes b (record { items = []; room = (note_at notes b).room }) ∙ c.loop-b.invariant.count);
      rooms = λ k. ap (λ (g : Gathered). (note_at g.notes k).room) cleared ∙ (room_same notes b [] below k ∙ c.loop-b.invariant.rooms k);
      entry = c.event.ensures.octets ∙ c.loop-b.invariant.entry;
      events = c.event.ensures.room 256 c.loop-b.invariant.events;
      quiet = c.keep_due.ensures parts part there (ap (λ (p : ReportBlock). p.block) c.event.ensures.noted) (ap (λ (p : ReportBlock). p.origin) c.event.ensures.noted) c.loop-b.invariant.quiet;
      left = λ k q at.
          let target = noting c.args.source.now.rows.now c.args.source.now.book.now c.args.source.now.store.now c.args.moment c.args.step (note_at c.args.notes.now.notes k).items q in
          subst (λ (p : ReportBlock). Left c.args.source.now.rows.now c.args.source.now.book.now c.args.source.now.store.now c.args.moment c.args.step (slice_set parts b p) c.clear_last.new.self.notes k target) (sym kept)
          (subst (λ (g : Gathered). Left c.args.source.now.rows.now c.args.source.now.book.now c.args.source.now.store.now c.args.moment c.args.step (slice_set parts b (noting c.args.source.now.rows.now c.args.source.now.book.now c.args.source.now.store.now c.args.moment c.args.step (note_at notes b).items part)) g.notes k target) (sym cleared)
          (left-next c.args.source.now.rows.now c.args.source.now.book.now c.args.source.now.store.now c.args.moment c.args.step parts notes b part k target there below (c.loop-b.invariant.left k q at)));
    }
