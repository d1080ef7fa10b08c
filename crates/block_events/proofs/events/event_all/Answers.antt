-- why `setting::event_all` answers as its contract says
use Rattle.std.proofs.Common.{◌<◌, ◌∙◌, ap, arith, length, Some, List}
use Rattle.list_laws.proofs.Places.{all-at}
use Rattle.bay_model.specs.declared.note.Mention.{Mention}
use Rattle.touch_index.specs.Gathering.{note_at}
use Rattle.block_events.specs.Events.{after_event, IsReady}
use Rattle.block_watch.specs.Watched.{members_in}
use Rattle.block_watch.proofs.WatchLaws.{part-there, mapped}
use Rattle.block_events.proofs.NoteLaws.{made, note-of, noting}
use Rattle.block_events.proofs.events.event_all.Goals as goal

pub gather-requires-clause-roomy : goal.gather-requires-clause-roomy
gather-requires-clause-roomy c = λ b h.
    let below : b < length c.args.parts.now.items = omega (arith, h, c.requires.watching.index.count) in
    let p = part-there c.args.parts.now.items b below in
    let ready = all-at (IsReady c.args.source.now.rows.now c.args.source.now.book.now c.args.source.now.store.now) c.args.parts.now.items b p.0 c.requires.ready p.1 in (
      members_in c.args.source.now.rows.now c.args.source.now.book.now p.0,
      c.requires.watching.index.touches b p.0 p.1,
      omega (arith, ready.few, c.requires.watching.notes.rooms b below),
    )

pub keep_all-requires-clause-notes : goal.keep_all-requires-clause-notes
keep_all-requires-clause-notes c = λ b part at.
    note-of c.args.source.now.rows.now c.args.source.now.book.now c.args.source.now.store.now c.args.changes.now part (note_at c.gather.new.out.notes b).items (all-at (IsReady c.args.source.now.rows.now c.args.source.now.book.now c.args.source.now.store.now) c.args.parts.now.items b part c.requires.ready at)
    (made c.args.source.now.rows.now c.args.source.now.book.now (length c.args.source.now.store.now) c.args.parts.now.items c.args.watch.now c.deref.result.now c.args.changes.now c.gather.new.out.notes c.requires.watching c.deref.ensures.value c.gather.ensures.noted b part at)

pub returns-clause-parts : goal.returns-clause-parts
returns-clause-parts c = mapped (after_event c.args.source.now.rows.now c.args.source.now.book.now c.args.source.now.store.now c.args.changes.now c.args.moment c.args.step) c.args.parts.now.items c.keep_all.new.parts.items c.keep_all.ensures.parts
    (λ b part at. c.keep_all.ensures.kept b part at ∙ ap (λ (ms : List Mention). Some (noting c.args.source.now.rows.now c.args.source.now.book.now c.args.source.now.store.now c.args.moment c.args.step ms part))
    (made c.args.source.now.rows.now c.args.source.now.book.now (length c.args.source.now.store.now) c.args.parts.now.items c.args.watch.now c.deref.result.now c.args.changes.now c.gather.new.out.notes c.requires.watching c.deref.ensures.value c.gather.ensures.noted b part at))
