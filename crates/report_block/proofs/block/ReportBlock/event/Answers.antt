-- why `block::ReportBlock::event` answers as its contract says
use Rattle.std.proofs.Common.{◌∙◌, ℕ, List, [], refl, ap, sym, subst}
use Rattle.std.specs.Option.{option_map}
use Rattle.bay_model.specs.Points.{valued}
use Rattle.bay_rooms.specs.Rooms.{FilledMembers}
use Rattle.entry_ring.specs.Ringed.{after_entry}
use Rattle.window_core.specs.Pieces.{AreRow, pieces}
use Rattle.window_core.specs.Windows.{closed_by}
use Rattle.report_block.specs.Events.{pieces_of}
use Rattle.report_block.proofs.AllLaws.{pieces-same, row-of}
use Rattle.report_block.proofs.PassLaws.{added, event-came, told-none, told-some}
use Rattle.report_block.proofs.PlainLaws.{noted-at-once}
use Rattle.report_block.proofs.block.ReportBlock.event.Goals as goal

pub returns-then-buf_tm-eq0-clause-noted : goal.returns-then-buf_tm-eq0-clause-noted
returns-then-buf_tm-eq0-clause-noted c =
    let part = c.args.self.now in
    let zero = sym c.buf_tm.ensures.value ∙ c.if-buf_tm-eq0.true in
    c.keep_at_once.ensures.part
    ∙ (sym (noted-at-once 0 c.args.now c.args.step [] c.args.store.now c.args.set.now part zero (c.buf_tm.ensures.at_once zero) c.args.note.now)
    ∙ event-came 0 (valued []) c.args.now c.args.step (pieces_of c.args.store.now c.args.set.now c.args.note.now) part refl)

pub add-requires-clause-row : goal.add-requires-clause-row
add-requires-clause-row c =
    subst (λ l. AreRow c.args.self.now.window.members 0 (pieces c.args.note.now l)) (sym (ap (λ (f : FilledMembers). f.items) c.put_each.ensures.each))
    (row-of c.args.store.now c.args.set.now c.args.self.now.window.members 0 c.args.note.now c.requires.within c.requires.order c.requires.members)

pub returns-in-Some-clause-noted : goal.returns-in-Some-clause-noted
returns-in-Some-clause-noted c =
    let part = c.args.self.now in
    let ps = pieces c.args.note.now c.put_each.new.each.items in
    let put = ap (λ l. pieces c.args.note.now l) (ap (λ (f : FilledMembers). f.items) c.put_each.ensures.each) ∙ pieces-same c.args.store.now c.args.set.now c.args.note.now in
    let some = sym c.is_empty.ensures ∙ c.if-is_empty.false in
    let closes = told-some part.ring c.args.step c.in-Some.moment c.add.new.out.items (closed_by c.args.now ps part.window) (sym c.add.ensures.told ∙ ap (option_map (λ m. (m, c.add.new.out.items))) c.in-Some.is) in
    let kept = c.append.ensures ∙ (ap (λ (o : List ℕ). after_entry part.ring (record { moment = c.in-Some.moment; step = c.args.step; kept = o })) c.as_slice.ensures ∙ closes) in
    added c.args.store.now c.args.set.now c.args.now c.args.step part c.args.note.now ps c.append.new.self c.add.new.self some put c.add.ensures.left kept

pub returns-in_default-clause-noted : goal.returns-in_default-clause-noted
returns-in_default-clause-noted c =
    let part = c.args.self.now in
    let ps = pieces c.args.note.now c.put_each.new.each.items in
    let put = ap (λ l. pieces c.args.note.now l) (ap (λ (f : FilledMembers). f.items) c.put_each.ensures.each) ∙ pieces-same c.args.store.now c.args.set.now c.args.note.now in
    let some = sym c.is_empty.ensures ∙ c.if-is_empty.false in
    let kept = told-none part.ring c.args.step (closed_by c.args.now ps part.window) (sym c.add.ensures.told ∙ ap (option_map (λ m. (m, c.add.new.out.items))) c.in_default.is) in
    added c.args.store.now c.args.set.now c.args.now c.args.step part c.args.note.now ps part.ring c.add.new.self some put c.add.ensures.left kept
