-- why `events::put_each` answers as its contract says
use Rattle.std.proofs.Common.{◌≤◌, ◌∙◌, ◌+◌, ◌*◌, ℕ, List, length, ap, ap₂, sym, subst}
use Rattle.std.specs.List.{concat}
use Rattle.sv_base.specs.Filled.{Filled}
use Rattle.bay_rooms.specs.Rooms.{FilledMembers}
use Rattle.report_block.proofs.AllLaws.{each-step}
use Rattle.report_block.proofs.events.put_each.Goals as goal

pub loop-mention-preserved : goal.loop-mention-preserved
loop-mention-preserved c =
    let i = c.loop-mention.mention-index in
    let so_far = c.loop-mention.invariant.each in
    let cleared = c.clear-in-loop-mention.ensures in
    let put = c.as_slice.ensures ∙ ap (λ (f : Filled ℕ). f.items) c.put_mention.ensures in
    let step = each-step c.args.store.now c.args.set.now c.args.note.now i _ c.loop-mention.each.items c.member.result.now c.clear-in-loop-mention.new.self.items c.as_slice.result.now c.loop-mention-test.true c.requires.members c.member.ensures
    (ap (λ (f : Filled ℕ). f.items) cleared) put (ap (λ (f : FilledMembers). f.items) so_far) c.loop-mention.invariant.short in
    record {
      each = c.push.ensures ∙ ap₂ (λ (l : List (List ℕ)) (f : FilledMembers). record { items = l; members = f.members; room = f.room }) step.0 so_far;
      one = ap (λ (f : Filled ℕ). f.room) c.put_mention.ensures ∙ (ap (λ (f : Filled ℕ). f.room) cleared ∙ c.loop-mention.invariant.one);
      short = subst (λ (f : FilledMembers). length (concat f.items) ≤ 504 * (i + 1)) (sym c.push.ensures) step.1;
    }
