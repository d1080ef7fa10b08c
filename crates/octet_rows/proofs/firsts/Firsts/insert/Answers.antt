-- why `firsts::Firsts::insert` answers as its contract says
use Rattle.std.proofs.Common.{◌≡◌, ◌<◌, ◌+◌, ◌==◌, length, slice_set, Some, sym, ap, subst, ◌∙◌, if◌then◌else◌}
use Rattle.std.specs.Prelude.{nat_eq}
use Rattle.octet_rows.specs.Chains.{slot, head, latest, AreChained}
use Rattle.octet_rows.specs.declared.firsts.Entry.{Entry}
use Rattle.octet_rows.proofs.ChainLaws.{chained, latest-push, head-at, head-set}
use Rattle.octet_rows.proofs.firsts.Firsts.insert.Goals as goal

pub returns-clause-chained : goal.returns-clause-chained
returns-clause-chained c =
    let firsts = c.make_room.new.self in
    let heads = firsts.heads.items in
    let es = firsts.entries.items in
    let at = c.slot_of-slot.result in
    let size : c.len.result ≡ length heads = c.len.ensures ∙ firsts.heads.ok.0 in
    let is : at ≡ slot (length heads) c.args.number = c.slot_of-slot.ensures.value ∙ ap (λ n. slot n c.args.number) size in
    let within : at < length heads = subst (λ n. at < n) size c.slot_of-slot.ensures.within in
    let last : c.len-len.result + 1 ≡ length es + 1 = ap (λ n. n + 1) (c.len-len.ensures ∙ (c.args.self.now.entries.ok.0 ∙ sym c.make_room.ensures.len)) in
    let next = slice_set heads at (c.len-len.result + 1) in
    let entry : Entry = record { number = c.args.number; place = c.args.place; before = c.index-before.result.now } in
    subst (AreChained next) (sym c.in_ok-push.ensures.items)
    (chained heads next es entry c.make_room.ensures.chained
    (c.index-before.ensures ∙ head-at heads c.args.number at c.index-before.result.now is within)
    (λ q. head-set heads c.args.number at (c.len-len.result + 1) is within q ∙ ap (λ v. if slot (length heads) c.args.number == slot (length heads) q then v else head heads q) last))

pub returns-clause-ok : goal.returns-clause-ok
returns-clause-ok c = λ q. ap (λ es. latest es q) c.in_ok-push.ensures.items ∙ (latest-push c.make_room.new.self.entries.items _ q ∙ ap (λ r. if nat_eq c.args.number q then Some c.args.place else r) (c.make_room.ensures.same q))
