-- why `ring::Ring::append` answers as its contract says
use Rattle.std.proofs.Common.{◌≡◌, ◌<◌, ◌+◌, ◌-◌, ◌++◌, ◌∷◌, [], List, length, drop, suc, ap, ◌∙◌, subst, arith, refl, Some}
use Rattle.bay_model.specs.Entries.{last_number}
use Rattle.entry_ring.specs.Held.{Held, Roomed}
use Rattle.entry_ring.specs.Fitting.{least_for}
use Rattle.entry_ring.specs.Ringed.{Ringed, after_entry}
use Rattle.entry_ring.proofs.FitLaws.{left-fits, entry-fits, entry-oversized}
use Rattle.entry_ring.proofs.ring.Ring.append.Goals as goal

pub returns-then-capacity-size : goal.returns-then-capacity-size
returns-then-capacity-size c =
    let room = c.self.inside.room in
    let r : Ringed = record { capacity = room.capacity; newest = c.self.inside.newest; newest_moment = c.self.inside.newest_moment; front = c.self.inside.newest - length room.entries; entries = room.entries } in
    let e : Held = record { moment = c.args.moment; step = c.args.step; kept = c.args.kept.now } in
    let number : c.self.inside.newest + 1 ≡ suc c.self.inside.newest = omega arith in
    let few : c.self.inside.newest < last_number = omega (arith, c.self.ranges, c.if-self.false) in
    subst (λ (b : Ringed). record { capacity = c.clear.new.self.capacity; newest = c.self.inside.newest + 1; newest_moment = Some c.args.moment; front = c.self.inside.newest + 1 - length c.clear.new.self.entries; entries = c.clear.new.self.entries } ≡ after_entry b e) c.self.view_is
    (rw c.clear.ensures (entry-oversized r e (c.self.inside.newest + 1) number few (omega (arith, c.capacity.ensures, c.if-capacity-size.true)) c.self.invariant refl))

pub push-requires : goal.push-requires
push-requires c =
    let room = c.self.inside.room in
    rw c.make_room.ensures (left-fits room.capacity (24 + length c.args.kept.now) room.entries (omega (arith, c.capacity.ensures, c.if-capacity-size.false)))

pub returns : goal.returns
returns c =
    let room = c.self.inside.room in
    let r : Ringed = record { capacity = room.capacity; newest = c.self.inside.newest; newest_moment = c.self.inside.newest_moment; front = c.self.inside.newest - length room.entries; entries = room.entries } in
    let e : Held = record { moment = c.args.moment; step = c.args.step; kept = c.args.kept.now } in
    let number : c.self.inside.newest + 1 ≡ suc c.self.inside.newest = omega arith in
    let few : c.self.inside.newest < last_number = omega (arith, c.self.ranges, c.if-self.false) in
    let left : List Held = drop (least_for room.capacity (24 + length c.args.kept.now) room.entries) room.entries ++ e ∷ [] in
    let is : c.push.new.self ≡ record { capacity = room.capacity; entries = left } =
    c.push.ensures ∙ ap (λ (m : Roomed). record { capacity = m.capacity; entries = m.entries ++ e ∷ [] }) c.make_room.ensures in
    subst (λ (b : Ringed). record { capacity = c.push.new.self.capacity; newest = c.self.inside.newest + 1; newest_moment = Some c.args.moment; front = c.self.inside.newest + 1 - length c.push.new.self.entries; entries = c.push.new.self.entries } ≡ after_entry b e) c.self.view_is
    (rw is (entry-fits r e left (c.self.inside.newest + 1) number few (omega (arith, c.capacity.ensures, c.if-capacity-size.false)) c.self.invariant refl refl))
