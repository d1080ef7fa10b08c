-- why `room::Room::push` answers as its contract says
use Rattle.circular_buffer.specs.Buffer.{buffer}
use Rattle.std.proofs.Common.{◌≤◌, ◌+◌, ◌++◌, ◌∷◌, [], length, take, ap, ◌∙◌, arith, refl}
use Rattle.entry_ring.specs.declared.room.Place.{Place}
use Rattle.entry_ring.specs.Held.{Held, Roomed, sizes}
use Rattle.entry_ring.proofs.RowLaws.{laid-sizes, end-within}
use Rattle.entry_ring.proofs.RoomLaws.{pushed}
use Rattle.entry_ring.proofs.room.Room.push.Goals as goal

pub overflow_cast-self-inside : goal.overflow_cast-self-inside
overflow_cast-self-inside c =
    let r = c.self.inside in
    let sum = laid-sizes r.capacity r.begin r.places.items r.octets.items c.self.invariant.laid in
    omega (arith, c.self.invariant.small, c.self.invariant.ended, end-within r.capacity r.begin r.places.items r.octets.items c.self.invariant.laid c.self.invariant.begun (omega (arith, sum, c.self.invariant.sum, c.self.invariant.within)))

pub behind-self-inside-requires-clause-at : goal.behind-self-inside-requires-clause-at
behind-self-inside-requires-clause-at c =
    let r = c.self.inside in
    let sum = laid-sizes r.capacity r.begin r.places.items r.octets.items c.self.invariant.laid in
    omega (arith, c.self.invariant.ended, end-within r.capacity r.begin r.places.items r.octets.items c.self.invariant.laid c.self.invariant.begun (omega (arith, sum, c.self.invariant.sum, c.self.invariant.within)))

pub invariant_of-self : goal.invariant_of-self
invariant_of-self c =
    let r = c.self.inside in
    let p : Place = record { moment = c.args.moment; step = c.args.step; at = r.end; len = length c.args.kept.now } in
    let fits : r.total + (24 + length c.args.kept.now) ≤ r.capacity = omega (arith, c.requires, ap (λ (r : Roomed). sizes r.entries) c.self.view_is, ap (λ (r : Roomed). r.capacity) c.self.view_is, c.self.invariant.sum) in
    rw c.behind-self-inside.ensures (pushed r.capacity r.begin r.end r.total r.places r.octets p c.args.kept.now c.push_back.new.self c.fill_from_slice.new.self c.self.invariant refl refl fits c.push_back.ensures.items (c.fill_from_slice.ensures.items ∙ ap (λ n. buffer (r.octets.items ++ take n c.args.kept.now) r.octets.capacity) c.fill_from_slice.ensures.count)).room

pub returns : goal.returns
returns c =
    let r = c.self.inside in
    let p : Place = record { moment = c.args.moment; step = c.args.step; at = r.end; len = length c.args.kept.now } in
    let e : Held = record { moment = c.args.moment; step = c.args.step; kept = c.args.kept.now } in
    let fits : r.total + (24 + length c.args.kept.now) ≤ r.capacity = omega (arith, c.requires, ap (λ (r : Roomed). sizes r.entries) c.self.view_is, ap (λ (r : Roomed). r.capacity) c.self.view_is, c.self.invariant.sum) in
    let more = pushed r.capacity r.begin r.end r.total r.places r.octets p c.args.kept.now c.push_back.new.self c.fill_from_slice.new.self c.self.invariant refl refl fits c.push_back.ensures.items (c.fill_from_slice.ensures.items ∙ ap (λ n. buffer (r.octets.items ++ take n c.args.kept.now) r.octets.capacity) c.fill_from_slice.ensures.count) in
    ap (λ es. record { capacity = r.capacity; entries = es }) more.held ∙ ap (λ (r : Roomed). record { capacity = r.capacity; entries = r.entries ++ e ∷ [] }) c.self.view_is
