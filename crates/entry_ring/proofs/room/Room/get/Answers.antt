-- why `room::Room::get` answers as its contract says
use Rattle.std.proofs.Common.{◌≡◌, ◌++◌, take, drop, length, length-append, ap, sym, ◌∙◌, arith}
use Rattle.std.specs.Prelude.{Some, slice_get, option_copied, option_map}
use Rattle.entry_ring.specs.Held.{Roomed}
use Rattle.entry_ring.specs.Entries.{held_of}
use Rattle.entry_ring.proofs.RowLaws.{found-none}
use Rattle.entry_ring.proofs.RoomLaws.{is_found}
use Rattle.entry_ring.proofs.room.Room.get.Goals as goal

pub returns-in_err-place : goal.returns-in_err-place
returns-in_err-place c =
    let none = sym c.get.ensures ∙ ap option_copied c.in_err-place.was in
    ap (option_map held_of) c.from_residual.ensures ∙ (sym (found-none c.self.inside.places.items c.self.inside.octets.items c.args.i none) ∙ ap (λ (r : Roomed). slice_get r.entries c.args.i) c.self.view_is)

pub offset-requires-clause-at : goal.offset-requires-clause-at
offset-requires-clause-at c =
    let r = c.self.inside in
    let is = sym c.get.ensures ∙ ap option_copied c.in_ok-place.was in
    (is_found r.capacity r.begin r.end r.total r.places r.octets c.args.i c.in_ok-place.place.now c.self.invariant is).place

pub cut-requires : goal.cut-requires
cut-requires c =
    let r = c.self.inside in
    let is = sym c.get.ensures ∙ ap option_copied c.in_ok-place.was in
    let f = is_found r.capacity r.begin r.end r.total r.places r.octets c.args.i c.in_ok-place.place.now c.self.invariant is in
    omega (arith, f.within, c.offset.ensures, ap length c.as_slices.ensures, length-append c.as_slices.result.0.now c.as_slices.result.1.now)

pub returns : goal.returns
returns c =
    let r = c.self.inside in
    let p = c.in_ok-place.place.now in
    let is = sym c.get.ensures ∙ ap option_copied c.in_ok-place.was in
    let f = is_found r.capacity r.begin r.end r.total r.places r.octets c.args.i p c.self.invariant is in
    let kept : c.cut.result.0.now ++ c.cut.result.1.now ≡ take p.len (drop c.offset.result r.octets.items)
    = c.cut.ensures ∙ ap (λ l. take p.len (drop c.offset.result l)) c.as_slices.ensures in
    ap (λ k. Some (record { moment = p.moment; step = p.step; kept = k })) (kept ∙ ap (λ o. take p.len (drop o r.octets.items)) c.offset.ensures)
    ∙ (sym f.entry ∙ ap (λ (r : Roomed). slice_get r.entries c.args.i) c.self.view_is)
