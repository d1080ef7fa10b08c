-- why `member_bytes::MemberBytes::push` answers as its contract says
use Rattle.std.proofs.Common.{◌≡◌, ap, subst, ◌++◌, ◌∷◌, [], rules}
use Rattle.bay_rooms.specs.Rooms.{FilledMembers, cut_at}
use Rattle.bay_rooms.specs.contracts.member_bytes.MemberBytes.{the_view}
use Rattle.bay_rooms.proofs.RoomLaws.{length_of_cut, cut_reaches, cut_and_more, cut_stays}
use Rattle.bay_rooms.proofs.member_bytes.MemberBytes.push.Goals as goal

pub invariant_of-self : goal.invariant_of-self
invariant_of-self c = search (rules, length_of_cut, cut_reaches, cut_stays)

pub returns : goal.returns
returns c =
    let items : cut_at 0 c.push.new.self.items c.extend_from_slice.new.self.items ≡ cut_at 0 c.self.inside.ends.items c.self.inside.octets.items ++ c.args.octets.now ∷ [] = search (rules, length_of_cut, cut_reaches, cut_and_more) in
    subst (λ (v : FilledMembers). the_view (record { octets = c.extend_from_slice.new.self; ends = c.push.new.self; members = c.self.inside.members; room = c.self.inside.room }) ≡ record { items = v.items ++ c.args.octets.now ∷ []; members = v.members; room = v.room }) c.self.view_is
    (ap (λ l. record { items = l; members = c.self.inside.members; room = c.self.inside.room }) items)
