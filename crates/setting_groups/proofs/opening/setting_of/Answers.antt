-- why `opening::setting_of` answers as its contract says
use Rattle.std.proofs.Common.{rules, ◌≡◌, ◌∙◌, List, length, ap, sym, arith, slice_index_or}
use Rattle.sv_base.specs.Kinds.{kind_of}
use Rattle.bay_rooms.specs.Slots.{Held}
use Rattle.setting_groups.specs.Opened.{slots_of}
use Rattle.setting_groups.proofs.OpenLaws.{kind_at}
use Rattle.setting_groups.proofs.opening.setting_of.Goals as goal

pub new-requires-in-len1-up : goal.new-requires-in-len1-up
new-requires-in-len1-up c = λ k d below.
    let vs = c.as_slice.result.now in
    let groups : c.in_ok-groups-in-len1-up.groups.items ≡ slots_of c.args.attr.now.kind vs = search rules in
    let copy : c.in_ok-copy-in-len1-up.copy.kind ≡ kind_of c.args.attr.now.kind = search rules in
    ap (λ (l : List Held). (slice_index_or l k d).kind) groups ∙ (kind_at c.args.attr.now.kind vs k d (omega (arith, below, ap length groups)) ∙ sym copy)
