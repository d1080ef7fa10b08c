-- why `bit_view::BitView::len` answers as its contract says
use Rattle.std.proofs.Common.{◌≡◌, ◌*◌, ◌-◌, List, Bool, length, ap, sym, ◌∙◌}
use Rattle.ber_view.proofs.BitLaws.{length-bits_of}
use Rattle.ber_view.proofs.bit_view.BitView.len.Goals as goal

pub returns : goal.returns
returns c =
    let count : length c.args.self.now ≡ 8 * length c.self.inside.octets.now - c.self.inside.unused = ap (λ (bits : List Bool). length bits) (sym c.self.view_is) ∙ length-bits_of c.self.inside.unused c.self.inside.octets.now in
    rw count c.count_of.ensures
