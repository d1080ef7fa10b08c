-- why `control_pdus::parts` answers as its contract says
use Rattle.std.proofs.Common.{ap, pos, ◌++◌, ◌∙◌}
use Rattle.ber_write.specs.Minimal.{octets_of, uint_octets, int_octets}
use Rattle.bay_answers.specs.ControlPdus.{origin_octets}
use Rattle.bay_answers.proofs.ControlPduLaws.{five}
use Rattle.bay_answers.proofs.control_pdus.parts.Goals as goal

pub returns : goal.returns
returns c =
    let e = c.args.error.now in
    five
    (octets_of 0x8a e.object)
    (octets_of 0x85 (int_octets (pos 1)))
    (octets_of 0xa2 (origin_octets e))
    (octets_of 0x86 (uint_octets e.ctl_num))
    (octets_of 0x85 (uint_octets e.cause))
    c.new-out.result.items
    c.add.new.out.items
    c.put_int.new.out.items
    c.add-2.new.out.items
    c.put_uint.new.out.items
    c.put_uint-2.new.out.items
    c.new-out.ensures.items
    (c.in_ok-add.ensures.ok ∙ ap (λ x. c.new-out.result.items ++ octets_of 0x8a x) c.as_slice.ensures)
    c.in_ok-put_int.ensures.ok
    (c.in_ok-add-2.ensures.ok ∙ ap (λ x. c.put_int.new.out.items ++ octets_of 0xa2 x) (c.as_slice-2.ensures.value ∙ c.in_ok-origin.ensures))
    (c.in_ok-put_uint.ensures.ok ∙ ap (λ x. c.add-2.new.out.items ++ octets_of 0x86 (uint_octets x)) c.from.ensures)
    (c.in_ok-put_uint-2.ensures.ok ∙ ap (λ x. c.put_uint.new.out.items ++ octets_of 0x85 (uint_octets x)) c.from-2.ensures)
