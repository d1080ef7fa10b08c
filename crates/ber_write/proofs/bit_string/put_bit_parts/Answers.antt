-- why `bit_string::put_bit_parts` answers as its contract says
use Rattle.ber_write.specs.Minimal.{head_octets}
use Rattle.ber_write.proofs.BitLaws.{kept_behind}
use Rattle.ber_write.proofs.bit_string.put_bit_parts.Goals as goal

pub returns-clause-err : goal.returns-clause-err
returns-clause-err c =
    kept_behind c.put_packed.result c.args.out.now.items (head_octets c.args.tag c.bits_len.result) c.put_head.new.out.items c.push.new.self.items c.put_packed.new.out.items c.unused_for.result
    c.in_ok-put_head.ensures.ok c.in_ok-push.ensures.items c.put_packed.ensures.err
