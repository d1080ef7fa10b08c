-- why `mem_source::MemSourceSource::read` answers as its contract says
use Rattle.std.proofs.Common.{◌≡◌, drop, length, min, arith, ap, sym, ◌∙◌}
use Rattle.sv_io.specs.Memory.{Reading}
use Rattle.sv_io.proofs.Front.{reads, ended, whole, room}
use Rattle.sv_io.proofs.mem_source.MemSourceSource.read.Goals as goal

pub returns-clause-bytes : goal.returns-clause-bytes
returns-clause-bytes c =
    let left : drop c.self.inside.at c.self.inside.octets ≡ c.args.self.now.left = ap (λ (r : Reading). r.left) c.self.view_is in
    let count : c.min-count.result ≡ min (length (drop c.self.inside.at c.self.inside.octets)) (length c.args.buf.now) = rw (c.as_slice.ensures, whole) at c.min-count.ensures in
    let copied = rw (c.as_slice.ensures, whole) at c.copy_from_slice.ensures.after in (
      sym left ∙ reads c.self.inside.octets (drop c.min-count.result c.args.buf.now) c.copy_from_slice.new.self c.self.inside.at c.min-count.result copied (omega (arith, count)),
      λ z p. ended c.self.inside.octets c.self.inside.at c.min-count.result (length c.args.buf.now) count
          (room (drop c.self.inside.at c.self.inside.octets) c.args.buf.now c.copy_from_slice.new.self c.min-count.result copied count p) z,
    )
