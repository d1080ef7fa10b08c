-- why `reader::read_lines` answers as its contract says
use Rattle.std.proofs.Common.{◌≡◌, ◌++◌, ◌∷◌, length, arith, ap, length-append}
use Rattle.std.specs.Prelude.{None, Some}
use Rattle.record_session.proofs.Feeding.{read-none, read-more}
use Rattle.record_session.proofs.reader.read_lines.Goals as goal

pub loop-line-init : goal.loop-line-init
loop-line-init c = record { read = read-none c.args.session.now c.args.octets.now c.args.out.now.items; lines = omega arith; few = omega arith; early = c.requires.early }

pub read-requires-clause-few : goal.read-requires-clause-few
read-requires-clause-few c =
    let shorter : length c.loop-line.rest.now ≡ length (c.in-Some.line.now ++ 10 ∷ c.in-Some.after.now) = ap length c.in-Some.ensures.0 in
    omega (arith, c.requires.few, c.loop-line.invariant.few, shorter, length-append c.in-Some.line.now (10 ∷ c.in-Some.after.now))

pub returns-in-Some-2-clause-read : goal.returns-in-Some-2-clause-read
returns-in-Some-2-clause-read c =
    let moves = rw c.in-Some-2.is at c.in_ok-stop.ensures.moves in
    let more = read-more (Some c.in-Some-2.stop) c.args.session.now c.loop-line.session c.read.new.self c.args.octets.now c.loop-line.rest.now c.in-Some.line.now c.in-Some.after.now c.args.out.now.items c.loop-line.out.items c.read.new.out.items
    c.loop-line.invariant.read c.in-Some.ensures.0 moves in
    record { done = more.0; split = more.1; part = λ e. cc; moves = more.2 }

pub loop-line-preserved : goal.loop-line-preserved
loop-line-preserved c =
    let moves = rw c.in_default-2.is at c.in_ok-stop.ensures.moves in
    let more = read-more None c.args.session.now c.loop-line.session c.read.new.self c.args.octets.now c.loop-line.rest.now c.in-Some.line.now c.in-Some.after.now c.args.out.now.items c.loop-line.out.items c.read.new.out.items
    c.loop-line.invariant.read c.in-Some.ensures.0 moves in
    let few = rw c.in_default-2.is at c.in_ok-stop.ensures.few in
    let early = rw c.in_default-2.is at c.in_ok-stop.ensures.early in
    let shorter : length c.loop-line.rest.now ≡ length (c.in-Some.line.now ++ 10 ∷ c.in-Some.after.now) = ap length c.in-Some.ensures.0 in
    record {
      read = record { done = more.0; split = more.1; moves = more.2 };
      lines = omega (arith, c.loop-line.invariant.lines, c.in_ok-stop.ensures.lines, shorter, length-append c.in-Some.line.now (10 ∷ c.in-Some.after.now));
      few = omega (arith, c.loop-line.invariant.few, few, shorter, length-append c.in-Some.line.now (10 ∷ c.in-Some.after.now));
      early = early;
    }
