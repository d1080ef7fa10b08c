-- why `reading::read_lines` answers as its contract says
use Rattle.std.proofs.Common.{◌≡◌, ◌++◌, ◌∷◌, length, arith, ap, subst, refl, suc, length-append}
use Rattle.script_plans.specs.Inputs.{line_at}
use Rattle.script_reading.specs.Readings.{place_of, Moved}
use Rattle.script_reading.specs.declared.next.Next.TheVariants as nexts
use Rattle.script_reading.proofs.ReadingLaws.{read-on, read-end}
use Rattle.script_reading.proofs.reading.read_lines.Goals as goal

pub loop-line-init : goal.loop-line-init
loop-line-init c = record { read = λ long. refl; lines = omega arith; well = c.requires.well }

pub loop-line-preserved : goal.loop-line-preserved
loop-line-preserved c =
    let shorter : length c.loop-line.rest.now ≡ length (c.in-Some.line.now ++ 10 ∷ c.in-Some.after.now) = ap length c.in-Some.ensures.0 in
    record {
      read = read-on c.args.session.now c.loop-line.session c.args.octets.now c.loop-line.rest.now c.in-Some.line.now c.in-Some.after.now c.loop-line.invariant.read c.in-Some.ensures.0 c.in-Some.ensures.1
          c.in_ok-next.next c.read.new.self c.in-On.is c.in_ok-next.ensures.lines c.in_ok-next.ensures.moves;
      lines = omega (arith, c.loop-line.invariant.lines, c.in_ok-next.ensures.lines, shorter, length-append c.in-Some.line.now (10 ∷ c.in-Some.after.now));
      well = c.in_ok-next.ensures.well;
    }

pub returns-in-Stop-clause-read : goal.returns-in-Stop-clause-read
returns-in-Stop-clause-read c =
    let place = place_of c.read.new.self.stage in
    read-end c.args.session.now c.loop-line.session c.args.octets.now c.loop-line.rest.now c.in-Some.line.now c.in-Some.after.now c.loop-line.invariant.read c.in-Some.ensures.0 c.in-Some.ensures.1
    (nexts.Stop c.in-Stop.status) c.read.new.self (λ e. absurd cc)
    (subst (λ n. Moved n place (line_at (suc c.loop-line.session.lines) (place_of c.loop-line.session.stage) c.in-Some.line.now)) c.in-Stop.is c.in_ok-next.ensures.moves)

pub returns-in-End-clause-read : goal.returns-in-End-clause-read
returns-in-End-clause-read c =
    let place = place_of c.read.new.self.stage in
    read-end c.args.session.now c.loop-line.session c.args.octets.now c.loop-line.rest.now c.in-Some.line.now c.in-Some.after.now c.loop-line.invariant.read c.in-Some.ensures.0 c.in-Some.ensures.1
    nexts.End c.read.new.self (λ e. absurd cc)
    (subst (λ n. Moved n place (line_at (suc c.loop-line.session.lines) (place_of c.loop-line.session.stage) c.in-Some.line.now)) c.in-End.is c.in_ok-next.ensures.moves)
