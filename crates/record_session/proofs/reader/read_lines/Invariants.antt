-- what the loops of `reader::read_lines` keep, and why they end
use Rattle.std.proofs.Common.{◌≤◌, ◌+◌, length}
use Rattle.record_session.specs.Sessions.{steps_in, IsEarly}
use Rattle.record_session.proofs.Feeding.{HasRead}
use Rattle.record_session.proofs.reader.read_lines.Given as goal

abbrev pub invariant-loop-line : goal.invariant-loop-line
invariant-loop-line l = record {
  read : HasRead l.fn.session l.session l.octets l.rest l.fn.out.items l.out.items;
  lines : l.session.lines + length l.rest ≤ l.fn.session.lines + length l.octets;
  few : steps_in l.session.stage + length l.rest ≤ steps_in l.fn.session.stage + length l.octets;
  early : IsEarly l.session.stage;
}

abbrev pub decreases-loop-line : goal.decreases-loop-line
decreases-loop-line l = length l.rest
