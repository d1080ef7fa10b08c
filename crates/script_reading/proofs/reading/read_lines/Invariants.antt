-- what the loops of `reading::read_lines` keep, and why they end
use Rattle.std.proofs.Common.{◌≤◌, ◌+◌, length}
use Rattle.script_reading.specs.Readings.{IsWell}
use Rattle.script_reading.proofs.ReadingLaws.{HasRead}
use Rattle.script_reading.proofs.reading.read_lines.Given as goal

abbrev pub invariant-loop-line : goal.invariant-loop-line
invariant-loop-line l = record {
  read : HasRead l.fn.session l.session l.octets l.rest;
  lines : l.session.lines + length l.rest ≤ l.fn.session.lines + length l.octets;
  well : IsWell l.session.stage;
}

abbrev pub decreases-loop-line : goal.decreases-loop-line
decreases-loop-line l = length l.rest
