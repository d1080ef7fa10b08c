-- what the loops of `replies::Replies::read_targets` keep
use Rattle.std.proofs.Common.{◌≡◌, ◌+◌, ◌++◌, ◌<◌, drop}
use Rattle.bay_replies.specs.Reading.{early_reads, least_len}
use Rattle.bay_replies.proofs.replies.Replies.read_targets.Given as goal

abbrev pub invariant-loop-target : goal.invariant-loop-target
invariant-loop-target l = record {
  small : l.size < 4294967295;
  read : l.results.items ++ early_reads l.self (drop l.target-index l.targets) ≡ early_reads l.self l.targets;
  count : least_len l.self l.targets + l.left ≡ l.size + least_len l.self (drop l.target-index l.targets);
}
