-- why `words::first_space` answers as its contract says
use Rattle.std.proofs.Common.{rules}
use Rattle.run_record.proofs.SpaceLaws.{near-space, far-space, no-space}
use Rattle.run_record.proofs.words.first_space.Goals as goal

pub returns-in_err-memchr-in-None : goal.returns-in_err-memchr-in-None
returns-in_err-memchr-in-None c = rw c.from_residual.ensures (no-space c.args.octets.now c.min-near.result (search rules) (search rules) c.in_err-memchr-in-None.ensures)

pub returns-in-Some : goal.returns-in-Some
returns-in-Some c = near-space c.args.octets.now c.min-near.result c.in-Some.at (search rules) (search rules) (search rules) (search rules)

pub returns-in_ok-memchr-in-None : goal.returns-in_ok-memchr-in-None
returns-in_ok-memchr-in-None c = far-space c.args.octets.now c.min-near.result c.in_ok-memchr-in-None.field-0 (search rules) (search rules) c.in_ok-memchr-in-None.ensures
