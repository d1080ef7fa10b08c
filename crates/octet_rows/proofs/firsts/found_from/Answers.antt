-- why `firsts::found_from` answers as its contract says
use Rattle.std.proofs.Common.{get_or, refl, ◌-◌}
use Rattle.octet_rows.proofs.ChainLaws.{walk-next}
use Rattle.octet_rows.specs.Chains.{no_entry, walk}
use Rattle.octet_rows.proofs.firsts.found_from.Goals as goal

pub loop-at-preserved : goal.loop-at-preserved
loop-at-preserved c =
    let es = c.args.entries.now in
    let entry = get_or es (c.loop-at.at - 1) no_entry in
    let last = walk c.args.start es c.args.start c.args.number in
    let next = walk-next es c.args.number c.loop-at.at entry no_entry last c.requires.back c.loop-at-test.true c.loop-at.invariant.within refl c.if-entry-number.false c.loop-at.invariant.found in
    record { within = next.0; found = next.1 }
