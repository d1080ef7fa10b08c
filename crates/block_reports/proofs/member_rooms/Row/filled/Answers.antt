-- why `member_rooms::Row::filled` answers as its contract says
use Rattle.std.proofs.Common.{◌∙◌, List, ap, arith, length, refl}
use Rattle.std.specs.Prelude.{option_map}
use Rattle.bay_model.specs.declared.report.Member.{Member}
use Rattle.block_reports.specs.Again.{front_member, front_seen}
use Rattle.block_reports.proofs.AgainLaws.{all_read, fill_first, fill_one}
use Rattle.block_reports.proofs.member_rooms.Row.filled.Goals as goal

pub loop-front-init : goal.loop-front-init
loop-front-init c = record {
  filling = λ ks few. fill_first c.args.model.now c.args.set.now ks c.args.self c.args.octets.now c.requires.empty few;
  count = omega (arith, ap (λ (l : List Member). length l) c.requires.empty);
}

pub loop-front-preserved : goal.loop-front-preserved
loop-front-preserved c = record {
  filling = λ ks few. fill_one c.args.model.now c.args.set.now ks c.loop-front.row c.put.new.self c.loop-front.rest.now c.in-Some.front.rest.now (front_member c.in-Some.front) _
      (c.loop-front.invariant.filling ks few) c.in-Some.ensures.exact c.in-Some.ensures.shorter refl c.put.ensures.put;
  count = c.put.ensures.kept ∙ c.loop-front.invariant.count;
}

pub returns-clause-members : goal.returns-clause-members
returns-clause-members c = λ ks few.
    c.into_parts.ensures.members ∙ all_read c.args.model.now c.args.set.now ks c.loop-front.row.items c.loop-front.rest.now (option_map front_seen c.front_of.result)
    (c.loop-front.invariant.filling ks few).half c.front_of.ensures.exact (ap (option_map front_seen) c.in_default.is)

pub returns-clause-count : goal.returns-clause-count
returns-clause-count c = omega (arith, ap (λ (l : List Member). length l) c.into_parts.ensures.members, c.into_parts.ensures.count, c.loop-front.invariant.count)
