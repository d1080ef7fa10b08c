-- why `members::members_of` answers as its contract says
use Rattle.std.proofs.Common.{◌∙◌, ◌+◌, ◌++◌, ◌∷◌, List, [], ap, arith, take}
use Rattle.std.specs.Prelude.{option_map}
use Rattle.bay_model.specs.declared.report.Member.{Member}
use Rattle.block_reports.specs.Again.{front_member, front_seen}
use Rattle.block_reports.proofs.AgainLaws.{one_more, all_read}
use Rattle.block_reports.proofs.members.members_of.Goals as goal

pub loop-front-preserved : goal.loop-front-preserved
loop-front-preserved c =
    let count = c.loop-front.count in
    let member = c.in_ok-member_from.field-0 in
    let grown = c.in_ok-put_member.ensures.up_to ∙ ap (λ (l : List Member). l ++ member ∷ []) c.spare_member-spare.ensures.before in
    record {
      within = omega (arith, c.in_ok-put_member.ensures.there);
      read = λ ks are.
          one_more c.args.model.now c.args.set.now ks (take count c.loop-front.items.items) (take (count + 1) c.put_member.new.items.items) c.loop-front.rest.now c.in-Some.front.rest.now (front_member c.in-Some.front) member
          (c.loop-front.invariant.read ks are) c.in-Some.ensures.exact c.in-Some.ensures.shorter c.in_ok-member_from.ensures grown;
    }

pub returns : goal.returns
returns c = λ ks are.
    c.from_vec.ensures ∙ (c.truncate.ensures.items ∙ all_read c.args.model.now c.args.set.now ks (take c.loop-front.count c.loop-front.items.items) c.loop-front.rest.now (option_map front_seen c.front_of.result)
    (c.loop-front.invariant.read ks are) c.front_of.ensures.exact (ap (option_map front_seen) c.in_default.is))
