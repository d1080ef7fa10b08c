-- why `grouping::place_last` answers as its contract says
use Rattle.std.proofs.Common.{◌-◌, length, take, ap, ◌∙◌, arith}
use Rattle.std.proofs.lemmas.List.{length-take}
use Rattle.name_tree.specs.Groups.{Group}
use Rattle.name_tree.proofs.PutLaws.{names-last, none-before}
use Rattle.name_tree.proofs.grouping.place_last.Goals as goal
use Rattle.list_laws.proofs.Distinct.{octets_equal}

pub returns : goal.returns
returns c = names-last c.args.places.now c.push.new.self c.args.groups.now c.last-item.result c.last.inside.name.now (length (take (length c.args.groups.now - 1) c.args.groups.now)) (omega (arith, c.in-len1-up.len_at_least)) c.last-item.is (ap (λ (g : Group). g.name) c.last.view_is)
    (omega (arith, length-take (length c.args.groups.now - 1) c.args.groups.now)) c.requires.placed c.in_ok-push.ensures

pub push-requires : goal.push-requires
push-requires c = c.requires.placed c.last.inside.name.now ∙ none-before c.args.groups.now c.last-item.result c.last.inside.name.now c.requires.groups (omega (arith, c.in-len1-up.len_at_least)) c.last-item.is (octets_equal _ _ (ap (λ (g : Group). g.name) c.last.view_is))
