-- why `grouping::put` answers as its contract says
use Rattle.std.proofs.Common.{◌-◌, ◌∷◌, [], map, take, length, ap, sym, ◌∙◌}
use Rattle.name_tree.specs.Groups.{Group, group_name}
use Rattle.name_leaves.specs.Numbers.{number_in}
use Rattle.name_tree.proofs.PutLaws.{put-at, put-none, names-stay, more-front}
use Rattle.name_tree.proofs.grouping.put.Goals as goal

pub push_into-requires : goal.push_into-requires
push_into-requires c = (put-at c.args.groups.now.items c.args.name.now c.args.cut c.in-Some.place (sym (c.in-Some.ensures ∙ ap (λ gs. number_in (map group_name gs) c.args.name.now) c.deref.ensures.value))).within

pub returns-in_ok-push_into-in-Some-clause-placed : goal.returns-in_ok-push_into-in-Some-clause-placed
returns-in_ok-push_into-in-Some-clause-placed c = let none : Group = record { name = []; names = [] } in
    λ other. c.requires.placed other ∙ ap (λ l. number_in (take (length l - 1) l) other) (sym (ap (map group_name) (c.in_ok-push_into-in-Some.ensures none) ∙ names-stay c.args.groups.now.items c.args.cut c.in-Some.place none))

pub returns-in_ok-push_into-in-Some-clause-groups : goal.returns-in_ok-push_into-in-Some-clause-groups
returns-in_ok-push_into-in-Some-clause-groups c = let none : Group = record { name = []; names = [] } in
    c.in_ok-push_into-in-Some.ensures none ∙ (put-at c.args.groups.now.items c.args.name.now c.args.cut c.in-Some.place (sym (c.in-Some.ensures ∙ ap (λ gs. number_in (map group_name gs) c.args.name.now) c.deref.ensures.value))).is none

pub returns-in_ok-push_group-in-None-clause-placed : goal.returns-in_ok-push_group-in-None-clause-placed
returns-in_ok-push_group-in-None-clause-placed c = more-front c.place_last.new.places c.args.groups.now.items _ (record { name = c.args.name.now; names = c.args.cut ∷ [] }) c.in_ok-push_group-in-None.ensures
    (λ other. c.in_ok-place_last-in-None.ensures other ∙ ap (λ gs. number_in (map group_name gs) other) c.deref-in-None.ensures.value)

pub returns-in_ok-push_group-in-None-clause-groups : goal.returns-in_ok-push_group-in-None-clause-groups
returns-in_ok-push_group-in-None-clause-groups c = c.in_ok-push_group-in-None.ensures
    ∙ sym (put-none c.args.groups.now.items c.args.name.now c.args.cut (sym (c.in-None.ensures ∙ ap (λ gs. number_in (map group_name gs) c.args.name.now) c.deref.ensures.value)))
