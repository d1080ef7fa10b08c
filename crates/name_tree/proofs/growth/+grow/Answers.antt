-- why `growth::grow` answers as its contract says
use Rattle.std.proofs.Common.{◌≡◌, ◌++◌, [], ◌-◌, List, ℕ, ap, subst, take, refl, ◌∙◌, sym, map, arith}
use Rattle.std.proofs.lemmas.Result.{on_ok_weaker}
use Rattle.bay_model.specs.NameTree.{grown}
use Rattle.bay_model.specs.Places.{Place, places}
use Rattle.name_tree.specs.Groups.{Group}
use Rattle.name_tree.specs.Grown.{IsGrown, items_of, room, spot}
use Rattle.name_tree.proofs.GrowLaws.{grown-more, grown-after, with-room, only-name, on-four, nodes-more, nodes-whole, one-name, spot-is, set-and, whole}
use Rattle.name_tree.proofs.growth.+grow.Goals as goal

pub grow-returns-in-len1-clause-grown : goal.grow-returns-in-len1-clause-grown
grow-returns-in-len1-clause-grown t c =
    on_ok_weaker c.grow_name.result (λ f h. subst (IsGrown c.grow_name.new.all)
    (only-name c.args.levels c.args.cuts.now c.cut-item.result _ _ (omega (arith, c.if-levels-eq0.false)) (omega (arith, c.in-len1.len_at_least)) (omega (arith, c.in-len1.len_below)) c.cut-item.is (sym c.is_itself.ensures ∙ c.if-is_itself.false) c.parted-below.ensures.name c.parted-below.ensures.rest)
    (f [] (with-room c.args.all.now _ c.in_ok-reserve_exact.ensures.items refl refl refl h))) c.grow_name.ensures.grown

pub grow-returns-in-len1-clause-items : goal.grow-returns-in-len1-clause-items
grow-returns-in-len1-clause-items t c =
    on_ok_weaker c.grow_name.result (λ e. e ∙ ap (λ f. c.args.growth.now.items ++ items_of (places c.args.growth.now.path.items f))
    (only-name c.args.levels c.args.cuts.now c.cut-item.result _ _ (omega (arith, c.if-levels-eq0.false)) (omega (arith, c.in-len1.len_at_least)) (omega (arith, c.in-len1.len_below)) c.cut-item.is (sym c.is_itself.ensures ∙ c.if-is_itself.false) c.parted-below.ensures.name c.parted-below.ensures.rest)) c.grow_name.ensures.items

pub grow-returns-in-len1-clause-spots : goal.grow-returns-in-len1-clause-spots
grow-returns-in-len1-clause-spots t c =
    on_ok_weaker c.grow_name.result (λ e. e ∙ ap (λ f. c.args.growth.now.spots.items ++ map spot (places c.args.growth.now.path.items f))
    (only-name c.args.levels c.args.cuts.now c.cut-item.result _ _ (omega (arith, c.if-levels-eq0.false)) (omega (arith, c.in-len1.len_at_least)) (omega (arith, c.in-len1.len_below)) c.cut-item.is (sym c.is_itself.ensures ∙ c.if-is_itself.false) c.parted-below.ensures.name c.parted-below.ensures.rest)) c.grow_name.ensures.spots

pub grow-loop-group-preserved : goal.grow-loop-group-preserved
grow-loop-group-preserved t c =
    let g : Group = c.group-item.result in
    let h : Group = record { name = c.group.inside.name.now; names = c.deref.result.now } in
    let s : h ≡ g = ap (λ ns. record { name = c.group.inside.name.now; names = ns }) c.deref.ensures ∙ c.group.view_is in
    let gs : List Group = c.deref-group-items.result.now in
    let before : List ℕ = c.args.growth.now.path.items in
    let l : ℕ = c.args.levels - 1 in
    let i : ℕ = c.loop-group.group-index in
    record {
      all = λ e. grown-more l gs i g h c.grow_name-in-loop-group.new.all c.loop-group-test.true c.group-item.is s (c.in_ok-grow_name.ensures.grown (take i gs) (c.loop-group.invariant.all e));
      items = nodes-more (λ (p : Place). p.item) before c.loop-group.growth.path.items l gs i g h c.args.growth.now.items c.loop-group.growth.items _ c.loop-group-test.true c.group-item.is s c.loop-group.invariant.path c.loop-group.invariant.items c.in_ok-grow_name.ensures.items;
      spots = nodes-more spot before c.loop-group.growth.path.items l gs i g h c.args.growth.now.spots.items c.loop-group.growth.spots.items _ c.loop-group-test.true c.group-item.is s c.loop-group.invariant.path c.loop-group.invariant.spots c.in_ok-grow_name.ensures.spots;
      path = c.in_ok-grow_name.ensures.path ∙ c.loop-group.invariant.path;
    }

pub grow-returns-clause-grown : goal.grow-returns-clause-grown
grow-returns-clause-grown t c = λ h. whole c.loop-group.all c.args.levels c.args.cuts.now c.deref-group-items.result.now c.loop-group.group-index (omega (arith, c.if-levels-eq0.false)) (omega (arith, c.loop-group-test.false)) (c.deref-group-items.ensures.value ∙ c.in_ok-groups.ensures) (c.loop-group.invariant.all h)

pub grow-returns-clause-items : goal.grow-returns-clause-items
grow-returns-clause-items t c = nodes-whole (λ (p : Place). p.item) c.args.growth.now.path.items c.args.levels c.args.cuts.now c.deref-group-items.result.now c.loop-group.group-index c.args.growth.now.items c.loop-group.growth.items (omega (arith, c.if-levels-eq0.false)) (omega (arith, c.loop-group-test.false)) (c.deref-group-items.ensures.value ∙ c.in_ok-groups.ensures) c.loop-group.invariant.items

pub grow-returns-clause-spots : goal.grow-returns-clause-spots
grow-returns-clause-spots t c = nodes-whole spot c.args.growth.now.path.items c.args.levels c.args.cuts.now c.deref-group-items.result.now c.loop-group.group-index c.args.growth.now.spots.items c.loop-group.growth.spots.items (omega (arith, c.if-levels-eq0.false)) (omega (arith, c.loop-group-test.false)) (c.deref-group-items.ensures.value ∙ c.in_ok-groups.ensures) c.loop-group.invariant.spots

pub grow_name-returns-clause-grown : goal.grow_name-returns-clause-grown
grow_name-returns-clause-grown t c =
    let g : Group = record { name = c.args.name.now; names = c.args.cuts.now } in
    on-four c.add_name.result (λ p a d v gs h. grown-after c.args.levels gs g c.args.all.now c.add_name.new.all c.grow.new.all h (c.in_ok-grow.ensures.grown c.new-below.ensures) (record { parts = p; attrs = a; is_data = d; leaves = v }))
    c.add_name.ensures.parts c.add_name.ensures.attrs c.add_name.ensures.is_data c.add_name.ensures.leaves

pub grow_name-returns-clause-spots : goal.grow_name-returns-clause-spots
grow_name-returns-clause-spots t c =
    let g : Group = record { name = c.args.name.now; names = c.args.cuts.now } in
    on_ok_weaker c.add_name.result (λ e. one-name spot c.args.growth.now.path.items c.enter.new.growth.path.items c.args.levels g c.args.growth.now.spots.items c.add_name.new.spots.items _ c.in_ok-enter.ensures.path
    (spot-is c.args.growth.now.path.items c.args.levels g c.grow.new.all (c.in_ok-grow.ensures.grown c.new-below.ensures))
    (set-and c.args.growth.now.spots.items c.enter.new.growth.spots.items c.grow.new.growth.spots.items c.add_name.new.spots.items _ room _ c.len-place.result (c.len-place.ensures ∙ c.args.growth.now.spots.ok.0) c.in_ok-enter.ensures.spots c.in_ok-grow.ensures.spots e)) c.add_name.ensures.spots
