-- why `nodes::of_leaves` answers as its contract says
use Rattle.std.proofs.Common.{◌<◌, ◌||◌, [], ◌∷◌, ◌++◌, length, map, take, get_or, sym, ap, ap₂, ◌∙◌, arith}
use Rattle.std.proofs.lemmas.List.{take_more, length-map}
use Rattle.std.proofs.lemmas.List.Sums.{fold_more}
use Rattle.std.proofs.lemmas.Option.{unwrap_or-slice_get}
use Rattle.std.specs.List.{list_any}
use Rattle.cfg_lines.specs.Keys.{is_among}
use Rattle.cfg_lines.specs.Paths.{above}
use Rattle.cfg_lines.proofs.KeyLaws.{any-last}
use Rattle.cfg_lines.specs.Sizes.{with_name}
use Rattle.cfg_nodes.proofs.nodes.of_leaves.Goals as goal

pub loop-place-preserved : goal.loop-place-preserved
loop-place-preserved c =
    let place = c.loop-place.place in
    let names = map (λ leaf. leaf.name) c.args.leaves.now in
    let lt : place < length names = omega (arith, c.loop-place-test.true, c.len-place-end.ensures, length-map c.args.leaves.now (λ leaf. leaf.name)) in
    let name = c.name-name.ensures ∙ unwrap_or-slice_get names place [] in
    record {
      even = c.in_ok-hash.ensures.even;
      names = c.in_ok-push_by.ensures.ok ∙ (ap₂ (λ ns n. ns ++ n ∷ []) c.loop-place.invariant.names name ∙ sym (take_more names place [] lt));
      structures = λ node. c.in_ok-hash.ensures.among node ∙ (ap₂ (λ n b. is_among (above n) node || b) name (c.loop-place.invariant.structures node)
          ∙ sym (ap (list_any (λ n. is_among (above n) node)) (take_more names place [] lt) ∙ any-last (λ n. is_among (above n) node) (take place names) (get_or names place [])));
      parts = λ node. c.in_ok-hash.ensures.parts node ∙ (ap₂ (with_name node) (c.loop-place.invariant.parts node) name ∙ sym (fold_more (with_name node) [] names place [] lt));
    }
