-- why `store::Store::copy_from` answers as its contract says
use Rattle.std.proofs.Common.{◌≡◌, ◌<◌, ap, sym, subst, ◌∙◌, arith, List, length, map, slice_set}
use Rattle.std.proofs.lemmas.List.{map-set, get_or-map, length-map}
use Rattle.value_store.specs.Stored.{Stored, stored, attribute, no_attribute, with_value}
use Rattle.value_store.proofs.store.Store.copy_from.Goals as goal

pub returns-clause-set : goal.returns-clause-set
returns-clause-set c =
    let cells = c.self.inside.cells.items in
    let there : c.args.attr.0 < length cells = omega (arith, c.requires.there, ap length c.self.view_is, length-map cells stored) in
    let at : stored c.index_mut.result.now ≡ attribute (map stored cells) c.args.attr.0
    = ap stored c.index_mut.ensures.value ∙ sym (get_or-map stored cells c.args.attr.0 c.index_mut.result.now no_attribute there) in
    subst (λ (all : List Stored). map stored (slice_set cells c.args.attr.0 c.copy_from.new.self) ≡ slice_set all c.args.attr.0 (with_value c.args.from.now.value (attribute all c.args.attr.0))) c.self.view_is
    (map-set stored cells c.args.attr.0 c.copy_from.new.self
    ∙ ap (λ (s : Stored). slice_set (map stored cells) c.args.attr.0 s) (c.copy_from.ensures.set ∙ ap (with_value c.args.from.now.value) at))
