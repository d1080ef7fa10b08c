-- why `parts::Parts::add_part` answers as its contract says
use Rattle.std.proofs.Common.{[], sym, ap, subst, ◌∙◌}
use Rattle.std.proofs.lemmas.Option.{unwrap_or-slice_get}
use Rattle.list_laws.proofs.Places.{at_any}
use Rattle.cfg_lines.specs.Keys.{added}
use Rattle.cfg_nodes.specs.Indexed.{IsWithin}
use Rattle.cfg_nodes.proofs.PlaceLaws.{part-added}
use Rattle.cfg_nodes.proofs.parts.Parts.add_part.Goals as goal

pub returns-in-Some-clause-parts : goal.returns-in-Some-clause-parts
returns-in-Some-clause-parts c =
    let items = c.args.self.now.parts.items in
    let place = c.in-Some.place in
    let lt = subst (IsWithin c.args.self.now) c.in-Some.is c.requires.within in
    part-added c.args.self.now c.args.above place c.args.part.now c.add.new.self c.in-Some.is lt
    (c.in_ok-add.ensures ∙ ap (λ names. added names c.args.part.now) (c.index_mut.ensures.value ∙ (at_any items place c.index_mut.result.now [] lt ∙ sym (unwrap_or-slice_get items place []))))
