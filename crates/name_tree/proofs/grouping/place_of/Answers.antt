-- why `grouping::place_of` answers as its contract says
use Rattle.std.proofs.Common.{◌-◌, length, Some, ap, sym, ◌∙◌, arith}
use Rattle.std.proofs.lemmas.List.{length-take}
use Rattle.std.specs.Str.{bytes_eq}
use Rattle.name_tree.specs.Groups.{Group}
use Rattle.name_tree.proofs.PutLaws.{place-end, place-front}
use Rattle.name_tree.proofs.grouping.place_of.Goals as goal

pub returns-then-eq : goal.returns-then-eq
returns-then-eq c = ap Some (omega (arith, length-take (length c.args.groups.now - 1) c.args.groups.now))
    ∙ place-end c.args.groups.now c.last-item.result c.args.name.now c.requires.groups (omega (arith, c.in-len1-up.len_at_least)) c.last-item.is
    (ap (λ (g : Group). bytes_eq c.args.name.now g.name) (sym c.last.view_is) ∙ (sym c.eq.ensures ∙ c.if-eq.true))

pub returns : goal.returns
returns c = c.place_of.ensures ∙ (c.requires.placed c.args.name.now ∙ place-front c.args.groups.now c.last-item.result c.args.name.now (omega (arith, c.in-len1-up.len_at_least)) c.last-item.is
    (ap (λ (g : Group). bytes_eq c.args.name.now g.name) (sym c.last.view_is) ∙ (sym c.eq.ensures ∙ c.if-eq.false)))
