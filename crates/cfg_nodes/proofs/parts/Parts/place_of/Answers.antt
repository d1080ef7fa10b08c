-- why `parts::Parts::place_of` answers as its contract says
use Rattle.std.proofs.Common.{Some, [], ◌∷◌, ◌++◌, sym, ap, ap₂, ◌∙◌}
use Rattle.octet_rows.specs.Found.{place_in}
use Rattle.cfg_nodes.specs.Indexed.{parts_of}
use Rattle.std.specs.Str.{bytes_eq}
use Rattle.cfg_lines.specs.Keys.{is_among}
use Rattle.cfg_lines.proofs.KeyLaws.{any-last}
use Rattle.cfg_nodes.proofs.PlaceLaws.{parts-pushed, place-pushed, among-there}
use Rattle.cfg_nodes.proofs.parts.Parts.place_of.Goals as goal

pub returns-clause-place : goal.returns-clause-place
returns-clause-place c =
    let node = c.args.node.now in
    ap (λ rows. place_in rows node) c.in_ok-push_by.ensures.ok ∙ (place-pushed c.args.self.now.structures node (sym c.place_by.ensures ∙ c.in_default.is) ∙ ap Some (sym c.len-place.ensures))

pub returns-clause-parts : goal.returns-clause-parts
returns-clause-parts c = λ other.
    let items = c.args.self.now.parts.items in
    ap₂ (λ ps rows. parts_of ps (place_in rows other)) (c.in_ok-push.ensures.items ∙ ap (λ names. items ++ names ∷ []) c.new.ensures) c.in_ok-push_by.ensures.ok
    ∙ parts-pushed c.args.self.now.structures items c.args.node.now (sym c.place_by.ensures ∙ c.in_default.is) c.requires.even other

pub returns-clause-among : goal.returns-clause-among
returns-clause-among c = λ q. ap (λ rows. is_among rows q) c.in_ok-push_by.ensures.ok ∙ any-last (λ row. bytes_eq q row) c.args.self.now.structures c.args.node.now

pub returns-in-Some-clause-among : goal.returns-in-Some-clause-among
returns-in-Some-clause-among c = λ q. sym (among-there c.args.self.now.structures c.args.node.now c.in-Some.place (sym c.place_by.ensures ∙ c.in-Some.is) q)
