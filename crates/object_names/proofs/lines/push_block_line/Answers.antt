-- why `lines::push_block_line` answers as its contract says
use Rattle.std.proofs.Common.{◌∷◌, ◌++◌, [], ap, ap₂, ◌∙◌, codes, List, ℕ}
use Rattle.bay_model.specs.Generated.{block_names}
use Rattle.bay_model.specs.NamedLines.{path_item}
use Rattle.object_names.proofs.lines.push_block_line.Goals as goal

pub returns : goal.returns
returns c = c.in_ok-push_line.ensures ∙ ap₂ (λ (d : List ℕ) n. c.args.out.now.items ++ record { line = c.args.block.now.line; domain = d; names = n } ∷ []) c.as_slice.ensures
    (c.many.ensures ∙ (c.in_ok-push_block_names.ensures ∙ ap (λ l. l ++ block_names c.args.number (path_item c.args.block.now.ln (codes "BR") c.args.block.now.name)) c.new-names.ensures.items))
