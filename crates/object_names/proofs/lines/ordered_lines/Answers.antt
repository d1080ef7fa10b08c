-- why `lines::ordered_lines` answers as its contract says
use Rattle.std.proofs.Common.{ℕ, rules, ap, ◌∙◌, ◌++◌}
use Rattle.std.proofs.lemmas.List.Sorted.{answers_always}
use Rattle.bay_model.specs.NamedLines.{Line, lines, in_order}
use Rattle.object_names.proofs.LineLaws.{sorted_is}
use Rattle.object_names.proofs.lines.ordered_lines.Goals as goal

abbrev number : Line → ℕ
number l = l.line

pub returns : goal.returns
returns c = let keys = answers_always _ _ _ (λ f a r next called. search rules) in
    sorted_is c.push_all.new.out.items _ (c.in_ok-sort_by_key.ensures.sorted number keys) (c.in_ok-sort_by_key.ensures.stable number keys) ∙ ap in_order (c.in_ok-push_all.ensures ∙ ap (λ l. l ++ lines c.args.config.now) c.in_ok-lines.ensures.items)
