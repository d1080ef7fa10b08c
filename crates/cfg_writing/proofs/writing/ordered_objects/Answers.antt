-- why `writing::ordered_objects` answers as its contract says
use Rattle.std.proofs.Common.{rules, ap, ◌∙◌}
use Rattle.std.proofs.lemmas.List.Sorted.{answers_always}
use Rattle.cfg_writing.specs.Written.{in_order}
use Rattle.cfg_writing.proofs.OrderLaws.{key, ordered}
use Rattle.cfg_writing.proofs.writing.ordered_objects.Goals as goal

pub returns : goal.returns
returns c = let keys = answers_always _ _ _ (λ f a r next called. search rules) in
    ordered c.in_ok-objects.objects.items _ (c.in_ok-sort_by_key.ensures.sorted key keys) (c.in_ok-sort_by_key.ensures.stable key keys) ∙ ap in_order c.in_ok-objects.ensures
