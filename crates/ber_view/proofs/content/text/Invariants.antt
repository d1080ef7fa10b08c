-- what the loops of `content::text` keep
use Rattle.std.proofs.Common.{◌≡◌, ℕ, ◌<◌, get_or, drop}
use Rattle.ber_grammar.specs.Content.{IsVisible}
use Rattle.ber_grammar.specs.Reading.{all_visible}
use Rattle.ber_view.proofs.content.text.Given as goal

abbrev pub invariant-loop-b : goal.invariant-loop-b
invariant-loop-b l = record {
  passed : (k : ℕ) → k < l.b-index → IsVisible (get_or l.content k 0);
  left : all_visible (drop l.b-index l.content) ≡ all_visible l.content;
}
