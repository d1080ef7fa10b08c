-- why `judging::has_empty` answers as its contract says
use Rattle.std.proofs.Common.{List, ℕ, length, rules, tests, sym, ◌∙◌}
use Rattle.std.specs.Prelude.{◌==◌}
use Rattle.std.specs.Borrow.{Bor}
use Rattle.std.proofs.lemmas.Iterator.{YieldsList-from_slice}
use Rattle.std.proofs.lemmas.Iterator.Search.{any_from_yields_List}
use Rattle.cfg_lines.proofs.KeyLaws.{any-map}
use Rattle.cfg_parser.proofs.judging.has_empty.Goals as goal

pub returns : goal.returns
returns c = any_from_yields_List (λ (w : Bor (List ℕ)). length w.now == 0) _ _ _ c.any.ensures.ran (YieldsList-from_slice c.args.words.now cc) (λ x b q k. search (rules, tests))
    ∙ sym (any-map (λ (w : List ℕ). length w == 0) (λ (w : Bor (List ℕ)). w.now) c.args.words.now)
