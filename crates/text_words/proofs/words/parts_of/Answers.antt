-- why `words::parts_of` answers as its contract says
use Rattle.std.proofs.Common.{◌≡◌, List, map, ap, ◌∙◌, rules}
use Rattle.std.specs.Prelude.{◌==◌, Option, Result, Ok, Err, MatchResult, IfOk}
use Rattle.std.specs.Iterator.{DrainsIf}
use Rattle.std.proofs.lemmas.Iterator.{YieldsList, items_from_drains}
use Rattle.std.proofs.lemmas.Iterator.Splits.{YieldsList-from_slice_split}
use Rattle.smallvec.specs.SmallVec.{SmallVec}
use Rattle.text_words.proofs.words.parts_of.Goals as goal

-- what a chain yields, collected with `v` of each item
map_from_collect : {S A B E : Type 0} {steps : S → Option A → S → Type 0} {v : A → B} {s : S} {all : List B} (r : Result (SmallVec A) E)
    → MatchResult r (λ w. (xs : List A) × DrainsIf steps (Unit {0}) s xs × (w.items ≡ xs)) (λ _. Unit {0}) → YieldsList steps v s all → IfOk r (λ w. map v w.items ≡ all)
map_from_collect {S} {A} {B} {E} {steps} {v} (Ok w) d e = ap (map v) d.2 ∙ items_from_drains d.0 d.1 e
map_from_collect (Err x) d e = tt

pub returns : goal.returns
returns c = map_from_collect _ c.collect.ensures.ran
    (YieldsList-from_slice_split _ (λ b. b == c.args.separator) c.args.octets.now c.split.ensures.rest c.split.ensures.done c.split.ensures.closure (λ x b q k. search rules))
