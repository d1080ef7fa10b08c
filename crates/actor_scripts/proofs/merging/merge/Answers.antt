-- why `merging::merge` answers as its contract says
use Rattle.std.proofs.Common.{List, length, Some, sym, ap, subst, ◌∙◌}
use Rattle.std.specs.Prelude.{Result, Ok, Err, IfOk}
use Rattle.std.proofs.lemmas.List.{length-map}
use Rattle.sv_base.specs.declared.config.Config.{Config}
use Rattle.bay_model.specs.Answers.{History}
use Rattle.bay_histories.specs.Rules.{Rules}
use Rattle.actor_scripts.specs.declared.made.Made.{Made}
use Rattle.actor_scripts.specs.Scripts.{made_of}
use Rattle.actor_scripts.specs.Merging.{AreRight}
use Rattle.actor_scripts.proofs.Lists.{all_right, length_made}
use Rattle.actor_scripts.proofs.merging.merge.Goals as goal

ok_on : {A E : Type 0} (P Q : A → Type 0) (r : Result A E) → IfOk r P → ((a : A) → P a → Q a) → IfOk r Q
ok_on P Q (Ok a) p f = f a p
ok_on P Q (Err e) p f = p

pub returns : goal.returns
returns c = ok_on _ _ c.filled.result c.filled.ensures
    (λ v is (rules : Rules) (config : Config) (h : History) n are.
    all_right (made_of rules config h) v.items
    (length_made rules config h ∙ (sym n ∙ (sym c.loop-part.invariant.0 ∙ (ap (λ (xs : List _). length xs) (sym is) ∙ length-map v.items (λ (x : Made). Some x)))))
    (subst (AreRight (made_of rules config h)) (sym is) (c.loop-part.invariant.2 rules config h are)))
