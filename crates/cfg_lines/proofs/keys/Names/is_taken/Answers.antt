-- why `keys::Names::is_taken` answers as its contract says
use Rattle.std.proofs.Common.{ap, ◌∙◌, sym}
use Rattle.std.proofs.lemmas.Bool.{or_left, or_right}
use Rattle.cfg_lines.specs.Paths.{is_taken}
use Rattle.cfg_lines.proofs.PathLaws.{taken-split, second, kept-back, let-through}
use Rattle.cfg_lines.proofs.keys.Names.is_taken.Goals as goal

pub returns-then-has_by : goal.returns-then-has_by
returns-then-has_by c =
    c.if-has_by.true ∙ (sym (or_left _ _ (or_left _ _ (sym c.has_by.ensures ∙ c.if-has_by.true)))
    ∙ (sym (taken-split c.self.inside.paths c.args.path.now) ∙ ap (λ ks. is_taken ks c.args.path.now) c.self.view_is))

pub returns-else-has_by : goal.returns-else-has_by
returns-else-has_by c =
    c.has_by-else-has_by.ensures ∙ (c.self.invariant c.args.path.now
    ∙ (sym (second _ _ _ (sym c.has_by.ensures ∙ c.if-has_by.false) (let-through _ _ _ (sym c.number_of_free.ensures ∙ c.in-Some.is)))
    ∙ (sym (taken-split c.self.inside.paths c.args.path.now) ∙ ap (λ ks. is_taken ks c.args.path.now) c.self.view_is)))

pub returns-in-None : goal.returns-in-None
returns-in-None c =
    sym (or_right _ _ (kept-back _ _ (sym c.number_of_free.ensures ∙ c.in-None.is)))
    ∙ (sym (taken-split c.self.inside.paths c.args.path.now) ∙ ap (λ ks. is_taken ks c.args.path.now) c.self.view_is)
