-- why `keys::Names::add` answers as its contract says
use Rattle.std.proofs.Common.{◌||◌, sym, ap, ◌∙◌}
use Rattle.cfg_lines.specs.Keys.{is_among}
use Rattle.cfg_lines.specs.Paths.{above, clashes, is_structure, is_taken}
use Rattle.cfg_lines.proofs.KeyLaws.{any-added}
use Rattle.cfg_lines.proofs.keys.Names.add.Goals as goal

pub invariant_of-self : goal.invariant_of-self
invariant_of-self c = λ q. c.in-Ok.ensures.structures q
    ∙ (ap (λ b. is_among (above c.args.path.now) q || b) (c.self.invariant q)
    ∙ (sym (any-added (λ other. is_among (above other) q) c.self.inside.paths c.args.path.now) ∙ sym (ap (λ ks. is_structure ks q) c.in-Ok.ensures.paths)))

pub returns : goal.returns
returns c = λ q. ap (λ ks. is_taken ks q) c.in-Ok.ensures.paths
    ∙ (any-added (λ other. clashes q other) c.self.inside.paths c.args.path.now ∙ ap (λ ks. clashes q c.args.path.now || is_taken ks q) c.self.view_is)
