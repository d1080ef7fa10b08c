-- why `keys::Names::is_one_taken` answers as its contract says
use Rattle.std.proofs.Common.{sym, ap, ◌∙◌}
use Rattle.std.proofs.lemmas.List.Folds.{list_any_at}
use Rattle.cfg_lines.specs.Keys.{octets_of}
use Rattle.cfg_lines.specs.Paths.{is_taken}
use Rattle.cfg_lines.proofs.KeyLaws.{any-map}
use Rattle.cfg_lines.proofs.keys.Names.is_one_taken.Goals as goal

pub returns-then-is_taken : goal.returns-then-is_taken
returns-then-is_taken c = sym (any-map (λ path. is_taken c.args.self.now path) octets_of c.args.paths.now
    ∙ list_any_at (λ v. is_taken c.args.self.now (octets_of v)) c.args.paths.now c.loop-path.path-index c.path-item.result c.loop-path-test.true
    (ap (λ v. is_taken c.args.self.now (octets_of v)) (sym c.path-item.is) ∙ (ap (is_taken c.args.self.now) (sym c.deref.ensures.value) ∙ (sym c.is_taken.ensures ∙ c.if-is_taken.true))))
