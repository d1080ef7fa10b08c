-- why `reading::Reading::counts` answers as its contract says
use Rattle.std.proofs.Common.{ap, ◌∙◌}
use Rattle.cfg_lines.specs.Facts.{Facts}
use Rattle.cfg_lines.specs.Before.{domains, nodes, attributes, sets, members, blocks, controls}
use Rattle.cfg_reading.proofs.reading.Reading.counts.Goals as goal

pub returns-clause-domains : goal.returns-clause-domains
returns-clause-domains c = ap (λ (f : Facts). f.domains) c.self.invariant.same_facts ∙ ap domains c.self.view_is

pub returns-clause-nodes : goal.returns-clause-nodes
returns-clause-nodes c = ap (λ (f : Facts). f.nodes) c.self.invariant.same_facts ∙ ap nodes c.self.view_is

pub returns-clause-attributes : goal.returns-clause-attributes
returns-clause-attributes c = ap (λ (f : Facts). f.attributes) c.self.invariant.same_facts ∙ ap attributes c.self.view_is

pub returns-clause-sets : goal.returns-clause-sets
returns-clause-sets c = ap (λ (f : Facts). f.sets) c.self.invariant.same_facts ∙ ap sets c.self.view_is

pub returns-clause-members : goal.returns-clause-members
returns-clause-members c = ap (λ (f : Facts). f.members) c.self.invariant.same_facts ∙ ap members c.self.view_is

pub returns-clause-blocks : goal.returns-clause-blocks
returns-clause-blocks c = ap (λ (f : Facts). f.blocks) c.self.invariant.same_facts ∙ ap blocks c.self.view_is

pub returns-clause-controls : goal.returns-clause-controls
returns-clause-controls c = ap (λ (f : Facts). f.controls) c.self.invariant.same_facts ∙ ap controls c.self.view_is
