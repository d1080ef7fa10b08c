-- why `finding::first_of` answers as its contract says
use Rattle.std.proofs.Common.{◌≡◌, ◌∙◌, length, position, sym, ap, ap₂, arith}
use Rattle.bay_model.specs.Named.{nodes}
use Rattle.name_tree.specs.Finding.{is_cut_below, least}
use Rattle.name_tree.proofs.CutLaws.{first-none, first-next, first-of-all}
use Rattle.name_tree.proofs.finding.first_of.Goals as goal

pub loop-at-init : goal.loop-at-init
loop-at-init c = λ c' f. sym (first-none c.args.reference.now (nodes c'))

pub loop-at-preserved : goal.loop-at-preserved
loop-at-preserved c = λ c' f. c.least-first.ensures ∙ (ap₂ least (c.loop-at.invariant c' f) (c.cut_at.ensures c' f) ∙ sym (first-next c.args.reference.now c.loop-at.at (nodes c')))

pub returns : goal.returns
returns c = λ c' f. let end : c.loop-at.at ≡ length c.args.reference.now = omega (arith, c.loop-at-test.false, c.loop-at.auto.at-end) in
    c.loop-at.invariant c' f ∙ (ap (λ k. position (is_cut_below c.args.reference.now k) (nodes c')) end ∙ first-of-all c.args.reference.now (nodes c'))
