-- why `listing::list` answers as its contract says
use Rattle.std.proofs.Common.{ap, subst, length, arith, ◌∙◌}
use Rattle.object_model.specs.Listed.{IsListed}
use Rattle.object_model.specs.Runs.{lines_in}
use Rattle.object_model.proofs.ListingLaws.{listed-next, listed-none}
use Rattle.object_model.proofs.listing.list.Goals as goal

pub loop-domain-init : goal.loop-domain-init
loop-domain-init c = listed-none c.args.config.now _ c.in_ok-listing.ensures.rows c.in_ok-listing.ensures.names c.in_ok-listing.ensures.directories c.in_ok-listing.ensures.stands c.in_ok-listing.ensures.leaves

pub loop-domain-preserved : goal.loop-domain-preserved
loop-domain-preserved c = listed-next c.args.config.now c.args.domains.now (lines_in c.deref.result.now) c.loop-domain.domain-index c.as_slice.result.now c.domain-item.result c.loop-domain.listing _ c.requires.domains (ap lines_in c.deref.ensures.value ∙ (c.in_ok-runs.ensures.lines ∙ c.requires.lines)) c.loop-domain-test.true c.domain-item.is c.as_slice.ensures c.loop-domain.invariant c.in_ok-push_domain.ensures

pub returns : goal.returns
returns c = c.fit.ensures c.args.config.now _ (subst (λ n. IsListed c.args.config.now n c.loop-domain.listing) (omega (arith, c.loop-domain-test.false, c.loop-domain.auto.domain-index-end, ap length c.requires.domains)) c.loop-domain.invariant)
