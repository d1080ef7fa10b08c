-- why `offers::first_offer` answers as its contract says
use Rattle.std.proofs.Common.{◌∙◌, ◌≡◌, ◌<◌, ℕ, IfSome, Option, None, Some, length, ap, sym, subst, arith}
use Rattle.std.specs.Option.{option_map}
use Rattle.std.specs.Prelude.{if◌then◌else◌}
use Rattle.report_block.specs.declared.offers.Offer.{Offer}
use Rattle.report_block.specs.Offers.{earlier, offered_by}
use Rattle.report_block.specs.Offers.{offered}
use Rattle.report_block.proofs.EarlierLaws.{goes_on}
use Rattle.report_block.proofs.offers.first_offer.Goals as goal
use Rattle.report_block.proofs.offers.first_offer.Goals.{then-comes_before, else-comes_before}

-- what is found once the block is looked at
looked : (c : goal.Joined-comes_before) → earlier (option_map offered c.loop-block.found) (offered_by c.args.a c.loop-block.block c.index-parts-block.result) ≡ option_map offered c.if-comes_before.found
looked c =
    let found = option_map offered c.loop-block.found in
    let offer = offered_by c.args.a c.loop-block.block c.index-parts-block.result in
    elim c.if-comes_before.branch [
      | then-comes_before w ↦ c.comes_before.ensures.first c.loop-block.block ∙ (ap (λ b. if b then offer else found) w.if-comes_before.true ∙ (sym w.offer_of-found.ensures.offer ∙ ap (option_map offered) (sym w.found-is)))
      | else-comes_before w ↦ c.comes_before.ensures.first c.loop-block.block ∙ (ap (λ b. if b then offer else found) w.if-comes_before.false ∙ ap (option_map offered) (sym w.found-is))
    ]

there : (o : Option Offer) (b n : ℕ) → b < n → IfSome o (λ (x : Offer). x.block ≡ b) → IfSome o (λ (x : Offer). x.block < n)
there None b n h is = tt
there (Some x) b n h is = omega (arith, h, is)

-- its block is one of the blocks
within : (c : goal.Joined-comes_before) → IfSome c.if-comes_before.found (λ (o : Offer). o.block < length c.args.parts.now)
within c =
    let is_within : Option Offer → Type 0 = λ found. IfSome found (λ (o : Offer). o.block < length c.args.parts.now) in
    elim c.if-comes_before.branch [
      | then-comes_before w ↦ subst is_within (sym w.found-is) (there w.offer_of-found.result c.loop-block.block (length c.args.parts.now) c.loop-block-test.true w.offer_of-found.ensures.block)
      | else-comes_before w ↦ subst is_within (sym w.found-is) c.loop-block.invariant.within
    ]

pub loop-block-preserved : goal.loop-block-preserved
loop-block-preserved c = record {
  first = goes_on c.args.a c.args.parts.now c.loop-block.block c.index-parts-block.result (option_map offered c.loop-block.found) (option_map offered c.if-comes_before.found)
      c.loop-block-test.true c.index-parts-block.is (looked c) c.loop-block.invariant.first;
  within = within c;
}
