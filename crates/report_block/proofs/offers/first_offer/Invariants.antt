-- what the loops of `offers::first_offer` keep
use Rattle.std.proofs.Common.{◌≡◌, ◌<◌, drop, length, IfSome}
use Rattle.std.specs.Option.{option_map}
use Rattle.report_block.specs.Offers.{earlier, first_offered}
use Rattle.report_block.specs.Offers.{offered}
use Rattle.report_block.proofs.offers.first_offer.Given as goal

-- with the first offer of the blocks that are left, that of all
abbrev pub invariant-loop-block : goal.invariant-loop-block
invariant-loop-block l = record {
  first : earlier (option_map offered l.found) (first_offered l.fn.a l.block (drop l.block l.fn.parts)) ≡ first_offered l.fn.a 0 l.fn.parts;
  within : IfSome l.found (λ o. o.block < length l.fn.parts);
}
