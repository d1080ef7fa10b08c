-- what the loops of `groups::Groups::place` keep
use Rattle.std.proofs.Common.{◌≡◌, ◌+◌, drop}
use Rattle.std.specs.Option.{option_map}
use Rattle.setting_groups.specs.Grouped.{place_in}
use Rattle.setting_groups.proofs.groups.Groups.place.Given as goal

abbrev pub invariant-loop-at : goal.invariant-loop-at
invariant-loop-at l = option_map (λ k. l.at + k) (place_in l.attr.0 (drop l.at l.self.settings)) ≡ place_in l.attr.0 l.self.settings
