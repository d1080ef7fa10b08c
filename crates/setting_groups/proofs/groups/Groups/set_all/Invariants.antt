-- what the loops of `groups::Groups::set_all` keep
use Rattle.std.proofs.Common.{◌≡◌, drop}
use Rattle.setting_groups.specs.Frames.{ArePut}
use Rattle.setting_groups.specs.Grouped.{after_values}
use Rattle.setting_groups.proofs.groups.Groups.set_all.Given as goal

abbrev pub invariant-loop-setting : goal.invariant-loop-setting
invariant-loop-setting l = record {
  done : after_values (drop l.setting-index l.settings) l.self ≡ after_values l.settings l.initial.self;
  fit : ArePut l.self (drop l.setting-index l.settings);
}
