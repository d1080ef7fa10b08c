-- why `places::add` answers as its contract says
use Rattle.std.proofs.Common.{is_some, ap, ◌∙◌, refl}
use Rattle.std.specs.Map.{lookup}
use Rattle.std.specs.Str.{bytes_eq}
use Rattle.name_leaves.proofs.NumberLaws.{added_as}
use Rattle.name_leaves.proofs.places.add.Goals as goal

pub returns : goal.returns
returns c = λ other. ap (lookup (λ k. bytes_eq other k.now)) c.in_ok-insert.ensures.entries
    ∙ added_as (λ k. k.now) c.args.numbers.now.entries c.args.name c.args.place c.args.name.now other refl (ap is_some c.requires)
