-- why `places::Places::push` answers as its contract says
use Rattle.name_leaves.proofs.NumberLaws.{place-push}
use Rattle.name_leaves.proofs.places.Places.push.Goals as goal

pub returns : goal.returns
returns c = λ names h e other. place-push names c.args.place c.args.name.now other _ _ e (h other) (c.in_ok-add.ensures other)
