-- why `named::push_selection` answers as its contract says
use Rattle.std.proofs.Common.{refl, append_assoc}
use Rattle.object_names.proofs.named.push_selection.Goals as goal

pub returns : goal.returns
returns c = rw (c.in_ok-push_parameter-2.ensures, c.in_ok-push_parameter.ensures, c.in_ok-next.ensures) (simp append_assoc refl)
