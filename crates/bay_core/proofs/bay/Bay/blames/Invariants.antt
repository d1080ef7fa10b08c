-- what the loops of `bay::Bay::blames` keep
use Rattle.std.proofs.Common.{◌≡◌, map, take}
use Rattle.bay_model.specs.declared.request.Write.{Write}
use Rattle.bay_core.specs.Commanded.{blame_to}
use Rattle.bay_core.proofs.bay.Bay.blames.Given as goal

abbrev pub invariant-loop-write : goal.invariant-loop-write
invariant-loop-write l = l.blames.items ≡ map (λ (w : Write). blame_to l.self.config w.target w.value) (take l.write-index l.writes)
