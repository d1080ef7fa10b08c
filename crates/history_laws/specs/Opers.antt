-- The Opers of controls under enhanced security that a step writes: each that is accepted ends in a termination, which waits beside the
-- replies (IEC 61850-7-2, Operate and CommandTermination).
use Rattle.std.specs.Prelude.{◌≡◌, ◌+◌, ℕ, true, List, [], ◌∷◌, if◌then◌else◌}
use Rattle.std.specs.List.{All}
use Rattle.bay_model.specs.declared.request.Service.{Service}
use Rattle.bay_model.specs.declared.request.Service.TheVariants as services
use Rattle.bay_model.specs.declared.request.Target.{Target}
use Rattle.bay_model.specs.declared.request.Target.TheVariants as targets
use Rattle.bay_model.specs.declared.request.Write.{Write}
use Rattle.bay_model.specs.declared.step.Step.{Step}
use Rattle.bay_model.specs.declared.step.Step.TheVariants as steps
use Rattle.bay_model.specs.Model.{Model, DataSet, Role, calling, operate}
use Rattle.bay_model.specs.Lookups.{node_of}
use Rattle.bay_model.specs.Controls.{is_enhanced}

-- how many a write to a node of this role is
abbrev pub opers_at : Model → Role → ℕ
opers_at c (calling k operate) = if is_enhanced c k then 1 else 0
opers_at c _ = 0

abbrev pub opers_to : Model → Target → ℕ
opers_to c (targets.Node n name) = opers_at c (node_of c n.0).role
opers_to c _ = 0

abbrev pub opers_in : Model → List Write → ℕ
opers_in c [] = 0
opers_in c (w ∷ ws) = opers_to c w.target + opers_in c ws

abbrev pub opers_of : Model → Service → ℕ
opers_of c (services.WriteVars ws) = opers_in c ws
opers_of c _ = 0

abbrev pub opers_by : Model → Step → ℕ
opers_by c (steps.Ask a r) = opers_of c r.service
opers_by c _ = 0

-- how many of these nodes are such
abbrev pub opers_among : Model → List ℕ → ℕ
opers_among c [] = 0
opers_among c (n ∷ ns) = opers_at c (node_of c n).role + opers_among c ns

-- no member of a data set is such, so that no write of a set is: neither one of a configured set, nor one that a client may define
pub record AreApart (c : Model) : Type 0 where
  pub configured : All (λ (s : DataSet). opers_among c s.nodes ≡ 0) c.sets
  pub defined : (n : ℕ) → (node_of c n).allowed ≡ true → opers_at c (node_of c n).role ≡ 0
