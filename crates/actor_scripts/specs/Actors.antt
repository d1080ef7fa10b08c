-- The numbers of actors, and what each can run.
use Rattle.std.specs.Prelude.{◌<◌, ◌≤◌, ◌^◌, ℕ, List, [], ◌∷◌, length}
use Rattle.sv_base.specs.declared.config.Config.{Config}
use Rattle.actor_scripts.specs.declared.script.Script.{Script}
use Rattle.actor_scripts.specs.Stops.{AreFit}

-- the numbers of actors fall, from below `high`; 0 is none
abbrev pub AreFalling : ℕ → List ℕ → Type 0
AreFalling high [] = Unit {0}
AreFalling high (n ∷ ns) = (0 < n) × (n < high) × AreFalling n ns

-- a script of fewer steps than an actor has turns, which a machine of this configuration can be given
abbrev pub CanPlay : Config → Script → Type 0
CanPlay c s = AreFit c s.steps.items × (length s.steps.items ≤ 2 ^ 55)
