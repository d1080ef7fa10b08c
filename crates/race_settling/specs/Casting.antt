-- The actors of a plan.
use Rattle.std.specs.Prelude.{◌≡◌, ◌≢◌, ◌<◌, ℕ, suc, true, is_some, slice_index_or, slice_set, List, [], ◌∷◌, ◌++◌, map, Option, None, Some}
use Rattle.script_plans.specs.Plans.{Script}
use Rattle.actor_scripts.specs.declared.script.Script.{Script as Part}
use Rattle.actor_scripts.specs.declared.script.TimedStep.{TimedStep}
use Rattle.race_settling.specs.declared.casting.Role.{Role}

-- what the actor of a script, and that of a role, is to do
abbrev pub script_steps : Option Script → Option (List TimedStep)
script_steps None = None
script_steps (Some s) = Some s.steps

abbrev pub role_steps : Option Role → Option (List TimedStep)
role_steps None = None
role_steps (Some r) = Some r.steps.items

-- the place of its script in the input
abbrev pub script_place : Option Script → Option ℕ
script_place None = None
script_place (Some s) = Some s.place

abbrev pub role_place : Option Role → Option ℕ
role_place None = None
role_place (Some r) = Some r.place

-- ---- gates

-- no place is this one
abbrev pub NoneIs : ℕ → List (Option ℕ) → Type 0
NoneIs n [] = Unit {0}
NoneIs n (None ∷ os) = NoneIs n os
NoneIs n (Some m ∷ os) = (m ≢ n) × NoneIs n os

-- each place is below 16, and of one role alone
abbrev pub AreSeats : List (Option ℕ) → Type 0
AreSeats [] = Unit {0}
AreSeats (None ∷ os) = AreSeats os
AreSeats (Some n ∷ os) = (n < 16) × NoneIs n os × AreSeats os

-- there is a gate
abbrev pub HasGate : {G : Type 0} → List (Option G) → ℕ → Type 0
HasGate gates n = is_some (slice_index_or gates n None) ≡ true

-- at each of these places
abbrev pub HaveGates : {G : Type 0} → List (Option G) → List (Option ℕ) → Type 0
HaveGates gates [] = Unit {0}
HaveGates gates (None ∷ os) = HaveGates gates os
HaveGates gates (Some n ∷ os) = HasGate gates n × HaveGates gates os

-- the gate of a place is taken, if there is one
abbrev pub without_gate : {G : Type 0} → List (Option G) → Option ℕ → List (Option G)
without_gate gates None = gates
without_gate gates (Some n) = slice_set gates n None

-- ---- actors

-- the script of the actor of this number, if it has a role
abbrev pub cast_one : ℕ → Option Role → List Part
cast_one n None = []
cast_one n (Some r) = record { actor = n; steps = r.steps } ∷ []

-- the scripts of roles, which have the numbers from n up, the highest first
abbrev pub cast_from : ℕ → List (Option Role) → List Part
cast_from n [] = []
cast_from n (None ∷ rs) = cast_from (suc n) rs
cast_from n (Some r ∷ rs) = cast_from (suc n) rs ++ record { actor = n; steps = r.steps } ∷ []

-- the actors are those of these scripts
abbrev pub IsCast : List Part → List (Option Script) → Type 0
IsCast ss slots = (roles : List (Option Role)) × (map role_steps roles ≡ map script_steps slots) × (ss ≡ cast_from 0 roles)
