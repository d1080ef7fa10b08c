-- A script's own bound at a line: how many replies its association can have waiting there, by the lines of the script before it, from its
-- newest `open` on. A request adds one, and a `take` takes one away, where one is there; each Oper of a control under enhanced security that
-- the script wrote adds one, which no `take` takes away, since a `take` may have given its termination in place of a reply.
use Rattle.std.specs.Prelude.{◌≡◌, ◌+◌, ◌⊎◌, ℕ, suc, Bool, true, false, List, [], ◌∷◌, nat_le, Option, None, Some, if◌then◌else◌}
use Rattle.bay_model.specs.declared.step.Step.{Step}
use Rattle.bay_model.specs.declared.step.Step.TheVariants as steps
use Rattle.bay_model.specs.Model.{Model}
use Rattle.bay_model.specs.Named.{configured_model}
use Rattle.history_laws.specs.Opers.{opers_by}
use Rattle.history_laws.specs.Queues.{waits_behind, opers_behind}
use Rattle.actor_scripts.specs.declared.script.TimedStep.{TimedStep}
use Rattle.script_plans.specs.Plans.{Script, Plan, script_of}
use Rattle.script_plans.specs.declared.line.StepLine.{StepLine}
use Rattle.race_records.specs.Verdicts.{lesser}

-- a request for which there is no memory
abbrev pub is_beyond : ℕ → Step → Bool
is_beyond n (steps.Ask a r) = nat_le 16 n
is_beyond n _ = false

-- The number of the first line of actor k's script at whose request the bound is at least 16. Before these lines it is n and m: n replies by
-- requests and `take` lines, and m Opers.
abbrev pub first_beyond : Model → ℕ → ℕ → ℕ → List StepLine → List TimedStep → Option ℕ
first_beyond c k n m (l ∷ ls) (s ∷ ss) = if is_beyond (n + m) s.step then Some l.number else first_beyond c k (waits_behind k s.step n) (opers_behind c k s.step m) ls ss
first_beyond c k n m _ _ = None

abbrev pub beyond_in : Model → ℕ → Option Script → Option ℕ
beyond_in c k None = None
beyond_in c k (Some s) = first_beyond c k 0 0 s.lines s.steps

abbrev pub lowest_from : Model → ℕ → List (Option Script) → Option ℕ
lowest_from c k [] = None
lowest_from c k (s ∷ ss) = lesser (beyond_in c k s) (lowest_from c (suc k) ss)

-- the lowest of all scripts
abbrev pub lowest_beyond : Plan → Option ℕ
lowest_beyond p = lowest_from (configured_model p.config) 0 p.scripts

-- this is the number of a line, the first or a later one, at whose request the bound is at least 16
abbrev pub IsBeyond : Model → ℕ → ℕ → ℕ → List StepLine → List TimedStep → ℕ → Type 0
IsBeyond c k n m (l ∷ ls) (s ∷ ss) line = ((is_beyond (n + m) s.step ≡ true) × (l.number ≡ line)) ⊎ IsBeyond c k (waits_behind k s.step n) (opers_behind c k s.step m) ls ss line
IsBeyond c k n m _ _ line = ⊥

abbrev pub IsBeyondIn : Model → ℕ → Option Script → ℕ → Type 0
IsBeyondIn c k None line = ⊥
IsBeyondIn c k (Some s) line = IsBeyond c k 0 0 s.lines s.steps line

-- of a script of the plan
abbrev pub IsBeyondOf : Plan → ℕ → Type 0
IsBeyondOf p line = (k : ℕ) × IsBeyondIn (configured_model p.config) k (script_of p k) line

-- no step of these writes such an Oper
abbrev pub WriteNoOper : Model → List TimedStep → Type 0
WriteNoOper c [] = Unit {0}
WriteNoOper c (s ∷ ss) = (opers_by c s.step ≡ 0) × WriteNoOper c ss

abbrev pub WritesNoOper : Model → Option Script → Type 0
WritesNoOper c None = Unit {0}
WritesNoOper c (Some s) = WriteNoOper c s.steps

-- no script of the plan writes one, as where there is no such control
abbrev pub IsWithoutOpers : Plan → Type 0
IsWithoutOpers p = (k : ℕ) → WritesNoOper (configured_model p.config) (script_of p k)
