-- What holds of every plan: its configuration is that of its lines, and each line of a script is told by the script's own lines
-- before it.
use Rattle.std.specs.Prelude.{◌≡◌, ◌≢◌, ◌<◌, ◌≤◌, ℕ, true, List, [], ◌∷◌, ◌++◌, length, codes, Option, None, Some, Ok}
use Rattle.sv_base.specs.declared.config.Config.{Config}
use Rattle.cfg_parser.specs.Looking.{config_at}
use Rattle.run_record.specs.Judging.{line_at}
use Rattle.run_record.specs.declared.line.RecLine.{RecLine}
use Rattle.record_steps.specs.Resolved.{told_of}
use Rattle.record_steps.specs.Told.{turn}
use Rattle.record_outcome.specs.Histories.{octets_of, form_at}
use Rattle.record_outcome.specs.Records.{most_lines}
use Rattle.record_outcome.specs.Grammar.{IsInner, Each}
use Rattle.script_lines.specs.Parties.{may_have}
use Rattle.script_lines.specs.declared.party.Party.{Party}
use Rattle.script_lines.specs.declared.party.Party.TheVariants as parties
use Rattle.actor_scripts.specs.Stops.{AreFit}
use Rattle.actor_scripts.specs.declared.script.TimedStep.{TimedStep}
use Rattle.history_laws.specs.Written.{actor_of}
use Rattle.script_plans.specs.Forms.{form_in, IsFit}
use Rattle.script_plans.specs.Plans.{Script, Plan, script_of}
use Rattle.script_plans.specs.declared.form.ScriptForm.{ScriptForm}
use Rattle.script_plans.specs.declared.form.ScriptForm.TheVariants as forms
use Rattle.script_plans.specs.declared.line.StepLine.{StepLine}
use Rattle.script_plans.specs.Inputs.{outcome, ready}

-- actor k is this party's, whose association is of this form after these lines, the newest first; no line of the process has one
abbrev pub IsActor : ℕ → Party → List (List ℕ) → ScriptForm → Type 0
IsActor k (parties.Association a) before form = (k ≡ a.0) × (form_in form ≡ form_at k before)
IsActor k parties.Process before form = (16 < k) × (form ≡ forms.Shut)

-- after these lines of its script, the newest first, a line gives this step
pub record IsTold (c : Config) (k : ℕ) (before : List (List ℕ)) (l : StepLine) (s : TimedStep) : Type 0 where
  pub line : RecLine
  pub party : Party
  pub read : line_at l.text ≡ Ok line
  pub may : may_have party line ≡ true
  pub actor : IsActor k party before l.form
  pub told : told_of c (form_in l.form) line ≡ turn (actor_of k s.step) s.step
  pub moment : l.moment ≡ s.moment
  pub early : 441763200000 ≤ l.moment
  pub late : l.moment ≤ 4294967295999
  pub fit : IsFit l.form

abbrev pub AreTold : Config → ℕ → List (List ℕ) → List StepLine → List TimedStep → Type 0
AreTold c k before [] [] = Unit {0}
AreTold c k before (l ∷ ls) (s ∷ ss) = IsTold c k before l s × AreTold c k (l.text ∷ before) ls ss
AreTold c k before _ _ = ⊥

-- a script of actor k
pub record IsScript (c : Config) (k : ℕ) (s : Script) : Type 0 where
  pub some : 0 < k
  pub few : k < 33
  pub told : AreTold c k [] s.lines s.steps
  pub fit : AreFit c s.steps
  pub short : length s.steps ≤ most_lines

abbrev pub IsScriptOrNone : Config → ℕ → Option Script → Type 0
IsScriptOrNone c k None = Unit {0}
IsScriptOrNone c k (Some s) = IsScript c k s

-- the lines of a configuration, up to the first that is `end`
pub record IsText (c : Config) (text : List ℕ) : Type 0 where
  pub inner : List (List ℕ)
  pub octets : text ≡ octets_of inner ++ (codes "end" ++ 10 ∷ [])
  pub are_inner : Each IsInner inner
  pub config : config_at text ≡ Ok c

-- its place among the scripts of the input is below this number
abbrev pub IsPlacedBelow : ℕ → Option Script → Type 0
IsPlacedBelow n None = Unit {0}
IsPlacedBelow n (Some s) = s.place < n

-- they have places of their own
abbrev pub ArePlacedApart : Option Script → Option Script → Type 0
ArePlacedApart (Some s) (Some t) = s.place ≢ t.place
ArePlacedApart _ _ = Unit {0}

pub record IsSound (p : Plan) : Type 0 where
  pub text : IsText p.config p.text
  pub places : length p.scripts ≡ 33
  pub scripts : (k : ℕ) → IsScriptOrNone p.config k (script_of p k)
  -- each script has its place among the 16 of an input
  pub low : (k : ℕ) → IsPlacedBelow 16 (script_of p k)
  pub apart : (j k : ℕ) → j ≢ k → ArePlacedApart (script_of p j) (script_of p k)

abbrev pub PlansAreSound : Type 0
PlansAreSound = (octets : List ℕ) (p : Plan) → outcome octets ≡ ready p → IsSound p
