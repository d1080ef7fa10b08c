-- What a whole input of a rehearsal is: empty lines and remarks, the line `rehearse 1`, a configuration up to its `end`, 1 to 16 scripts, with
-- empty lines and remarks before, between and after them, and `end`. What follows is disregarded.
use Rattle.std.specs.Prelude.{◌≡◌, ◌≤◌, ◌<◌, ◌+◌, ℕ, suc, true, List, [], ◌∷◌, ◌++◌, length, codes, None}
use Rattle.sv_base.specs.declared.config.Config.{Config}
use Rattle.bay_model.specs.Points.{least_moment}
use Rattle.cfg_grammar.specs.Texts.{SpellsConfig}
use Rattle.run_record.specs.Grammar.{Spells}
use Rattle.run_record.specs.declared.line.RecLine.{RecLine}
use Rattle.record_steps.specs.Forms.{Form, shut, form_behind}
use Rattle.record_steps.specs.Resolved.{told_of}
use Rattle.record_steps.specs.Told.{Told, skip, pass_to, turn}
use Rattle.record_outcome.specs.Histories.{octets_of}
use Rattle.record_outcome.specs.Records.{limit, most_lines, NoNewline}
use Rattle.record_outcome.specs.Grammar.{IsRemark, IsInner, Each}
use Rattle.script_lines.specs.Grammar.{IsParty}
use Rattle.script_lines.specs.Lines.{party_text}
use Rattle.script_lines.specs.Parties.{may_have}
use Rattle.script_lines.specs.declared.party.Party.{Party}
use Rattle.script_lines.specs.declared.party.Party.TheVariants as parties
use Rattle.actor_scripts.specs.declared.script.TimedStep.{TimedStep}
use Rattle.script_plans.specs.Forms.{form_in}
use Rattle.script_plans.specs.Plans.{Script, Plan, script_of, without_scripts, with_script}
use Rattle.script_plans.specs.Scripting.{actor_for, counted}
use Rattle.script_plans.specs.Inputs.{outcome, ready}
use Rattle.script_plans.specs.declared.form.ScriptForm.{ScriptForm}
use Rattle.script_plans.specs.declared.line.StepLine.{StepLine}

-- ---- a script

-- a line that a script of this party may have
pub record IsLineOf (party : Party) (text : List ℕ) (line : RecLine) : Type 0 where
  pub whole : NoNewline text
  pub spelled : Spells text line
  pub may : may_have party line ≡ true

-- the association that the lines of a script name, else 0
abbrev pub association_in : Party → ℕ
association_in (parties.Association a) = a.0
association_in parties.Process = 0

-- What a line says that stands after n lines of the input, where its association is of this form and the newest `at` line of its script
-- has this moment, and what the lines after it say: nothing, or another moment, or a step. The line of a step is there with its number, its
-- text, what its association is before it, and its moment; and the step with that moment.
abbrev pub Tells : ℕ → List ℕ → Form → ℕ → Told → (ℕ → List StepLine → List TimedStep → Type 0) → List StepLine → List TimedStep → Type 0
Tells n text form moment skip behind ls ss = behind moment ls ss
Tells n text form moment (pass_to to) behind ls ss = behind to ls ss
Tells n text form moment (turn actor step) behind (l ∷ ls) (s ∷ ss) =
    (kept : ScriptForm) × (form_in kept ≡ form) × (l ≡ record { number = suc n; text = text; form = kept; moment = moment }) × (s ≡ record { moment = moment; step = step }) × behind moment ls ss
Tells n text form moment _ behind ls ss = ⊥

-- Lines of a script, each told as in a record that has the lines of this script alone: these are the lines that say steps, with their steps, and
-- there is no other.
abbrev pub AreLines : Config → Party → ℕ → Form → ℕ → List (List ℕ) → List StepLine → List TimedStep → Type 0
AreLines c party n form moment [] ls ss = (ls ≡ []) × (ss ≡ [])
AreLines c party n form moment (text ∷ more) ls ss =
    (line : RecLine) × IsLineOf party text line × Tells n text form moment (told_of c form line) (λ to ls ss. AreLines c party (suc n) (form_behind (association_in party) line form) to more ls ss) ls ss

-- A script after n lines of the input and after the scripts of a plan, which are fewer than 16; an association has one. Its association
-- isn't open before its lines, and its moment is the least.
pub record IsScriptIn (n : ℕ) (p : Plan) (party : Party) (inner : List (List ℕ)) (s : Script) : Type 0 where
  pub party_ : IsParty party
  pub few : p.count < 16
  pub own : script_of p (actor_for p party) ≡ None
  pub place : s.place ≡ p.count
  pub told : AreLines p.config party (suc n) shut least_moment inner s.lines s.steps

-- ---- what stands after the configuration

-- an empty line or a remark, or a script with its lines up to `close`
pub data Item : Type 0 where
  remark : List ℕ → Item
  scripted : Party → List (List ℕ) → Item

-- their lines, and those that follow
abbrev pub lines_of : List Item → List (List ℕ) → List (List ℕ)
lines_of [] more = more
lines_of (remark text ∷ items) more = text ∷ lines_of items more
lines_of (scripted party inner ∷ items) more = party_text party ∷ (inner ++ (codes "close" ∷ lines_of items more))

-- after n lines of the input they make of one plan the other: each script is that of its actor
abbrev pub AreItems : ℕ → Plan → List Item → Plan → Type 0
AreItems n p [] q = p ≡ q
AreItems n p (remark text ∷ items) q = IsRemark text × AreItems (suc n) p items q
AreItems n p (scripted party inner ∷ items) q = (s : Script) × IsScriptIn n p party inner s × AreItems (n + length inner + 2) (with_script (counted p party) (actor_for p party) s) items q

-- ---- the input

-- remarks, the inner lines of a configuration, what stands after it, and what follows the last line
abbrev pub rehearsal_lines : List (List ℕ) → List (List ℕ) → List Item → List (List ℕ) → List (List ℕ)
rehearsal_lines remarks inner items more = remarks ++ (codes "rehearse 1" ∷ (inner ++ (codes "end" ∷ lines_of items (codes "end" ∷ more))))

-- The octets begin with a rehearsal of this plan's configuration and scripts, within the limits of lines and octets.
pub record IsRehearsal (octets : List ℕ) (p : Plan) : Type 0 where
  pub remarks : List (List ℕ)
  pub inner : List (List ℕ)
  pub items : List Item
  pub rest : List ℕ
  pub octets_ : octets ≡ octets_of (rehearsal_lines remarks inner items []) ++ rest
  pub are_remarks : Each IsRemark remarks
  pub are_inner : Each IsInner inner
  pub text : p.text ≡ octets_of inner ++ (codes "end" ++ 10 ∷ [])
  pub configuration : SpellsConfig p.text p.config
  pub are_items : AreItems (length remarks + length inner + 2) (without_scripts p.config p.text) items p
  pub some : 0 < p.count
  pub lines : length (rehearsal_lines remarks inner items []) ≤ most_lines
  pub short : length (octets_of (rehearsal_lines remarks inner items [])) ≤ limit

-- they begin with none
abbrev pub IsNoRehearsal : List ℕ → Type 0
IsNoRehearsal octets = (p : Plan) → IsRehearsal octets p → ⊥

-- what has the plan of a rehearsal comes to it, and what comes to a plan is a rehearsal of it
abbrev pub RehearsalsComeToTheirPlans : Type 0
RehearsalsComeToTheirPlans = (octets : List ℕ) (p : Plan) → IsRehearsal octets p → outcome octets ≡ ready p

abbrev pub PlansAreOfRehearsals : Type 0
PlansAreOfRehearsals = (octets : List ℕ) (p : Plan) → outcome octets ≡ ready p → IsRehearsal octets p

-- no octets have two
abbrev pub PlansAreOne : Type 0
PlansAreOne = (octets : List ℕ) (p q : Plan) → IsRehearsal octets p → IsRehearsal octets q → p ≡ q
