-- What the reading of a rehearsal's input stands for.
use Rattle.std.specs.Prelude.{◌≡◌, ◌<◌, ◌≤◌, ◌^◌, ◌==◌, ◌||◌, ℕ, suc, Bool, true, false, List, [], length, Option, None, Some, is_some, Result, Ok, Err, IfSome}
use Rattle.sv_base.specs.declared.config.Config.{Config}
use Rattle.cfg_parser.specs.declared.fault.CfgFault.{CfgFault}
use Rattle.run_record.specs.Grammar.{IsLine}
use Rattle.run_record.specs.Judging.{number_of}
use Rattle.run_record.specs.declared.fault.Kind.{Kind}
use Rattle.record_steps.specs.declared.telling.Told.{Told}
use Rattle.record_steps.specs.declared.telling.Told.TheVariants as tolds
use Rattle.record_outcome.specs.Records.{NoNewline, pieces}
use Rattle.record_outcome.specs.Judgements.{IsRefusal}
use Rattle.record_outcome.specs.declared.status.Status.{Status}
use Rattle.record_outcome.specs.declared.status.Status.TheVariants as statuses
use Rattle.script_lines.specs.Grammar.{IsParty}
use Rattle.script_lines.specs.declared.party.Party.{Party}
use Rattle.script_lines.specs.declared.line.ScriptLine.{ScriptLine}
use Rattle.script_lines.specs.declared.line.ScriptLine.TheVariants as lines
use Rattle.script_plans.specs.Forms.{IsFit}
use Rattle.script_plans.specs.Plans.{Plan, script_of}
use Rattle.script_plans.specs.Moves.{Place, opening, configuring, between, inside, Move, goes, stops, ends}
use Rattle.script_plans.specs.Scripting.{most_scripts, actor_for, counted, opened}
use Rattle.script_plans.specs.Openings.{started}
use Rattle.script_plans.specs.Inputs.{Outcome, refused, ready, ended, run}
use Rattle.script_plans.specs.Grammar.{IsRehearsal, IsNoRehearsal}
use Rattle.script_reading.specs.declared.plan.Plan.{Plan as Held}
use Rattle.script_plans.specs.declared.opened.Opened.{Opened}
use Rattle.script_reading.specs.declared.next.Next.{Next}
use Rattle.script_reading.specs.declared.next.Next.TheVariants as nexts
use Rattle.script_reading.specs.declared.scripting.Scripts.{Scripts}
use Rattle.script_reading.specs.declared.starting.Started.{Started}
use Rattle.script_reading.specs.declared.starting.Started.TheVariants as starteds
use Rattle.script_reading.specs.declared.session.Session.{Session}
use Rattle.script_reading.specs.declared.stage.Stage.{Stage}
use Rattle.script_reading.specs.declared.stage.Stage.TheVariants as stages

abbrev pub plan_seen : Held → Plan
plan_seen x = record { config = x.model; text = x.text.items; scripts = x.slots.items; count = x.count; processes = x.processes }

abbrev pub among : Plan → Option Opened → Place
among p None = between p
among p (Some o) = inside p o

abbrev pub scripts_seen : Scripts → Place
scripts_seen x = among (plan_seen x.plan) x.current

abbrev pub place_of : Stage → Place
place_of stages.Opening = opening
place_of (stages.Configuring before text) = configuring before text.items
place_of (stages.Scripts x) = scripts_seen x

-- ---- what a line did

abbrev pub Moved : Next → Place → Move → Type 0
Moved nexts.On now move = move ≡ goes now
Moved (nexts.Stop status) now move = move ≡ stops status
Moved nexts.End now move = (p : Plan) × (now ≡ between p) × (move ≡ ends p)

-- a script has begun, or none may begin
abbrev pub Begins : Option Opened → Party → Plan → Plan → Type 0
Begins None party p q = (p.count == most_scripts || is_some (script_of p (actor_for p party))) ≡ true
Begins (Some o) party p q = ((p.count == most_scripts || is_some (script_of p (actor_for p party))) ≡ false) × (o ≡ opened p party) × (q ≡ counted p party)

-- no step is told
abbrev pub IsStepless : Told → Type 0
IsStepless (tolds.Step actor) = ⊥
IsStepless _ = Unit {0}

abbrev pub IsDecided : Next → Type 0
IsDecided (nexts.Stop status) = IsRefusal status
IsDecided _ = Unit {0}

-- the words of the first line are `rehearse 1`, or it is refused for this cause
abbrev pub Heads : Option Kind → ℕ → Move → Type 0
Heads None number move = move ≡ goes (configuring number [])
Heads (Some kind) number move = move ≡ stops (statuses.Record number (number_of kind))

-- a configuration is whole, or it is refused
abbrev pub Starts : Started → Move → Type 0
Starts (starteds.Plans x) move = move ≡ goes (between (plan_seen x))
Starts (starteds.Refused status) move = move ≡ stops status

-- a model of what the text spells, or the status that it is refused with, after n lines
abbrev pub IsModelOf : ℕ → Result Config Status → Result Config CfgFault → Type 0
IsModelOf before (Ok c) found = found ≡ Ok c
IsModelOf before (Err status) found = ((text : List ℕ) → started before text found ≡ stops status) × IsRefusal status

-- ---- what the parts of a reading meet

-- there is a place for each actor
abbrev pub IsRoomy : Held → Type 0
IsRoomy x = (length x.slots.items ≡ 33) × (x.count ≤ 16) × (x.processes ≤ x.count)

abbrev pub IsWellOpened : Opened → Type 0
IsWellOpened o = (o.actor < 33) × IsFit o.form

abbrev pub IsWellScripts : Scripts → Type 0
IsWellScripts x = IsRoomy x.plan × IfSome x.current IsWellOpened

-- the numbers of a line that is read in place are in their ranges
abbrev pub IsView : ScriptLine → Type 0
IsView (lines.Begins party) = IsParty party
IsView (lines.Step line) = IsLine line
IsView lines.Closes = Unit {0}

abbrev pub IsWell : Stage → Type 0
IsWell stages.Opening = Unit {0}
IsWell (stages.Configuring before text) = before < 2 ^ 62
IsWell (stages.Scripts x) = IsWellScripts x

abbrev pub IsSoundStart : Started → Type 0
IsSoundStart (starteds.Plans x) = IsRoomy x
IsSoundStart (starteds.Refused status) = IsRefusal status

-- ---- the whole

abbrev pub Reads : Result Held Status → Outcome → Type 0
Reads (Ok x) o = o ≡ ready (plan_seen x)
Reads (Err status) o = o ≡ refused status

-- the octets are a rehearsal of the plan, or, where they are refused, of none
abbrev pub HasPlan : Result Held Status → List ℕ → Type 0
HasPlan (Ok x) octets = IsRehearsal octets (plan_seen x)
HasPlan (Err status) octets = IsNoRehearsal octets

-- of the octets the lines before the rest are read, or up to one with which the reading stops or ends
abbrev pub LinesRead : Next → List ℕ → Session → Session → List ℕ → Type 0
LinesRead nexts.On rest old new octets = NoNewline rest × ((long : Bool) → run long old.lines (place_of old.stage) (pieces octets) ≡ run long new.lines (place_of new.stage) (pieces rest))
LinesRead (nexts.Stop status) rest old new octets = (long : Bool) → run long old.lines (place_of old.stage) (pieces octets) ≡ refused status
LinesRead nexts.End rest old new octets = (p : Plan) × (place_of new.stage ≡ between p) × ((long : Bool) → run long old.lines (place_of old.stage) (pieces octets) ≡ ready p)

abbrev pub IsBetween : Place → Type 0
IsBetween place = (p : Plan) × (place ≡ between p)

abbrev pub IsRefused : Result Held Status → Type 0
IsRefused (Ok x) = Unit {0}
IsRefused (Err status) = IsRefusal status

-- after the last line no script is left open
abbrev pub EndsBetween : Next → Place → Type 0
EndsBetween nexts.End place = IsBetween place
EndsBetween _ place = Unit {0}

-- what is made of where the reading is, and of how it came there
abbrev pub Concludes : Result Held Status → Session → Bool → Next → Bool → Type 0
Concludes r x long nexts.On begun = Reads r (refused (ended long begun (suc x.lines) (place_of x.stage)))
Concludes r x long (nexts.Stop status) begun = Reads r (refused status)
Concludes r x long nexts.End begun = (p : Plan) → place_of x.stage ≡ between p → Reads r (ready p)
