-- What a line makes of each part of an input.
use Rattle.std.proofs.Common.{◌≡◌, ℕ, true, false, List, [], ◌∷◌, ◌++◌, sym, ap, ◌∙◌}
use Rattle.std.specs.Prelude.{Option, None, Some, Ok, Err, Vec, codes, if◌then◌else◌}
use Rattle.std.specs.Str.{bytes_eq}
use Rattle.std.specs.declared.alloc.Global.{Global}
use Rattle.text_words.specs.Octets.{is_skipped}
use Rattle.text_words.specs.Words.{words_of}
use Rattle.cfg_parser.specs.Looking.{config_at}
use Rattle.run_record.specs.Grammar.{Spells}
use Rattle.run_record.specs.Judging.{is_long, number_of}
use Rattle.run_record.specs.declared.fault.Kind.{Kind}
use Rattle.record_outcome.specs.declared.status.Status.TheVariants as statuses
use Rattle.script_lines.specs.Lines.{script_line_at}
use Rattle.script_lines.specs.declared.line.ScriptLine.{ScriptLine}
use Rattle.script_lines.specs.declared.line.ScriptLine.TheVariants as scripts
use Rattle.script_lines.proofs.LineLaws.{line-told}
use Rattle.script_plans.specs.Plans.{Plan}
use Rattle.script_plans.specs.Moves.{Place, opening, configuring, Move, goes, stops}
use Rattle.script_plans.specs.Openings.{headed, opening_at, started, configuring_at}
use Rattle.script_plans.specs.Scripting.{between_as, between_at, inside_as, inside_at, among_line}
use Rattle.script_plans.specs.Inputs.{lines_at}
use Rattle.script_reading.specs.Readings.{plan_seen, among, scripts_seen, place_of, IsView}
use Rattle.script_plans.specs.declared.opened.Opened.{Opened}
use Rattle.script_reading.specs.declared.scripting.Scripts.{Scripts}
use Rattle.script_reading.specs.declared.stage.Stage.{Stage}
use Rattle.script_reading.specs.declared.stage.Stage.TheVariants as stages

-- ---- before the configuration

module _ (number : ℕ) (line : List ℕ) where
  pub open-long : (k : ℕ) → is_long line ≡ true → k ≡ 8 → opening_at number line ≡ stops (statuses.Record number k)
  unfolding opening_at
  open-long k is eight = ap (λ b. if b then stops (statuses.Record number 8) else if is_skipped line then goes opening else headed number (words_of line)) is ∙ ap (λ k. stops (statuses.Record number k)) (sym eight)

  pub open-skipped : (place : Place) → is_long line ≡ false → is_skipped line ≡ true → place ≡ opening → opening_at number line ≡ goes place
  unfolding opening_at
  open-skipped place short is here =
      ap (λ b. if b then stops (statuses.Record number 8) else if is_skipped line then goes opening else headed number (words_of line)) short
      ∙ (ap (λ b. if b then goes opening else headed number (words_of line)) is ∙ ap goes (sym here))

  pub open-headed : (ws : List (List ℕ)) (m : Move) → is_long line ≡ false → is_skipped line ≡ false → ws ≡ words_of line → headed number ws ≡ m → opening_at number line ≡ m
  unfolding opening_at
  open-headed ws m short is words does =
      ap (λ b. if b then stops (statuses.Record number 8) else if is_skipped line then goes opening else headed number (words_of line)) short
      ∙ (ap (λ b. if b then goes opening else headed number (words_of line)) is ∙ (ap (headed number) (sym words) ∙ does))

-- ---- among the lines of the configuration

module _ (number before : ℕ) (text : Vec ℕ Global) (old : Stage) (line whole : List ℕ) (is : old ≡ stages.Configuring before text) (all : whole ≡ text.items ++ (line ++ 10 ∷ [])) where
  pub gathered : bytes_eq line (codes "end") ≡ false → lines_at number (place_of old) line ≡ goes (configuring before whole)
  unfolding configuring_at
  gathered last =
      ap (λ s. lines_at number (place_of s) line) is
      ∙ (ap (λ b. if b then started before (text.items ++ (line ++ 10 ∷ [])) (config_at (text.items ++ (line ++ 10 ∷ []))) else goes (configuring before (text.items ++ (line ++ 10 ∷ [])))) last
      ∙ ap (λ t. goes (configuring before t)) (sym all))

  pub whole-text : bytes_eq line (codes "end") ≡ true → lines_at number (place_of old) line ≡ started before whole (config_at whole)
  unfolding configuring_at
  whole-text last =
      ap (λ s. lines_at number (place_of s) line) is
      ∙ (ap (λ b. if b then started before (text.items ++ (line ++ 10 ∷ [])) (config_at (text.items ++ (line ++ 10 ∷ []))) else goes (configuring before (text.items ++ (line ++ 10 ∷ [])))) last
      ∙ ap (λ t. started before t (config_at t)) (sym all))

-- ---- among scripts

pub view-ranges : (text : List ℕ) (v : ScriptLine) → script_line_at text ≡ Ok v → IsView v
view-ranges text (scripts.Begins party) is = (line-told text (scripts.Begins party) is).0
view-ranges text scripts.Closes is = tt
view-ranges text (scripts.Step line) is = let s : Spells text line = line-told text (scripts.Step line) is in s.ranges

line-among : (number : ℕ) (p : Plan) (o : Option Opened) (text : List ℕ) (v : ScriptLine) → script_line_at text ≡ Ok v → lines_at number (among p o) text ≡ among_line number p o text v
unfolding between_at inside_at
line-among number p None text v is = ap (between_as number p) is
line-among number p (Some o) text v is = ap (inside_as number p o text) is

fault-among : (number : ℕ) (p : Plan) (o : Option Opened) (text : List ℕ) (kind : Kind) → script_line_at text ≡ Err kind → lines_at number (among p o) text ≡ stops (statuses.Record number (number_of kind))
unfolding between_at inside_at
fault-among number p None text kind is = ap (between_as number p) is
fault-among number p (Some o) text kind is = ap (inside_as number p o text) is

pub line-seen : (number : ℕ) (x : Scripts) (text : List ℕ) (v : ScriptLine) → script_line_at text ≡ Ok v → lines_at number (scripts_seen x) text ≡ among_line number (plan_seen x.plan) x.current text v
line-seen number x text v is = line-among number (plan_seen x.plan) x.current text v is

pub fault-seen : (number : ℕ) (x : Scripts) (text : List ℕ) (kind : Kind) → script_line_at text ≡ Err kind → lines_at number (scripts_seen x) text ≡ stops (statuses.Record number (number_of kind))
fault-seen number x text kind is = fault-among number (plan_seen x.plan) x.current text kind is
