-- What a whole record is: empty lines and remarks, the line `record 1`, a configuration up to its `end`, lines that say what can
-- be done, and `end`. What follows is disregarded.
use Rattle.std.specs.Prelude.{◌≡◌, ◌≤◌, ◌+◌, ℕ, true, false, List, [], ◌∷◌, ◌++◌, length, codes, None}
use Rattle.std.specs.Str.{bytes_eq}
use Rattle.sv_base.specs.declared.config.Config.{Config}
use Rattle.bay_model.specs.Named.{configured_model}
use Rattle.bay_model.specs.Acceptance.{fault}
use Rattle.bay_model.specs.Answers.{History}
use Rattle.text_words.specs.Octets.{is_skipped}
use Rattle.cfg_grammar.specs.Texts.{SpellsConfig}
use Rattle.run_record.specs.Judging.{is_long}
use Rattle.run_record.specs.Grammar.{Spells}
use Rattle.run_record.specs.declared.line.RecLine.{RecLine}
use Rattle.record_steps.specs.Resolved.{association_of, told_of}
use Rattle.record_steps.specs.Told.{Told, skip, pass_to, turn, heard, refused, last}
use Rattle.record_steps.specs.declared.heard.Heard.{Heard}
use Rattle.record_steps.specs.declared.heard.Heard.TheVariants.{Tells, Makes}
use Rattle.record_outcome.specs.Histories.{octets_of, form_at, moment_of, steps_of}
use Rattle.record_outcome.specs.Texts.{turns_in}
use Rattle.record_outcome.specs.Records.{limit, most_lines, NoNewline}

-- of the parts of a piece, after these steps: each step is accepted after those before it
abbrev pub AreDone : Config → ℕ → List Heard → History → Type 0
AreDone c moment [] turns = Unit {0}
AreDone c moment (Tells text ∷ hs) turns = AreDone c moment hs turns
AreDone c moment (Makes actor step ∷ hs) turns =
    (fault (configured_model c) turns (record { moment = moment; actor = actor.0; step = step }) ≡ None) × AreDone c moment hs (record { moment = moment; actor = actor.0; step = step } ∷ turns)

-- after these lines: nothing is to be done, or another moment is told, or steps that are accepted
abbrev pub CanBeDone : Config → List (List ℕ) → Told → Type 0
CanBeDone c before skip = Unit {0}
CanBeDone c before (pass_to moment) = Unit {0}
CanBeDone c before (turn actor step) = fault (configured_model c) (turns_in (steps_of c before)) (record { moment = moment_of c before; actor = actor; step = step }) ≡ None
CanBeDone c before (heard hs) = AreDone c (moment_of c before) hs (turns_in (steps_of c before))
CanBeDone c before (refused kind) = ⊥
CanBeDone c before last = ⊥

-- a line that spells something, whose names are there and whose values are of their types, and whose association is what it asks
-- for, with fewer than 16 replies waiting at each request
pub record IsStepLine (c : Config) (before : List (List ℕ)) (text : List ℕ) : Type 0 where
  pub line : RecLine
  pub whole : NoNewline text
  pub spelled : Spells text line
  pub done : CanBeDone c before (told_of c (form_at (association_of line) before) line)

abbrev pub AreStepLines : Config → List (List ℕ) → List (List ℕ) → Type 0
AreStepLines c before [] = Unit {0}
AreStepLines c before (text ∷ more) = IsStepLine c before text × AreStepLines c (text ∷ before) more

-- an empty line or a remark, and a line of a configuration before its `end`
abbrev pub IsRemark : List ℕ → Type 0
IsRemark line = NoNewline line × (is_long line ≡ false) × (is_skipped line ≡ true)

abbrev pub IsInner : List ℕ → Type 0
IsInner line = NoNewline line × (bytes_eq line (codes "end") ≡ false)

abbrev pub Each : (List ℕ → Type 0) → List (List ℕ) → Type 0
Each P [] = Unit {0}
Each P (x ∷ xs) = P x × Each P xs

-- remarks, the inner lines of a configuration, step lines, and what follows the `end`
abbrev pub record_octets : List (List ℕ) → List (List ℕ) → List (List ℕ) → List ℕ → List ℕ
record_octets remarks inner steps rest = octets_of remarks ++ (codes "record 1" ++ 10 ∷ (octets_of inner ++ (codes "end" ++ 10 ∷ (octets_of steps ++ (codes "end" ++ 10 ∷ rest)))))

-- The octets begin with a record of this configuration, within the limits of lines and octets.
pub record IsRecord (octets : List ℕ) (c : Config) : Type 0 where
  pub remarks : List (List ℕ)
  pub inner : List (List ℕ)
  pub steps : List (List ℕ)
  pub rest : List ℕ
  pub octets_ : octets ≡ record_octets remarks inner steps rest
  pub are_remarks : Each IsRemark remarks
  pub are_inner : Each IsInner inner
  pub configuration : SpellsConfig (octets_of inner ++ (codes "end" ++ 10 ∷ [])) c
  pub are_steps : AreStepLines c [] steps
  pub lines : length remarks + length inner + length steps + 3 ≤ most_lines
  pub short : length (record_octets remarks inner steps []) ≤ limit

-- they begin with none
abbrev pub IsNoRecord : List ℕ → Type 0
IsNoRecord octets = (c : Config) → IsRecord octets c → ⊥
