-- What the lines before the scripts do: the line `rehearse 1`, and those of the configuration up to `end`.
use Rattle.std.specs.Prelude.{ℕ, ◌+◌, ◌==◌, ◌&&◌, not, List, [], ◌∷◌, ◌++◌, length, codes, Result, Ok, Err, if◌then◌else◌}
use Rattle.std.specs.Str.{bytes_eq}
use Rattle.sv_base.specs.declared.config.Config.{Config}
use Rattle.text_words.specs.Octets.{is_skipped}
use Rattle.text_words.specs.Words.{words_of}
use Rattle.cfg_parser.specs.Kinds.{number_of}
use Rattle.cfg_parser.specs.Looking.{config_at}
use Rattle.cfg_parser.specs.declared.fault.CfgFault.{CfgFault}
use Rattle.cfg_parser.specs.declared.fault.CfgFault.TheVariants as faults
use Rattle.run_record.specs.Judging.{is_long}
use Rattle.record_outcome.specs.declared.status.Status.TheVariants as statuses
use Rattle.script_plans.specs.Plans.{without_scripts}
use Rattle.script_plans.specs.Moves.{Move, goes, stops, opening, configuring, between}

-- the words are `rehearse 1`: another word or count of words is kind 1, another number kind 2
abbrev pub headed : ℕ → List (List ℕ) → Move
headed number (word ∷ version ∷ []) =
    if bytes_eq word (codes "rehearse") && not (length version == 0) then (if bytes_eq version (codes "1") then goes (configuring number []) else stops (statuses.Record number 2))
    else stops (statuses.Record number 1)
headed number _ = stops (statuses.Record number 1)

-- empty lines and remarks come before it too
unfoldable pub opening_at : ℕ → List ℕ → Move
opening_at number line =
    if is_long line then stops (statuses.Record number 8)
    else if is_skipped line then goes opening
    else headed number (words_of line)

-- the configuration of this text is whole, after n lines
abbrev pub started : ℕ → List ℕ → Result Config CfgFault → Move
started before text (Ok c) = goes (between (without_scripts c text))
started before text (Err (faults.Refused line kind)) = stops (statuses.Config (before + line) (number_of kind))
started before text (Err faults.Memory) = stops statuses.Memory

-- its lines are gathered up to the first that is `end`
unfoldable pub configuring_at : ℕ → List ℕ → List ℕ → Move
configuring_at before text line =
    if bytes_eq line (codes "end") then started before (text ++ (line ++ 10 ∷ [])) (config_at (text ++ (line ++ 10 ∷ [])))
    else goes (configuring before (text ++ (line ++ 10 ∷ [])))
