-- The lines among scripts, and the texts that spell them.
use Rattle.std.specs.Prelude.{◌≡◌, ℕ, List}
use Rattle.run_record.specs.Grammar.{IsAssoc, Spells}
use Rattle.script_lines.specs.declared.party.Party.{Party}
use Rattle.script_lines.specs.declared.party.Party.TheVariants as parties
use Rattle.script_lines.specs.declared.line.ScriptLine.{ScriptLine}
use Rattle.script_lines.specs.declared.line.ScriptLine.TheVariants as scripts
use Rattle.script_lines.specs.Lines.{script_text}

abbrev pub IsParty : Party → Type 0
IsParty (parties.Association a) = IsAssoc a
IsParty parties.Process = Unit {0}

abbrev pub IsScriptLine : ScriptLine → Type 0
IsScriptLine (scripts.Begins party) = IsParty party
IsScriptLine _ = Unit {0}

-- the text, without a newline, spells the line
abbrev pub SpellsScript : List ℕ → ScriptLine → Type 0
SpellsScript text (scripts.Step line) = Spells text line
SpellsScript text line = IsScriptLine line × (text ≡ script_text line)
