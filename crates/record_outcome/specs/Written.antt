-- What is written to a record: the text of the history of its lines, before the one with which the reading stops.
use Rattle.std.specs.Prelude.{◌≡◌, ◌≤◌, ℕ, suc, ◌+◌, List, [], ◌∷◌, ◌++◌, length, take, drop, All, Bool, false, codes, Option, None, Some, IfSome}
use Rattle.std.specs.Str.{bytes_eq}
use Rattle.bay_model.specs.Named.{configured_model}
use Rattle.bay_model.specs.Acceptance.{QueueFull, fault, IsHistory}
use Rattle.bay_model.specs.Answers.{Turn}
use Rattle.stream_lines.specs.declared.shape.Shape.{Shape}
use Rattle.std.specs.Io.KnownBytes.{Appends}
use Rattle.record_outcome.specs.Histories.{Part, stepped, Recorded, lines_of, history_of}
use Rattle.record_outcome.specs.Texts.{turns_in, record_text}
use Rattle.record_outcome.specs.Records.{Outcome, limit, outcome}
use Rattle.record_outcome.specs.declared.status.Status.{Status}
use Rattle.record_outcome.specs.declared.status.Status.TheVariants as statuses

-- each step is accepted after those before it
abbrev pub IsAccepted : Recorded → Type 0
IsAccepted r = IsHistory (configured_model r.config) (turns_in r.steps)

-- a step of a record's newest line finds 16 replies waiting for its association, after what came before it
pub record MeetsFullQueue (r : Recorded) : Type 0 where
  pub later : List Part
  pub turn : Turn
  pub shape : Shape
  pub earlier : List Part
  pub before : List (List Part)
  pub association : ℕ
  pub line : r.steps ≡ (later ++ stepped turn shape ∷ earlier) ∷ before
  pub cause : fault (configured_model r.config) (turns_in (earlier ∷ before)) turn ≡ Some (QueueFull association)

abbrev pub MeetsFull : Option Recorded → Type 0
MeetsFull None = ⊥
MeetsFull (Some r) = MeetsFullQueue r

-- the cause of a limit that a line passes, where it is one of the history: of limit 2
abbrev pub HasCause : ℕ → Option Recorded → Type 0
HasCause which history = which ≡ 2 → MeetsFull history

-- no line is `end`
abbrev pub HasNoEnd : List (List ℕ) → Type 0
HasNoEnd ls = All (λ line. bytes_eq line (codes "end") ≡ false) ls

-- the configuration is whole, and none of the step lines after it is `end`
abbrev pub IsUnended : Option Recorded → Type 0
IsUnended None = ⊥
IsUnended (Some r) = HasNoEnd r.lines

-- After line k the reading stops with this status: at the first `end` of the steps, after a whole configuration; at the line
-- that the status names, or in a configuration that is refused; a line that passes limit 2 has a step for it.
abbrev pub StopsBehind : (List (List ℕ) → Option Recorded) → Status → ℕ → ℕ → List (List ℕ) → Type 0
StopsBehind history statuses.Ok number k ls = ((rest : List (List ℕ)) × (drop k ls ≡ codes "end" ∷ rest)) × IsUnended (history (take k ls))
StopsBehind history (statuses.Record line kind) number k ls = line ≡ suc number
StopsBehind history (statuses.Limit which line) number k ls = (line ≡ suc number) × HasCause which (history (take (suc k) ls))
StopsBehind history _ number k ls = history (take k ls) ≡ None

-- `end` is written exactly at status 0
abbrev pub end_of : Status → List ℕ
end_of statuses.Ok = codes "end\n"
end_of _ = []

-- Of lines, after others that are that many and to which this was written: up to where the reading stops, the text is that of the
-- history, whose steps are accepted.
pub record IsWritten (history : List (List ℕ) → Option Recorded) (written : List ℕ) (count : ℕ) (ls : List (List ℕ)) (o : Outcome) : Type 0 where
  pub lines : ℕ
  pub within : lines ≤ length ls
  pub text_ : written ++ o.text ≡ record_text (history (take lines ls)) ++ end_of o.status
  pub accepted : IfSome (history (take lines ls)) IsAccepted
  pub stops : StopsBehind history o.status (count + lines) lines ls

abbrev pub TextIsOfHistory : Type 0
TextIsOfHistory = (octets : List ℕ) → IsWritten history_of [] 0 (lines_of (take limit octets)) (outcome octets)

-- the sink took the text of the record's history
abbrev pub WritesHistory : List ℕ → Status → Option (List ℕ) → Option (List ℕ) → Type 0
WritesHistory octets status old new = (text : List ℕ) × Appends old new text × IsWritten history_of [] 0 (lines_of (take limit octets)) (record { status = status; text = text })
