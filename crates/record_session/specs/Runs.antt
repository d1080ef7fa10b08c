-- What a replay stands for: the octets that were read, and the answers that the sink took.
use Rattle.std.specs.Prelude.{◌≡◌, ◌≤◌, ◌+◌, ℕ, List, [], length, Option, None, Some, IfSome}
use Rattle.std.specs.Io.KnownBytes.{Appends, Consumes}
use Rattle.record_outcome.specs.Records.{NoNewline, limit}
use Rattle.record_session.specs.Sessions.{Fed, steps_in, IsEarly}
use Rattle.record_outcome.specs.Judgements.{IsJudgement, Answers}
use Rattle.record_session.specs.declared.reader.Reader.{Reader}
use Rattle.record_session.specs.declared.replay.Replay.{Replay}
use Rattle.record_outcome.specs.declared.status.Status.{Status}

-- between two pieces
pub record IsReady (replay : Replay) : Type 0 where
  pub part : NoNewline replay.reader.held.items
  pub few : steps_in replay.reader.session.stage + length replay.reader.held.items ≤ replay.count
  pub early : IsEarly replay.reader.session.stage
  pub lines : replay.reader.session.lines ≤ replay.count
  pub within : replay.count ≤ limit
  pub empty : replay.out.items ≡ []

-- from what was left at first n octets were read, and the sink took the answers to them
pub record Run (reader : Reader) (left now taken told : Option (List ℕ)) (count : ℕ) : Type 0 where
  pub octets : List ℕ
  pub written : List ℕ
  pub consumed : Consumes left now octets
  pub took : Appends taken told written
  pub fed : Fed reader octets written
  pub counted : length octets ≡ count

-- the run goes on, or its status is decided
abbrev pub RunsTo : Option Status → Replay → (left now taken told : Option (List ℕ)) → Type 0
RunsTo None new left now taken told = Run new.reader left now taken told new.count
RunsTo (Some status) new left now taken told = IsJudgement status → IfSome left (λ b. Answers b status taken told)

abbrev pub Turns : Option Status → Replay → Replay → (mid now told then : Option (List ℕ)) → Type 0
Turns status old new mid now told then = (left taken : Option (List ℕ)) → Run old.reader left mid taken told old.count → RunsTo status new left now taken then
