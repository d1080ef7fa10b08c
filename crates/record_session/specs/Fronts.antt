-- What the sink took, whatever the status: a front of what is answered to the octets that were taken from the source.
use Rattle.std.specs.Prelude.{◌≡◌, ℕ, Bool, List, [], ◌++◌, take, Option}
use Rattle.std.specs.Io.KnownBytes.{Appends, Consumes}
use Rattle.sv_io.specs.Causes.{GrowsByFront}
use Rattle.record_outcome.specs.Moves.{opening}
use Rattle.record_outcome.specs.Records.{limit, pieces, run, outcome}
use Rattle.record_outcome.specs.Histories.{lines_of, history_of}
use Rattle.record_outcome.specs.Written.{IsWritten}
use Rattle.record_session.specs.Sessions.{Fed}
use Rattle.record_session.specs.Runs.{Run}
use Rattle.record_session.specs.declared.reader.Reader.{Reader}
use Rattle.record_session.specs.declared.replay.Replay.{Replay}

-- These octets were taken from the source, and the sink took a front of the answers to them, up to where the reading of them stops:
-- of the text of the history of their lines, and of `end` after it, where it is the line that stops the reading.
pub record WritesFront (left now old new : Option (List ℕ)) : Type 0 where
  pub octets : List ℕ
  pub taken : Consumes left now octets
  pub front : GrowsByFront old new (outcome octets).text
  pub written : IsWritten history_of [] 0 (lines_of (take limit octets)) (outcome octets)

-- whatever octets follow, the answers begin with this
abbrev pub Begins : List ℕ → List ℕ → Type 0
Begins octets written = (long : Bool) (more : List ℕ) → (rest : List ℕ) × ((run long 0 opening (pieces (octets ++ more))).text ≡ written ++ rest)

-- the sink took something more of the answers
pub record BeginsTo (octets written : List ℕ) (before now : Option (List ℕ)) : Type 0 where
  pub added : List ℕ
  pub taken : Appends before now added
  pub begins : Begins octets (written ++ added)

-- a piece is fed, or a part of it
abbrev pub BeginsOn : Reader → List ℕ → Option (List ℕ) → Option (List ℕ) → Type 0
BeginsOn reader piece before now = (so_far written : List ℕ) → Fed reader so_far written → BeginsTo (so_far ++ piece) written before now

-- after what was read so far
abbrev pub FrontsOn : Replay → (mid now told then : Option (List ℕ)) → Type 0
FrontsOn replay mid now told then = (left taken : Option (List ℕ)) → Run replay.reader left mid taken told replay.count → WritesFront left now taken then
