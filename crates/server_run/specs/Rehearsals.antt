-- What a rehearsal writes, and the causes of its statuses.
use Rattle.std.specs.Prelude.{◌≡◌, ◌⊎◌, ℕ, List, [], Option, None, Some, Result, Ok, Err}
use Rattle.std.specs.Io.KnownBytes.{Appends}
use Rattle.std.specs.declared.alloc.Global.{Global}
use Rattle.std.specs.Prelude.{Vec}
use Rattle.sv_io.specs.Causes.{GrowsByFront}
use Rattle.record_outcome.specs.declared.status.Status.{Status}
use Rattle.record_outcome.specs.declared.status.Status.TheVariants as statuses
use Rattle.script_plans.specs.Plans.{Plan}
use Rattle.script_plans.specs.Grammar.{IsRehearsal, IsNoRehearsal}
use Rattle.script_plans.specs.Inputs.{Outcome, refused, ready}
use Rattle.race_records.specs.Bounds.{lowest_beyond, IsBeyondOf, IsWithoutOpers}
use Rattle.race_settling.specs.Settled.{Goes, MeetsFull}

-- the most octets that are read of an input, one more than any has
abbrev pub most : ℕ
most = 67108865

-- of an input that comes to this
abbrev pub PerformsInput : Outcome → Result (Vec ℕ Global) Status → Type 0
PerformsInput o (Ok out) = (p : Plan) × (o ≡ ready p) × Goes p out.items
PerformsInput o (Err (statuses.Record line kind)) = o ≡ refused (statuses.Record line kind)
PerformsInput o (Err (statuses.Config line kind)) = o ≡ refused (statuses.Config line kind)
PerformsInput o (Err (statuses.Limit which line)) = (o ≡ refused (statuses.Limit which line)) ⊎ ((p : Plan) × (o ≡ ready p) × (which ≡ 2) × MeetsFull p line)
PerformsInput o (Err _) = ⊥

-- The status has its cause in what the input comes to, and this is what the sink took: nothing unless all turns went. Since an input
-- comes to one thing, each of these statuses comes exactly where its cause is there, but out of memory and faults, and but for
-- Limit 2 where a script writes an Oper of a control under enhanced security.
abbrev pub Rehearses : Outcome → Status → Option (List ℕ) → Option (List ℕ) → Type 0
Rehearses o statuses.Ok old new = (p : Plan) × (octets : List ℕ) × (o ≡ ready p) × Goes p octets × Appends old new octets
Rehearses o statuses.WriteFault old new = (p : Plan) × (octets : List ℕ) × (o ≡ ready p) × Goes p octets × GrowsByFront old new octets
Rehearses o (statuses.Record line kind) old new = (o ≡ refused (statuses.Record line kind)) × Appends old new []
Rehearses o (statuses.Config line kind) old new = (o ≡ refused (statuses.Config line kind)) × Appends old new []
Rehearses o (statuses.Limit which line) old new =
    ((o ≡ refused (statuses.Limit which line)) ⊎ ((p : Plan) × (o ≡ ready p) × (which ≡ 2) × MeetsFull p line)) × Appends old new []
Rehearses o statuses.Memory old new = Appends old new []
Rehearses o statuses.ReadFault old new = Appends old new []
Rehearses o statuses.Words old new = ⊥

-- What these octets are by the grammar: with status Ok a rehearsal, and what the sink took is of its configuration and its scripts; with
-- Limit 2 a rehearsal whose queue was full at that line, or none; with another refusal none.
abbrev pub IsOfRehearsal : List ℕ → Status → Option (List ℕ) → Option (List ℕ) → Type 0
IsOfRehearsal b statuses.Ok old new = (p : Plan) × (octets : List ℕ) × IsRehearsal b p × Goes p octets × Appends old new octets
IsOfRehearsal b statuses.WriteFault old new = (p : Plan) × (octets : List ℕ) × IsRehearsal b p × Goes p octets × GrowsByFront old new octets
IsOfRehearsal b (statuses.Record line kind) old new = IsNoRehearsal b
IsOfRehearsal b (statuses.Config line kind) old new = IsNoRehearsal b
IsOfRehearsal b (statuses.Limit which line) old new = IsNoRehearsal b ⊎ ((p : Plan) × IsRehearsal b p × (which ≡ 2) × MeetsFull p line)
IsOfRehearsal b _ old new = Unit {0}

-- a status that doesn't speak of the words and of the source
abbrev pub IsListed : Status → Type 0
IsListed statuses.Words = ⊥
IsListed statuses.ReadFault = ⊥
IsListed _ = Unit {0}

-- ---- how a rehearsal ends

-- by the lowest line that asks where its script's own bound is at least 16, if there is one
abbrev pub ends_at : Option ℕ → Status
ends_at None = statuses.Ok
ends_at (Some line) = statuses.Limit 2 line

-- a rehearsal of a plan ends so
pub record EndsAs (p : Plan) (status : Status) : Type 0 where
  -- with a record, or at a line that asks where the bound of its own script is at least 16
  pub known : (status ≡ statuses.Ok) ⊎ ((line : ℕ) × (status ≡ statuses.Limit 2 line) × IsBeyondOf p line)
  -- with a record where there is no such line
  pub room : lowest_beyond p ≡ None → status ≡ statuses.Ok
  -- at the lowest of them, where no script writes an Oper of a control under enhanced security
  pub exact : IsWithoutOpers p → status ≡ ends_at (lowest_beyond p)

-- the status of an input that comes to this, where memory isn't lacking and neither end fails
abbrev pub IsStatusOf : Outcome → Status → Type 0
IsStatusOf (refused first) status = status ≡ first
IsStatusOf (ready p) status = EndsAs p status

-- a status that is neither when out of memory nor for a fault
abbrev pub IsEnding : Status → Type 0
IsEnding statuses.Memory = ⊥
IsEnding statuses.ReadFault = ⊥
IsEnding statuses.WriteFault = ⊥
IsEnding _ = Unit {0}

-- every such status is that of the input; without such Opers no race has a say in it
abbrev pub EndingsAreKnown : Type 0
EndingsAreKnown = (o : Outcome) (status : Status) (old new : Option (List ℕ)) → Rehearses o status old new → IsEnding status → IsStatusOf o status
