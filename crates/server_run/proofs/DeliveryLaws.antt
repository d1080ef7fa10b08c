-- What is written of an input, and with which status.
use Rattle.std.proofs.Common.{◌≡◌, ℕ, List, inl, inr}
use Rattle.std.specs.Prelude.{Vec, Option, None, Some, Result, Ok, Err, IfOk, IfSome}
use Rattle.std.specs.Io.KnownBytes.{Appends}
use Rattle.std.specs.declared.alloc.Global.{Global}
use Rattle.sv_io.specs.Causes.{GrowsByFront}
use Rattle.record_outcome.specs.declared.status.Status.{Status}
use Rattle.record_outcome.specs.declared.status.Status.TheVariants as statuses
use Rattle.script_plans.specs.Plans.{Plan}
use Rattle.script_plans.specs.Inputs.{Outcome, refused, ready}
use Rattle.record_outcome.specs.Judgements.{IsRefusal}
use Rattle.race_settling.specs.Settled.{Performs}
use Rattle.server_run.specs.Rehearsals.{PerformsInput, Rehearses, IsListed}
use Rattle.std.proofs.KnownBytes.{Appends-nil}

-- ---- of an input

pub performed-by : {E : Type 0} (o : Outcome) (p : Plan) (r : Result (Result (Vec ℕ Global) Status) E) → o ≡ ready p → IfOk r (Performs p) → IfOk r (PerformsInput o)
performed-by o p (Ok (Ok out)) is goes = (p, is, goes)
performed-by o p (Ok (Err (statuses.Limit which line))) is full = inr (p, is, full.0, full.1)
performed-by o p (Ok (Err (statuses.Record line kind))) is never = absurd never
performed-by o p (Ok (Err (statuses.Config line kind))) is never = absurd never
performed-by o p (Ok (Err statuses.Ok)) is never = absurd never
performed-by o p (Ok (Err statuses.Words)) is never = absurd never
performed-by o p (Ok (Err statuses.Memory)) is never = absurd never
performed-by o p (Ok (Err statuses.ReadFault)) is never = absurd never
performed-by o p (Ok (Err statuses.WriteFault)) is never = absurd never
performed-by o p (Err e) is goes = tt

pub refused-by : (o : Outcome) (status : Status) → o ≡ refused status → IsRefusal status → PerformsInput o (Err status)
refused-by o (statuses.Limit which line) is judged = inl is
refused-by o (statuses.Record line kind) is judged = is
refused-by o (statuses.Config line kind) is judged = is
refused-by o statuses.Ok is judged = absurd judged
refused-by o statuses.Words is judged = absurd judged
refused-by o statuses.Memory is judged = absurd judged
refused-by o statuses.ReadFault is judged = absurd judged
refused-by o statuses.WriteFault is judged = absurd judged

-- ---- of what is delivered

pub record-delivered : (o : Outcome) (old new : Option (List ℕ)) (out : Vec ℕ Global) → PerformsInput o (Ok out) → Appends old new out.items → Rehearses o statuses.Ok old new
record-delivered o old new out goes appends = (goes.0, out.items, goes.1, goes.2, appends)

pub front-delivered : (o : Outcome) (old new : Option (List ℕ)) (out : Vec ℕ Global) → PerformsInput o (Ok out) → GrowsByFront old new out.items → Rehearses o statuses.WriteFault old new
front-delivered o old new out goes grows = (goes.0, out.items, goes.1, goes.2, grows)

pub status-delivered : (o : Outcome) (status : Status) (old : Option (List ℕ)) → PerformsInput o (Err status) → Rehearses o status old old
status-delivered o (statuses.Limit which line) old is = (is, Appends-nil old)
status-delivered o (statuses.Record line kind) old is = (is, Appends-nil old)
status-delivered o (statuses.Config line kind) old is = (is, Appends-nil old)
status-delivered o statuses.Ok old is = absurd is
status-delivered o statuses.Words old is = absurd is
status-delivered o statuses.Memory old is = absurd is
status-delivered o statuses.ReadFault old is = absurd is
status-delivered o statuses.WriteFault old is = absurd is

pub status-listed : (o : Outcome) (status : Status) → PerformsInput o (Err status) → IsListed status
status-listed o (statuses.Limit which line) is = tt
status-listed o (statuses.Record line kind) is = tt
status-listed o (statuses.Config line kind) is = tt
status-listed o statuses.Ok is = absurd is
status-listed o statuses.Words is = absurd is
status-listed o statuses.Memory is = absurd is
status-listed o statuses.ReadFault is = absurd is
status-listed o statuses.WriteFault is = absurd is

-- ---- where octets are told

pub if-some : {A : Type 0} (P Q : A → Type 0) (o : Option A) → IfSome o P → ((a : A) → P a → Q a) → IfSome o Q
if-some P Q None h f = tt
if-some P Q (Some a) h f = f a h
