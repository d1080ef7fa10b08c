-- What a request makes of a bay: its reply, and the bay after its single reads and writes, at the arrival of the reply's point
-- (ISO 9506-2, the confirmed services).
use Rattle.std.specs.Prelude.{◌≡◌, ℕ, List, [], ◌∷◌, ◌<◌, length, true, Option, Result, map}
use Rattle.sv_base.specs.declared.config.Config.{Config}
use Rattle.bay_model.specs.declared.answer.Output.{Output}
use Rattle.bay_model.specs.declared.reply.Reply.{Reply}
use Rattle.bay_model.specs.declared.request.Service.{Service}
use Rattle.bay_model.specs.declared.request.Target.{Target}
use Rattle.bay_model.specs.declared.request.Target.TheVariants as targets
use Rattle.bay_model.specs.declared.request.Write.{Write}
use Rattle.std.specs.List.{All}
use Rattle.std.specs.Option.{option_map}
use Rattle.std.specs.declared.vec.Vec.{Vec}
use Rattle.std.specs.declared.alloc.Global.{Global}
use Rattle.sv_base.specs.declared.numbers.NodeId.{NodeId}
use Rattle.sv_base.specs.declared.value.Value.{Value}
use Rattle.object_model.specs.Fits.{is_sound}
use Rattle.bay_model.specs.Model.{Model}
use Rattle.bay_model.specs.Named.{configured_model, nodes as nodes_of}
use Rattle.bay_model.specs.Outcomes.{Outcome, code_of, deed_of}
use Rattle.bay_model.specs.Points.{Past, answered}
use Rattle.bay_model.specs.Services.{reply, singles_of, set_name, change_of}
use Rattle.bay_model.specs.Singles.{Single, arrival, outcomes, after_singles}
use Rattle.bay_model.specs.Sizes.{size_of}
use Rattle.bay_model.specs.Waiting.{tests}
use Rattle.assoc_table.specs.declared.waiting.Waiting.TheVariants as waits
use Rattle.assoc_table.specs.Tables.{extended}
use Rattle.data_sets.specs.Books.{Book, number_named, set_at}
use Rattle.value_store.specs.declared.fault.SetFault.{SetFault}
use Rattle.value_store.specs.declared.fault.SetFault.TheVariants as faults
use Rattle.window_core.specs.Points.{at}
use Rattle.bay_core.specs.Standing.{StandsAt}
use Rattle.bay_core.specs.State.{State}
use Rattle.bay_model.specs.declared.access_errors.TheConstants.{OBJECT_ACCESS_DENIED, TYPE_INCONSISTENT, OBJECT_VALUE_INVALID}

-- the reply to a's request at this moment, after all points that the state stands for
abbrev pub IsReplyAt : State → ℕ → ℕ → Service → Reply → Type 0
IsReplyAt s moment a service r = (c : Config) (n : ℕ) (past : Past) → StandsAt s c n past
    → r ≡ reply (configured_model c) past (size_of a past) service (outcomes (configured_model c) a n moment (singles_of (configured_model c) past service) past)

-- and the new state stands for the points of its singles and the arrival of one more
abbrev pub IsAnswered : State → State → ℕ → ℕ → Service → Reply → Type 0
IsAnswered old new moment a service r = IsReplyAt old moment a service r
    × ((c : Config) (n : ℕ) (past : Past) → StandsAt old c n past → StandsAt new c n (arrival n moment ∷ after_singles (configured_model c) a n moment (singles_of (configured_model c) past service) past))

-- the reply was put after what waits for a
abbrev pub replied : State → ℕ → Output → State
replied s a output = record s { rows = extended s.rows a (waits.Reply output ∷ []) }

-- And after the reply, once it is put for a, the new state stands for the points of the request, the last of which says what came of
-- the data sets.
abbrev pub IsReplied : State → State → ℕ → ℕ → Service → Reply → Type 0
IsReplied old new moment a service r = IsReplyAt old moment a service r
    × ((c : Config) (n : ℕ) (past : Past) (output : Output) → StandsAt old c n past → tests (configured_model c) n past ≡ []
    → StandsAt (replied new a output) c n (at n moment (answered a output (change_of (configured_model c) past service)) ∷ after_singles (configured_model c) a n moment (singles_of (configured_model c) past service) past))

-- no step is counted yet, and what waits for the associations stays
pub record IsKept (old new : State) : Type 0 where
  pub config : new.config ≡ old.config
  pub steps : new.steps ≡ old.steps
  pub rows : new.rows ≡ old.rows

-- A write from the state at its arrival, of which this comes by the definitions: it is answered so, and the new state stands for its
-- point and the arrival of one more.
abbrev pub IsWrite : State → State → (Model → Past → Outcome) → Result (Unit {0}) ℕ → Type 0
IsWrite old new comes code = (c : Config) (n t : ℕ) (past : Past) → StandsAt old c n (arrival n t ∷ past)
    → (code ≡ code_of (comes (configured_model c) (arrival n t ∷ past))) × StandsAt new c n (arrival n t ∷ at n t (deed_of (comes (configured_model c) (arrival n t ∷ past))) ∷ past)

-- the same of a's writes, each after those before it
abbrev pub AreWrites : State → State → ℕ → List Single → List (Result (Unit {0}) ℕ) → Type 0
AreWrites old new a ss codes = (c : Config) (n t : ℕ) (past : Past) → StandsAt old c n (arrival n t ∷ past)
    → (codes ≡ map code_of (outcomes (configured_model c) a n t ss past)) × StandsAt new c n (arrival n t ∷ after_singles (configured_model c) a n t ss past)

-- the code of a refused write of an attribute that doesn't stand under SE
abbrev pub set_code : SetFault → ℕ
set_code faults.Kind = TYPE_INCONSISTENT
set_code faults.ReadOnly = OBJECT_ACCESS_DENIED
set_code faults.TooLong = OBJECT_VALUE_INVALID

-- the target and the value of a write that fits the configuration
abbrev pub IsFit : Config → Target → Value → Type 0
IsFit c (targets.Node n name) v = (n.0 < length (nodes_of c)) × (is_sound v ≡ true)
IsFit c _ v = Unit {0}

abbrev pub AreFit : Config → List Write → Type 0
AreFit c ws = All (λ (w : Write). IsFit c w.target w.value) ws

-- writes of a's request at this moment, after all points that the old state stands for: their codes, and the new state stands for
-- their points and the arrival of one more
abbrev pub AreWritten : State → State → ℕ → ℕ → List Single → List (Result (Unit {0}) ℕ) → Type 0
AreWritten old new moment a ss codes = (c : Config) (n : ℕ) (past : Past) → StandsAt old c n past
    → (codes ≡ map code_of (outcomes (configured_model c) a n moment ss past)) × StandsAt new c n (arrival n moment ∷ after_singles (configured_model c) a n moment ss past)

-- the members of the data set of a name
abbrev pub members_of : Option (Vec NodeId Global) → Option (List NodeId)
members_of found = option_map (λ (v : Vec NodeId Global). v.items) found

abbrev pub set_members : Book → List ℕ → List ℕ → Option (List NodeId)
set_members book domain item = option_map (λ k. (set_at book k).nodes) (number_named (set_name domain item) book)

abbrev pub node_numbers : List NodeId → List ℕ
node_numbers ns = map (λ (n : NodeId). n.0) ns

-- as many values as nodes, which are there, and sound values
pub record AreMembersFit (c : Config) (ns : List NodeId) (vs : List Value) : Type 0 where
  pub count : length ns ≡ length vs
  pub nodes : All (λ (n : NodeId). n.0 < length (nodes_of c)) ns
  pub sound : All (λ v. is_sound v ≡ true) vs
