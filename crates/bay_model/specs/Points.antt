-- A history, looked back upon: its points, the newest first. Each step makes a point; a request of k single reads or
-- writes makes one point for each of them and then one for its reply. A point carries what came of it, and every other
-- definition looks back over the points: `f (p ∷ before)` says what holds up to p, and `before` leaves p out.
use Rattle.std.specs.Prelude.{ℕ, Bool, List, [], ◌∷◌, max}
use Rattle.sv_base.specs.declared.value.Value.{Value}
use Rattle.sv_base.specs.declared.components.Comp.{Comp}
use Rattle.bay_model.specs.declared.step.Setting.{Setting}
use Rattle.bay_model.specs.declared.request.SetName.{SetName}
use Rattle.bay_model.specs.declared.answer.Output.{Output}
use Rattle.bay_model.specs.Model.{Call}

-- what came of the data sets at a reply: a set was defined with these nodes, or these sets were deleted
pub data Change : Type 0 where
  unchanged : Change
  defined : SetName → List ℕ → Change
  deleted : List SetName → Change

-- What came of a point; what was refused or merely read came to nothing. In the numbers, a is an association, b a
-- report block, k a control, d a domain and x an attribute.
pub data Deed : Type 0 where
  -- a was opened by the actor opener, with this greatest size of a PDU, from the address owner; the actor writer takes for
  -- it
  opened : (a opener writer size : ℕ) (owner : List ℕ) → Deed
  -- a was released, aborted or lost
  lost : (a : ℕ) → Deed
  -- the process set these attributes, in order
  valued : List Setting → Deed
  -- the process ended the execution of a control, well or not
  finished : (k : ℕ) → Bool → Deed
  -- the process blocked or unblocked a control
  blocked : (k : ℕ) → Bool → Deed
  -- a's write of a component of block b was accepted (SetBRCBValues)
  wrote : (a b : ℕ) → Comp → Value → Deed
  -- a's write of attribute x was accepted (SetDataValues); one into the edit copy of SG attribute x (SetEditSGValue)
  put : (a x : ℕ) → Value → Deed
  copied : (a x : ℕ) → Value → Deed
  -- a's write of ActSG n, of EditSG n, or of CnfEdit TRUE in domain d was accepted (SelectActiveSG, SelectEditSG,
  -- ConfirmEditSGValues)
  activated : (a d n : ℕ) → Deed
  edited : (a d n : ℕ) → Deed
  confirmed : (a d : ℕ) → Deed
  -- a's write of a control's SBOw, Oper or Cancel was accepted (SelectWithValue, Operate, Cancel)
  called : (a k : ℕ) → Call → Value → Deed
  -- a's read of a control's SBO gave the reference (Select)
  selected_control : (a k : ℕ) → Deed
  -- the reply to a, with the errors before it, and what came of the data sets
  answered : (a : ℕ) → Output → Change → Deed
  -- a Take of a gave the reply that waited longest; the waiting termination of control k; the report of entry n of
  -- block b
  took : (a : ℕ) → Deed
  terminated : (a k : ℕ) → Deed
  reported : (a b n : ℕ) → Deed
  nothing : Deed

pub record Point : Type 0 where
  -- the moment that was handed in
  pub moment : ℕ
  -- how many steps came before its step
  pub step : ℕ
  pub deed : Deed

-- the points up to one, that one first; the empty list stands before all steps
abbrev pub Past : Type 0
Past = List Point

-- the least moment that can be handed in: the first millisecond of 1984, since 1970
abbrev pub least_moment : ℕ
least_moment = 441763200000

-- `now` at a point: the greatest moment that was handed in so far; one that lies below it is taken as it
abbrev pub now : Past → ℕ
now [] = least_moment
now (p ∷ before) = max p.moment (now before)
