-- Which calls of controls come of a step, and what acts (IEC 61850-7-2, Select, SelectWithValue, Operate and Cancel).
use Rattle.std.specs.Prelude.{◌≡◌, ⊤, ℕ, Bool, true, false, not, ◌&&◌, [], ◌∷◌, Some, is_some}
use Rattle.std.specs.Option.{option_map}
use Rattle.sv_base.specs.Same.{value_of}
use Rattle.sv_base.specs.declared.value.Value.{Value}
use Rattle.bay_model.specs.declared.control.Act.{Act}
use Rattle.bay_model.specs.Model.{Model, operate}
use Rattle.bay_model.specs.Points.{Deed, called, selected_control, Past}
use Rattle.bay_model.specs.Commands.{Command, command_of, is_test}
use Rattle.bay_model.specs.Calls.{Went, accepted, went, can_select}
use Rattle.bay_model.specs.Outcomes.{deed_of}
use Rattle.bay_model.specs.Writes.{outcome_of_call}
use Rattle.bay_model.specs.Singles.{Single, arrival, outcome_of, act_of}
use Rattle.bay_model.specs.Answers.{Turn, History, points, deed_at}

-- a call was accepted, a selection could be made; past ends with the arrival
abbrev pub IsAccepted : Model → Past → Deed → Type 0
IsAccepted c past (called a k call v) = went c k call a v past ≡ accepted
IsAccepted c past (selected_control a k) = can_select c k past ≡ true
IsAccepted c past _ = ⊤

-- each call among the points was accepted at its point, each selection could be made there
abbrev pub AreAccepted : Model → Past → Type 0
AreAccepted c [] = ⊤
AreAccepted c (p ∷ before) = IsAccepted c (arrival p.step p.moment ∷ before) p.deed × AreAccepted c before

abbrev pub CallsAreAccepted : Type 0
CallsAreAccepted = (c : Model) (h : History) → AreAccepted c (points c h)

-- a call or a selection is a's
abbrev pub IsOf : ℕ → Deed → Type 0
IsOf a (called b k call v) = b ≡ a
IsOf a (selected_control b k) = b ≡ a
IsOf a _ = ⊤

-- the calls and selections of a single read or write are its asker's
abbrev pub CallsAreTheAskers : Type 0
CallsAreTheAskers = (c : Model) (a : ℕ) (s : Single) (past : Past) → IsOf a (deed_of (outcome_of c a s past))

-- neither a call nor a selection
abbrev pub IsNoCall : Deed → Type 0
IsNoCall (called a k call v) = ⊥
IsNoCall (selected_control a k) = ⊥
IsNoCall _ = ⊤

-- no call and no selection is at a step's own point: they come of single reads and writes alone
abbrev pub StepsCallNothing : Type 0
StepsCallNothing = (c : Model) (n : ℕ) (t : Turn) (past : Past) → IsNoCall (deed_at c n t past t.step)

abbrev pub is_accepted : Went → Bool
is_accepted accepted = true
is_accepted _ = false

-- a's Oper of control k acts exactly where it is accepted and its Test is FALSE
abbrev pub OpersAct : Type 0
OpersAct = (c : Model) (a k : ℕ) (v : Value) (past : Past)
    → is_some (act_of (deed_of (outcome_of_call c a k operate v (went c k operate a v past)))) ≡ (is_accepted (went c k operate a v past) && not (is_test v))

-- an act is that of an accepted Oper of a with Test FALSE, with its ctlVal
pub record IsOper (c : Model) (a : ℕ) (past : Past) (x : Act) : Type 0 where
  pub oper : Value
  pub accepts : went c x.control.0 operate a oper past ≡ accepted
  pub no_test : is_test oper ≡ false
  pub ctl_val : option_map (λ (m : Command). value_of m.value) (command_of oper) ≡ Some x.value
  pub asker : x.by.0 ≡ a

-- nothing else acts
abbrev pub ActsAreOpers : Type 0
ActsAreOpers = (c : Model) (a : ℕ) (s : Single) (past : Past) (x : Act) → act_of (deed_of (outcome_of c a s past)) ≡ Some x → IsOper c a past x
