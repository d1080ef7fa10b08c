-- What came of the single reads and writes of a request (ISO 9506-2, Write; IEC 61850-8-1, LastApplError; IEC 61850-7-2, Operate): the codes, the
-- errors that go before the reply, the controls that act, and those whose terminations follow it.
use Rattle.std.specs.Prelude.{ℕ, Bool, ◌&&◌, List, [], ◌∷◌, ◌++◌, map, Option, None, Some, Result, if◌then◌else◌}
use Rattle.sv_base.specs.declared.numbers.CtlNo.{CtlNo}
use Rattle.bay_model.specs.declared.control.Act.{Act}
use Rattle.bay_model.specs.declared.control.ApplError.{ApplError}
use Rattle.bay_model.specs.Model.{operate}
use Rattle.bay_model.specs.Points.{Deed, called}
use Rattle.bay_model.specs.Commands.{is_test}
use Rattle.bay_model.specs.Outcomes.{Outcome, code_of, deed_of, error_in}
use Rattle.bay_model.specs.Singles.{act_of}

pub record Heard : Type 0 where
  pub codes : List (Result (Unit {0}) ℕ)
  pub before : List ApplError
  pub acts : List Act
  pub tests : List CtlNo
  -- of how many singles there is capacity for
  pub room : ℕ

-- nothing yet
abbrev pub unheard : ℕ → Heard
unheard n = record { codes = []; before = []; acts = []; tests = []; room = n }

abbrev pub listed : {A : Type 0} → Option A → List A
listed None = []
listed (Some x) = x ∷ []

-- the control of an accepted test operate under enhanced security, which these controls have
abbrev pub tests_in : (ℕ → Bool) → Deed → List ℕ
tests_in enhanced (called a k operate v) = if enhanced k && is_test v then k ∷ [] else []
tests_in enhanced _ = []

abbrev pub ctl_no : ℕ → CtlNo
ctl_no k = record { 0 = k }

-- with what came of one more
abbrev pub heard_with : (ℕ → Bool) → Outcome → Heard → Heard
heard_with enhanced o h = record {
  codes = h.codes ++ code_of o ∷ [];
  before = h.before ++ listed (error_in o);
  acts = h.acts ++ listed (act_of (deed_of o));
  tests = h.tests ++ map ctl_no (tests_in enhanced (deed_of o));
  room = h.room;
}

-- and of several, in order
abbrev pub heard_all : (ℕ → Bool) → List Outcome → Heard → Heard
heard_all enhanced [] h = h
heard_all enhanced (o ∷ os) h = heard_all enhanced os (heard_with enhanced o h)
