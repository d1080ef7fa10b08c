-- Whether an association is open, and how many replies wait for it, by the steps that name it (that an association has capacity for 16
-- replies is this profile's own).
use Rattle.std.specs.Prelude.{◌≡◌, ◌≤◌, ◌+◌, ◌-◌, ℕ, suc, Bool, true, false, ◌==◌, nat_le, [], ◌∷◌, Option, None, Some, is_some, if◌then◌else◌}
use Rattle.sv_base.specs.declared.numbers.AssocNo.{AssocNo}
use Rattle.bay_model.specs.declared.request.Request.{Request}
use Rattle.bay_model.specs.declared.step.Step.{Step}
use Rattle.bay_model.specs.declared.step.Step.TheVariants as steps
use Rattle.bay_model.specs.Model.{Model}
use Rattle.bay_model.specs.Associations.{ends}
use Rattle.bay_model.specs.Waiting.{waiting_replies}
use Rattle.bay_model.specs.Answers.{Turn, History, points}
use Rattle.bay_model.specs.Acceptance.{Fault, QueueFull, fault, IsHistory}
use Rattle.history_laws.specs.Opers.{opers_by, AreApart}

-- association a is open after a step, where it was or wasn't before
abbrev pub open_behind : ℕ → Step → Bool → Bool
open_behind a (steps.Open e size writer owner) was = if e.0 == a then true else was
open_behind a (steps.Lost e) was = if e.0 == a then false else was
open_behind a _ was = was

abbrev pub is_open : ℕ → History → Bool
is_open a [] = false
is_open a (t ∷ h) = open_behind a t.step (is_open a h)

-- Its replies by its own steps: since its last `Open` each request adds one, and each Take takes one away, where one is there. No fewer
-- wait: more do where a Take gave the termination of a command.
abbrev pub waits_behind : ℕ → Step → ℕ → ℕ
waits_behind a (steps.Open e size writer owner) n = if e.0 == a then 0 else n
waits_behind a (steps.Ask e r) n = if e.0 == a then suc n else n
waits_behind a (steps.Take e) n = if e.0 == a then n - 1 else n
waits_behind a (steps.Lost e) n = if e.0 == a then 0 else n
waits_behind a _ n = n

abbrev pub waits : ℕ → History → ℕ
waits a [] = 0
waits a (t ∷ h) = waits_behind a t.step (waits a h)

-- How many Opers of controls under enhanced security it wrote since its last `Open`: that many more can wait at most.
abbrev pub opers_behind : Model → ℕ → Step → ℕ → ℕ
opers_behind c a (steps.Open e size writer owner) n = if e.0 == a then 0 else n
opers_behind c a (steps.Ask e r) n = if e.0 == a then n + opers_by c (steps.Ask e r) else n
opers_behind c a (steps.Lost e) n = if e.0 == a then 0 else n
opers_behind c a _ n = n

abbrev pub opers : Model → ℕ → History → ℕ
opers c a [] = 0
opers c a (t ∷ h) = opers_behind c a t.step (opers c a h)

-- a turn of an association is its own, and it opens itself as its writer
abbrev pub IsItsOwn : Turn → Step → Type 0
IsItsOwn t (steps.Open e size writer owner) = (t.actor ≡ e.0) × (writer.0 ≡ e.0)
IsItsOwn t (steps.Ask e r) = t.actor ≡ e.0
IsItsOwn t (steps.Write e b comp v) = t.actor ≡ e.0
IsItsOwn t (steps.Take e) = t.actor ≡ e.0
IsItsOwn t (steps.Lost e) = t.actor ≡ e.0
IsItsOwn t _ = Unit {0}

abbrev pub AreTheirOwn : History → Type 0
AreTheirOwn [] = Unit {0}
AreTheirOwn (t ∷ h) = AreTheirOwn h × IsItsOwn t t.step

-- a step opens an association that isn't open; it asks, writes and loses one that is
abbrev pub IsInOrder : (ℕ → Bool) → Step → Type 0
IsInOrder opened (steps.Open e size writer owner) = opened e.0 ≡ false
IsInOrder opened (steps.Ask e r) = opened e.0 ≡ true
IsInOrder opened (steps.Write e b comp v) = opened e.0 ≡ true
IsInOrder opened (steps.Lost e) = opened e.0 ≡ true
IsInOrder opened _ = Unit {0}

-- the fault of a step in order, where n replies wait for the association that it names
abbrev pub own_fault : Step → (ℕ → ℕ) → Option Fault
own_fault (steps.Ask e r) n = if nat_le 16 (n e.0) then Some (QueueFull e.0) else None
own_fault _ n = None

-- ---- the laws

abbrev pub OpenBySteps : Type 0
OpenBySteps = (c : Model) (h : History) (a : ℕ) → is_some (ends a (points c h)) ≡ is_open a h

-- the replies that wait lie between two bounds by its own steps, which are one where it wrote no such Oper
abbrev pub WaitsBySteps : Type 0
WaitsBySteps = (c : Model) → AreApart c → (h : History) → IsHistory c h → (a : ℕ)
    → (waits a h ≤ waiting_replies c a (points c h)) × (waiting_replies c a (points c h) ≤ waits a h + opers c a h)

abbrev pub AcceptedBySteps : Type 0
AcceptedBySteps = (c : Model) (h : History) → AreTheirOwn h → (t : Turn) → IsItsOwn t t.step → IsInOrder (λ a. is_open a h) t.step
    → fault c h t ≡ own_fault t.step (λ a. waiting_replies c a (points c h))

-- an accepted request found fewer than 16 replies waiting
abbrev pub AskedWithRoom : Type 0
AskedWithRoom = (c : Model) → AreApart c → (h : History) → IsHistory c h → (t : Turn) (a : AssocNo) (r : Request) → t.step ≡ steps.Ask a r → fault c h t ≡ None
    → nat_le 16 (waits a.0 h) ≡ false
