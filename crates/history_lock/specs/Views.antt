-- What a seat knows, and sums over what seats know.
use Rattle.std.specs.Prelude.{ℕ, ◌+◌, ◌==◌, List, [], ◌∷◌, cond, nat_lt, Option}
use Rattle.sv_base.specs.declared.config.Config.{Config}
use Rattle.bay_model.specs.Answers.{History}
use Rattle.history_lock.specs.declared.view.View.{View}
use Rattle.history_lock.specs.declared.view.Phase.{Phase}
use Rattle.history_lock.specs.declared.view.Phase.TheVariants.{Idle, Drawn, Busy, Added}

-- what it is for a machine to stand for a history of accepted steps
abbrev pub Stands : Type 0 → Type 1
Stands M = M → Config → History → Type 0

abbrev pub view : Option Config → List (ℕ × ℕ) → ℕ → Phase → History → List (ℕ × ℕ) → History → View
view config ranges left phase seen aside told = record { config = config; ranges = ranges; left = left; phase = phase; seen = seen; aside = aside; told = told }

-- the same seat, in another phase, with other turns left and more seen
abbrev pub moved_to : View → ℕ → Phase → History → View
moved_to v left phase seen = view v.config v.ranges left phase seen v.aside v.told

abbrev pub total : {A : Type 0} → (A → ℕ) → List A → ℕ
total f [] = 0
total f (x ∷ xs) = f x + total f xs

-- 1 where the numbers are equal, else 0
abbrev pub hit : ℕ → ℕ → ℕ
hit n t = cond (n == t) 1 0

-- 1 where the seat has the ticket t, else 0
abbrev pub has_phase : ℕ → Phase → ℕ
has_phase t Idle = 0
has_phase t (Drawn n) = hit n t
has_phase t (Busy n) = hit n t
has_phase t (Added n) = hit n t

abbrev pub has : ℕ → View → ℕ
has t v = has_phase t v.phase

abbrev pub ticket_of : Phase → ℕ
ticket_of Idle = 0
ticket_of (Drawn n) = n
ticket_of (Busy n) = n
ticket_of (Added n) = n

-- 1 where the seat has the machine
abbrev pub busy_phase : Phase → ℕ
busy_phase Idle = 0
busy_phase (Drawn n) = 0
busy_phase (Busy n) = 1
busy_phase (Added n) = 1

abbrev pub busy : View → ℕ
busy v = busy_phase v.phase

-- 1 where the seat has added its step
abbrev pub added_phase : Phase → ℕ
added_phase Idle = 0
added_phase (Drawn n) = 0
added_phase (Busy n) = 0
added_phase (Added n) = 1

abbrev pub added : View → ℕ
added v = added_phase v.phase

-- 1 where the number is in the range
abbrev pub inside : ℕ → ℕ × ℕ → ℕ
inside k r = cond (nat_lt k r.0) 0 (cond (nat_lt k (r.0 + r.1)) 1 0)

-- in how many ranges of the seat the number is
abbrev pub mine : ℕ → View → ℕ
mine k v = total (inside k) v.ranges

abbrev pub aside_of : ℕ → View → ℕ
aside_of k v = total (inside k) v.aside

abbrev pub holds_number : ℕ → View → ℕ
holds_number k v = mine k v + aside_of k v

abbrev pub left_of : View → ℕ
left_of v = v.left
