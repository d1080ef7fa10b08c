-- What every reader promises.
use Rattle.std.specs.Prelude.{◌≡◌, Option, Some, None, Result, Ok, Err, MatchResult, IfSome}

infixl 10 ◌>>=◌
abbrev pub ◌>>=◌ : {A B F : Type 0} → Result A F → (A → Result B F) → Result B F
(Ok x) >>= f = f x
(Err e) >>= f = Err e

-- the same value, or the fault that another reader makes of this one
abbrev pub with_fault : {A E F : Type 0} → (E → F) → Result A E → Result A F
with_fault fault (Ok x) = Ok x
with_fault fault (Err f) = Err (fault f)

-- What a function returned, seen by view, is what reading gives.
abbrev pub Gives : {X Y F : Type 0} → (X → Y) → Result X F → Result Y F → Type 0
Gives view (Ok x) read = read ≡ Ok (view x)
Gives view (Err f) read = read ≡ Err f

-- A reader gives a value exactly where the input spells it, and a refusal exactly where the input is refused so.
pub record Reads {X Y F : Type 0} (view : X → Y) (r : Result X F) (IsSpelled : Y → Type 0) (IsRefused : F → Type 0) : Type 0 where
  pub tells : MatchResult r (λ x. IsSpelled (view x)) IsRefused
  pub only : (y : Y) → IsSpelled y → Gives view r (Ok y)
  pub refuses : (f : F) → IsRefused f → Gives view r (Err f)

-- The same of a reader that takes memory. Of an error that is no fault, as out of memory, nothing is said.
abbrev pub GivesOrMemory : {X Y E F : Type 0} → (E → Option F) → (X → Y) → Result X E → Result Y F → Type 0
GivesOrMemory fault_of view (Ok x) read = read ≡ Ok (view x)
GivesOrMemory fault_of view (Err e) read = IfSome (fault_of e) (λ f. read ≡ Err f)

pub record ReadsOrMemory {X Y E F : Type 0} (fault_of : E → Option F) (view : X → Y) (r : Result X E) (IsSpelled : Y → Type 0) (IsRefused : F → Type 0) : Type 0 where
  pub tells : MatchResult r (λ x. IsSpelled (view x)) (λ e. IfSome (fault_of e) IsRefused)
  pub only : (y : Y) → IsSpelled y → GivesOrMemory fault_of view r (Ok y)
  pub refuses : (f : F) → IsRefused f → GivesOrMemory fault_of view r (Err f)

-- ---- steps that may give nothing

abbrev pub and_then : {A B : Type 0} → Option A → (A → Option B) → Option B
and_then None f = None
and_then (Some x) f = f x

-- the value, without the fault that stands for none
abbrev pub kept : {A F : Type 0} → Result A F → Option A
kept (Ok x) = Some x
kept (Err f) = None

-- the first where there is one, else the second
abbrev pub first_of_two : {A : Type 0} → Option A → Option A → Option A
first_of_two (Some v) other = Some v
first_of_two None other = other
