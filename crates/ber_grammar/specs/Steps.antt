-- A reader's steps, one after another.
use Rattle.std.specs.Prelude.{◌≡◌, Option, Some, None, Result, Ok, Err, ◌⊎◌}

-- Something is found, and with it the second step finds a value.
abbrev pub Then : {A B : Type 0} → (A → Type 0) → (A → B → Type 0) → B → Type 0
Then IsFirst IsSecond y = (x : _) × IsFirst x × IsSecond x y

-- Nothing is found, which has this refusal.
abbrev pub IsLacking : {A F : Type 0} → F → (A → Type 0) → F → Type 0
IsLacking fault IsFirst f = (f ≡ fault) × ((x : _) → ¬ IsFirst x)

-- The first step is refused, or it finds something and the second is refused.
abbrev pub Or : {A F : Type 0} → (F → Type 0) → (A → Type 0) → (A → F → Type 0) → F → Type 0
Or IsFirstRefused IsFirst IsSecondRefused f = IsFirstRefused f ⊎ ((x : _) × IsFirst x × IsSecondRefused x f)

-- the same where the first step's only refusal is that nothing is found
abbrev pub Else : {A F : Type 0} → F → (A → Type 0) → (A → F → Type 0) → F → Type 0
Else fault IsFirst IsSecondRefused = Or (IsLacking fault IsFirst) IsFirst IsSecondRefused

-- what is found, or this refusal
abbrev pub required : {A F : Type 0} → F → Option A → Result A F
required fault (Some x) = Ok x
required fault None = Err fault
