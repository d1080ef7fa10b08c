-- Reading that gives something or a kind of refusal.
use Rattle.std.specs.Prelude.{◌≡◌, Option, Some, None, Result, Ok, Err}
use Rattle.cfg_parser.specs.declared.fault.Kind.{Kind}
use Rattle.cfg_parser.specs.declared.fault.LineFault.{LineFault}
use Rattle.cfg_parser.specs.declared.fault.CfgFault.{CfgFault}
use Rattle.cfg_parser.specs.declared.fault.CfgFault.TheVariants as faults
use Rattle.cfg_parser.specs.declared.fault.LineFault.TheVariants.{Refused, Memory}

-- what a function returned is what is read; of out of memory nothing is said
abbrev pub Gives : {A : Type 0} → Result A LineFault → Result A Kind → Type 0
Gives (Ok x) read = read ≡ Ok x
Gives (Err (Refused kind)) read = read ≡ Err kind
Gives (Err Memory) read = Unit {0}

infixl 10 ◌>>=◌
abbrev pub ◌>>=◌ : {A B : Type 0} → Result A Kind → (A → Result B Kind) → Result B Kind
(Ok x) >>= f = f x
(Err kind) >>= f = Err kind

-- what is there, or a refusal
abbrev pub given : {A : Type 0} → Kind → Option A → Result A Kind
given kind None = Err kind
given kind (Some x) = Ok x

-- the same of a whole text
abbrev pub GivesText : {A : Type 0} → Result A CfgFault → Result A CfgFault → Type 0
GivesText (Ok x) read = read ≡ Ok x
GivesText (Err (faults.Refused line kind)) read = read ≡ Err (faults.Refused line kind)
GivesText (Err faults.Memory) read = Unit {0}

-- the same, where what is read is a new value of what was there
abbrev pub GivesNew : {A : Type 0} → A → Result (Unit {0}) CfgFault → Result A CfgFault → Type 0
GivesNew new (Ok x) read = read ≡ Ok new
GivesNew new (Err (faults.Refused line kind)) read = read ≡ Err (faults.Refused line kind)
GivesNew new (Err faults.Memory) read = Unit {0}
