-- A connection on which PDUs of MMS can come.
use Rattle.std.specs.Prelude.{◌≡◌, ℕ, true, []}
use Rattle.osi_stack.specs.declared.phase.Phase.{Phase}
use Rattle.osi_stack.specs.declared.phase.Phase.TheVariants.{Idle, Called, Open, Calling, Asking, Joined, Ended}
use Rattle.osi_stack.specs.Stream.{Stand}

-- The association is there, with this number of the context of MMS.
abbrev pub IsInUse : Phase → ℕ → Type 0
IsInUse (Open line acse) context = line.context ≡ context
IsInUse (Joined line) context = line.context ≡ context
IsInUse Idle context = ⊥
IsInUse (Called exponent) context = ⊥
IsInUse (Calling size) context = ⊥
IsInUse (Asking exponent size) context = ⊥
IsInUse Ended context = ⊥

-- and no TSDU is open
abbrev pub IsOpenFor : Stand → ℕ → Type 0
IsOpenFor s context = (s.transport.connected ≡ true) × (s.transport.tsdu ≡ []) × IsInUse s.phase context
