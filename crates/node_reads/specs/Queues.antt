-- The values that are gathered, or a code.
use Rattle.std.specs.Prelude.{ℕ, List, Result, Ok, Err}
use Rattle.std.specs.declared.collections.VecDeque.{VecDeque}
use Rattle.std.specs.declared.alloc.Global.{Global}
use Rattle.sv_base.specs.declared.value.Value.{Value}

abbrev pub queued : Result (VecDeque Value Global) ℕ → Result (List Value) ℕ
queued (Ok all) = Ok all.items
queued (Err code) = Err code
