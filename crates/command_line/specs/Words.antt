-- The words of a command line, and where std has none.
use Rattle.std.specs.Prelude.{◌≡◌, ◌≢◌, ℕ, List, [], ◌∷◌, map, String, Result, Ok, Err}
use Rattle.std.specs.String.{string_bytes}
use Rattle.std.specs.declared.alloc.Global.{Global}
use Rattle.std.specs.IoError.{error_kind}
use Rattle.std.specs.declared.io.Error.{Error}
use Rattle.std.specs.declared.io.ErrorKind.TheVariants as kinds

-- the words are this one word
abbrev pub IsWord : List ℕ → List (String Global) → Type 0
IsWord word words = map string_bytes words ≡ word ∷ []

-- std gives no words of a command line, and not for lack of memory: one of them isn't UTF-8
abbrev pub IsForeign : {A : Type 0} → Result A Error → Type 0
IsForeign (Ok words) = ⊥
IsForeign (Err e) = error_kind e ≢ kinds.OutOfMemory
