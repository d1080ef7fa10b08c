-- what the loops of `triggers::reasons_in` keep
use Rattle.std.proofs.Common.{◌≡◌, drop}
use Rattle.bay_model.specs.Notes.{union}
use Rattle.trigger_core.specs.Noted.{reasons_in}
use Rattle.trigger_core.proofs.triggers.reasons_in.Given as goal

-- with the reasons of the attributes that are left, those of all
abbrev pub invariant-loop-attr : goal.invariant-loop-attr
invariant-loop-attr l = reasons_in l.fn.changes l.fn.trg l.fn.attrs ≡ union l.reasons (reasons_in l.fn.changes l.fn.trg (drop l.attr-index l.attrs))
