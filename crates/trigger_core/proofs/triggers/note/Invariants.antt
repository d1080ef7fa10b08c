-- what the loops of `triggers::note` keep
use Rattle.std.proofs.Common.{◌≡◌, ◌≤◌, ◌++◌, suc, drop, length}
use Rattle.trigger_core.specs.Noted.{noted, AreBelow}
use Rattle.trigger_core.proofs.triggers.note.Given as goal

abbrev pub invariant-loop-place : goal.invariant-loop-place
invariant-loop-place l = record {
  below : AreBelow (suc l.place) l.out.items;
  few : length l.out.items ≤ l.place;
  room : l.out.room ≡ l.fn.out.room;
  rest : noted l.fn.changes l.fn.trg 1 l.fn.set ≡ l.out.items ++ noted l.fn.changes l.fn.trg (suc l.place) (drop l.place l.fn.set);
}
