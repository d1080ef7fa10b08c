-- why `notes::Notes::clear_last` answers as its contract says
use Rattle.std.proofs.Common.{rules, ◌≡◌, ◌++◌, ◌∷◌, [], arith}
use Rattle.std.proofs.lemmas.List.{length-set}
use Rattle.touch_index.proofs.NotesLaws.{covered_less, weighs_none}
use Rattle.sv_base.specs.Filled.{Filled}
use Rattle.bay_model.specs.declared.note.Mention.{Mention}
use Rattle.std.proofs.Common.{ap}
use Rattle.touch_index.proofs.notes.Notes.clear_last.Goals as goal

pub invariant_of-self : goal.invariant_of-self
invariant_of-self c =
    let is : c.self.inside.touched.items ≡ c.pop.new.self.items ++ c.in-Some.b ∷ [] = search rules in (
      covered_less c.self.inside.notes.items c.self.inside.touched.items c.pop.new.self.items c.in-Some.b c.clear.new.self c.self.invariant.0 is (weighs_none c.clear.new.self (ap (λ (n : Filled Mention). n.items) c.clear.ensures)),
      omega (arith, length-set c.self.inside.notes.items c.in-Some.b.0 c.clear.new.self, c.self.invariant.1, c.pop.ensures.capacity),
    )
