-- What neither defines nor deletes a set nor writes a DatSet leaves the book standing.
use Rattle.std.proofs.Common.{◌≡◌, ℕ, suc, Bool, true, false, List, [], ◌∷◌, ◌++◌, length, refl, sym, ap, ap₂, subst}
use Rattle.std.specs.Prelude.{◌==◌, if◌then◌else◌}
use Rattle.sv_base.specs.declared.value.Value.{Value}
use Rattle.sv_base.specs.declared.value.Value.TheVariants as kinds
use Rattle.sv_base.specs.declared.components.Comp.{Comp}
use Rattle.sv_base.specs.declared.components.Comp.TheVariants as comps
use Rattle.bay_model.specs.Model.{Model, Block, DataSet, Parameters}
use Rattle.bay_model.specs.Parameters.{parameters_at, parameters_after, written_to}
use Rattle.bay_model.specs.Points.{Deed, Past, answered, unchanged, defined, deleted, wrote}
use Rattle.bay_model.specs.Sets.{sets, dynamic, sets_after}
use Rattle.data_sets.specs.Books.{Book}
use Rattle.data_sets.specs.Standing.{Stands, StandsFor, IsQuiet, dat_sets, dat_sets_from, at}

abbrev IsOther : Comp → Type 0
IsOther comps.DatSet = ⊥
IsOther comp = Unit {0}

other_quiet : (a b : ℕ) (comp : Comp) (v : Value) → IsQuiet (wrote a b comp v) → IsOther comp
other_quiet a b comps.DatSet v is = elim is [ ]
other_quiet a b _ v is = tt

keeps : (comp : Comp) (v : Value) (was : Parameters) → IsOther comp → (written_to comp v was).dat_set ≡ was.dat_set
keeps comps.DatSet v was is = elim is [ ]
keeps comps.RptID (kinds.Text t) was is = refl
keeps comps.OptFlds (kinds.Bits x) was is = refl
keeps comps.BufTm (kinds.Uint x) was is = refl
keeps comps.TrgOps (kinds.Bits x) was is = refl
keeps comps.IntgPd (kinds.Uint x) was is = refl
keeps _ _ was is = refl

keeps_if : (t : Bool) (comp : Comp) (v : Value) (was : Parameters) → IsOther comp → (if t then written_to comp v was else was).dat_set ≡ was.dat_set
keeps_if true comp v was is = keeps comp v was is
keeps_if false comp v was is = refl

kept : (b : ℕ) (d : Deed) (was : Parameters) → IsQuiet d → (parameters_after b d was).dat_set ≡ was.dat_set
kept b (wrote a k comp v) was is = keeps_if (k == b) comp v was (other_quiet a k comp v is)
kept b _ was is = refl

same_sets : (d : Deed) (was : List DataSet) → IsQuiet d → sets_after d was ≡ was
same_sets (answered a o unchanged) was is = refl
same_sets (answered a o (defined n nodes)) was is = elim is [ ]
same_sets (answered a o (deleted names)) was is = elim is [ ]
same_sets _ was is = refl

same_used : (c : Model) (n m : ℕ) (d : Deed) (before : Past) (b : ℕ) (ks : List Block) → IsQuiet d → dat_sets_from c (at n m d ∷ before) b ks ≡ dat_sets_from c before b ks
same_used c n m d before b [] is = refl
same_used c n m d before b (k ∷ ks) is = ap₂ (λ x l. x ∷ l) (kept b d (parameters_at c b before) is) (same_used c n m d before (suc b) ks is)

pub book_quiet : (b : Book) (c : Model) (n m : ℕ) (d : Deed) (before : Past) → Stands b c before → IsQuiet d → Stands b c (at n m d ∷ before)
book_quiet b c n m d before h is =
    subst (λ l. StandsFor b (length c.sets) l (dat_sets c (at n m d ∷ before))) (sym (ap (λ l. c.sets ++ l) (same_sets d (dynamic before) is)))
    (subst (λ u. StandsFor b (length c.sets) (sets c before) u) (sym (same_used c n m d before 0 c.blocks is)) h)
