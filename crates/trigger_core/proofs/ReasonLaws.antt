-- The reasons of attributes, one after the other.
use Rattle.std.proofs.Common.{◌≡◌, ap, sym, ◌∙◌, ◌<◌, ◌+◌, ℕ, List, [], length, drop, get_or, unwrap_or, arith}
use Rattle.std.specs.Option.{option_map}
use Rattle.std.proofs.lemmas.List.{drop_more}
use Rattle.sv_base.specs.declared.numbers.AttrId.{AttrId}
use Rattle.bay_model.specs.declared.flags.Change.{Change}
use Rattle.bay_model.specs.declared.flags.Trg.{Trg}
use Rattle.bay_model.specs.declared.report.Reasons.{Reasons}
use Rattle.bay_model.specs.Notes.{no_reason, union}
use Rattle.trigger_core.specs.Noted.{change_of, reasons_by, reasons_in}

-- the reasons that an attribute gives
abbrev pub reasons_at : List Change → Trg → AttrId → Reasons
reasons_at changes trg x = unwrap_or (option_map (reasons_by trg) (change_of changes x)) no_reason

pub none_more : (r : Reasons) → union r no_reason ≡ r
none_more r = grind arith

pub union_assoc : (r s t : Reasons) → union (union r s) t ≡ union r (union s t)
union_assoc r s t = grind arith

pub one_more : (changes : List Change) (trg : Trg) (xs : List AttrId) (i : ℕ) (d : AttrId) (r : Reasons) → i < length xs
    → union (union r (reasons_at changes trg (get_or xs i d))) (reasons_in changes trg (drop (i + 1) xs)) ≡ union r (reasons_in changes trg (drop i xs))
one_more changes trg xs i d r below = union_assoc r (reasons_at changes trg (get_or xs i d)) (reasons_in changes trg (drop (i + 1) xs))
    ∙ ap (λ l. union r (reasons_in changes trg l)) (sym (drop_more xs i d below))

-- no attribute is left
pub all_done : (changes : List Change) (trg : Trg) (r : Reasons) → union r (reasons_in changes trg []) ≡ r
all_done changes trg r = none_more r
