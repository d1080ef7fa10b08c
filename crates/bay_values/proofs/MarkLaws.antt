-- Which attributes are marked, and of which there are changes.
use Rattle.std.proofs.Common.{◌≡◌, refl, ap, sym, ◌∙◌, ◌<◌, ℕ, zero, suc, Bool, true, false, List, [], ◌∷◌, length, Option, Some, None, is_some, slice_index_or, arith}
use Rattle.std.specs.List.{All}
use Rattle.std.specs.Option.{option_map}
use Rattle.std.proofs.lemmas.List.{get_or_default}
use Rattle.std.proofs.lemmas.List.Elements.{All-head, All-tail}
use Rattle.std.proofs.lemmas.List.Sums.{sum_by-cons}
use Rattle.sv_base.specs.declared.config.Config.{Config}
use Rattle.sv_base.specs.declared.value.Value.{Value}
use Rattle.bay_model.specs.declared.flags.Change.{Change}
use Rattle.bay_model.specs.declared.step.Setting.{Setting}
use Rattle.bay_model.specs.Settings.{set_to}
use Rattle.value_store.specs.Stored.{Stored}
use Rattle.trigger_core.specs.Noted.{change_of}
use Rattle.bay_values.specs.Changed.{change_from}
use Rattle.bay_values.specs.Marked.{is_marked, one_if, marked_in, IsBlank, AreNoted, IsDone}
use Rattle.bay_values.proofs.DistinctChanges.{found}

-- where no change is left, nothing is marked
pub blank_at_end : (marks : List Bool) → AreNoted [] marks → IsBlank marks
blank_at_end marks noted = λ k d below. get_or_default marks k d false below ∙ by (is_marked marks k) (noted k)
  where
    by : (b : Bool) → (b ≡ true → false ≡ true) → b ≡ false
    by true is = sym (is refl)
    by false is = refl

mapped : (o : Option Value) (f : Value → Change) → is_some (option_map f o) ≡ is_some o
mapped None f = refl
mapped (Some v) f = refl

-- the attributes that are marked are those of the changes
pub marked_are : (c : Config) (before after : List Stored) (settings : List Setting) (marks : List Bool) (changes : List Change) → IsDone c before settings after marks changes
    → (x : ℕ) → is_marked marks x ≡ is_some (change_of changes (record { 0 = x }))
marked_are c before after settings marks changes done x = done.marked x ∙ (sym (mapped (set_to x settings) (change_from c before x)) ∙ ap is_some (sym (done.made x)))

-- a mark is within the marks
within_by : (marks : List Bool) (x : ℕ) → is_marked marks x ≡ true → x < length marks
within_by [] x is = cc
within_by (b ∷ marks) zero is = omega arith
within_by (b ∷ marks) (suc x) is = omega (arith, within_by marks x is)

pub within_all : (c : Config) (before after : List Stored) (settings : List Setting) (marks : List Bool) (changes : List Change) → IsDone c before settings after marks changes → All (λ (ch : Change). ch.attr.0 < length marks) changes
within_all c before after settings marks changes done = λ k d below.
    within_by marks (slice_index_or changes k d).attr.0 (marked_are c before after settings marks changes done (slice_index_or changes k d).attr.0 ∙ found changes k d below)

-- where nothing is marked
pub none_marked : (marks : List Bool) → IsBlank marks → marked_in marks ≡ 0
none_marked [] blank = refl
none_marked (b ∷ marks) blank = omega (arith, sum_by-cons one_if b marks, ap one_if (All-head (λ m. m ≡ false) b marks blank), none_marked marks (All-tail (λ m. m ≡ false) b marks blank))

-- before any setting was made
pub done_first : (c : Config) (stored : List Stored) (marks : List Bool) → IsBlank marks → IsDone c stored [] stored marks []
done_first c stored marks blank = record {
  count = refl;
  values = λ x. refl;
  marked = λ x. free marks x blank;
  made = λ x. refl;
  once = λ k j d before below. absurd (omega (arith, below));
  noted = sym (none_marked marks blank);
}
  where
    free : (marks : List Bool) (x : ℕ) → IsBlank marks → is_marked marks x ≡ false
    free [] x blank = refl
    free (b ∷ marks) zero blank = All-head (λ m. m ≡ false) b marks blank
    free (b ∷ marks) (suc x) blank = free marks x (All-tail (λ m. m ≡ false) b marks blank)
