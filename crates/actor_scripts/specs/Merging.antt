-- Steps that are put into their places.
use Rattle.std.specs.Prelude.{◌≡◌, ℕ, List, Option, Some, slice_get}
use Rattle.std.specs.List.{All}
use Rattle.sv_base.specs.declared.config.Config.{Config}
use Rattle.bay_model.specs.Answers.{History}
use Rattle.bay_histories.specs.Rules.{Rules}
use Rattle.actor_scripts.specs.declared.part.Part.{Part}
use Rattle.actor_scripts.specs.declared.made.Made.{Made}
use Rattle.actor_scripts.specs.Scripts.{replies_of}

-- what is in a place is what the list has there
abbrev pub AreRight : List Made → List (Option Made) → Type 0
AreRight ms places = (p : ℕ) (m : Made) → slice_get places p ≡ Some (Some m) → slice_get ms p ≡ Some m

-- the parts are of this history
abbrev pub AreOf : Rules → Config → History → List Part → Type 0
AreOf rules c h parts = All (λ (p : Part). p.replies.items ≡ replies_of rules c p.actor h) parts
