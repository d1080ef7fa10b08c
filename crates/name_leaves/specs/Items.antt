-- The items of nodes.
use Rattle.std.specs.Prelude.{ℕ, List, map}
use Rattle.bay_model.specs.Places.{Place}

abbrev pub items_of : List Place → List (List ℕ)
items_of ps = map (λ (p : Place). p.item) ps
