-- The opened book has the configured data sets, each with a name.
use Rattle.std.proofs.Common.{◌≡◌, ◌≢◌, ◌<◌, ℕ, zero, suc, List, [], ◌∷◌, ◌++◌, length, map, refl, sym, ap, ap₂, ◌∙◌, arith, append-nil}
use Rattle.std.specs.Prelude.{slice_index_or}
use Rattle.std.proofs.lemmas.List.{length-map}
use Rattle.sv_base.specs.declared.config.Config.{Config}
use Rattle.sv_base.specs.declared.config.SetDef.{SetDef}
use Rattle.sv_base.specs.declared.numbers.NodeId.{NodeId}
use Rattle.bay_model.specs.Model.{DataSet, Node}
use Rattle.bay_model.specs.Named.{configured_model, nodes, set_defined}
use Rattle.bay_model.specs.Points.{Past}
use Rattle.bay_model.specs.Sets.{dynamic}
use Rattle.object_model.specs.Tables.{set_row, set_rows, node_id}
use Rattle.data_sets.specs.Books.{booked, opened, set_at, no_set}
use Rattle.data_sets.specs.Standing.{data_set}
use Rattle.bay_replies.specs.Standing.{SetsStand}

numbers : (ns : List ℕ) → map (λ (n : NodeId). n.0) (map node_id ns) ≡ ns
numbers [] = refl
numbers (n ∷ ns) = ap (λ l. n ∷ l) (numbers ns)

pub same-sets : (ss : List DataSet) → map data_set (map booked (map set_row ss)) ≡ ss
same-sets [] = refl
same-sets (s ∷ ss) = ap₂ (λ (d : DataSet) (ds : List DataSet). d ∷ ds) (ap (λ l. record { domain = s.domain; item = s.item; nodes = l }) (numbers s.nodes)) (same-sets ss)

pub sets-stand : (c : Config) (past : Past) → dynamic past ≡ [] → SetsStand (opened (set_rows c)) (configured_model c) past
sets-stand c past none = record {
  sets = same-sets (configured_model c).sets ∙ (sym (append-nil (configured_model c).sets) ∙ ap (λ l. (configured_model c).sets ++ l) (sym none));
  count = length-map (configured_model c).sets set_row;
}

-- `LN$NAME` isn't empty
not-empty : (ln name : List ℕ) → ln ++ 36 ∷ name ≢ []
not-empty [] name e = cc
not-empty (o ∷ os) name e = cc

pub at-named : (ns : List Node) (defs : List SetDef) (k : ℕ) → k < length (map booked (map set_row (map (set_defined ns) defs))) → (slice_index_or (map booked (map set_row (map (set_defined ns) defs))) k no_set).name.item ≢ []
at-named ns [] k below = absurd (omega (arith, below))
at-named ns (d ∷ defs) zero below = not-empty d.ln d.name
at-named ns (d ∷ defs) (suc k) below = at-named ns defs k (omega (arith, below))

pub items-named : (c : Config) (k : ℕ) → k < length (opened (set_rows c)).sets → (set_at (opened (set_rows c)) k).name.item ≢ []
items-named c k below = at-named (nodes c) c.sets k below
