-- The rows and the names of nodes: how many there are, and one more.
use Rattle.std.proofs.Common.{◌≡◌, ℕ, suc, ◌+◌, List, [], ◌∷◌, ◌++◌, flat_map, length, sym, ap, ap₂, ◌∙◌, arith, append_assoc, refl}
use Rattle.std.proofs.lemmas.List.{length-map}
use Rattle.sv_base.specs.declared.config.Config.{Config}
use Rattle.bay_model.specs.Places.{Place}
use Rattle.bay_model.specs.Named.{places_in}
use Rattle.name_tree.specs.declared.growth.Spot.{Spot}
use Rattle.name_tree.specs.Grown.{spot}
use Rattle.name_tree.specs.declared.directories.NodeName.{NodeName}
use Rattle.name_tree.specs.Nodes.{spots_in, rows_from, names_at, names_from}
use Rattle.name_tree.proofs.AttrLaws.{spots-places}

pub length-rows : (n : ℕ) (ps : List Place) → length (rows_from n ps) ≡ length ps
length-rows n [] = refl
length-rows n (p ∷ ps) = ap suc (length-rows (suc n) ps)

pub count-places : (c : Config) (ds : List (List ℕ)) → length (flat_map (places_in c) ds) ≡ length (flat_map (spots_in c) ds)
count-places c ds = sym (ap length (spots-places c ds) ∙ length-map (flat_map (places_in c) ds) spot)

-- one more name
pub names-next : (names new all : List NodeName) (k place next : ℕ) (s : Spot) (ss rest : List Spot) → rest ≡ s ∷ ss → new ≡ names ++ record { domain = k; place = place } ∷ [] → next ≡ place + 1 → names ++ names_at k place rest ≡ all → new ++ names_at k next ss ≡ all
names-next names new all k place next s ss rest r n q is =
    let follows : next ≡ suc place = omega (arith, q) in
    ap₂ (λ l m. l ++ names_at k m ss) n follows ∙ (append_assoc names (record { domain = k; place = place } ∷ []) (names_at k (suc place) ss) ∙ (ap (λ l. names ++ names_at k place l) (sym r) ∙ is))

pub names-append : (c : Config) (k : ℕ) (as_ bs : List (List ℕ)) → names_from c k (as_ ++ bs) ≡ names_from c k as_ ++ names_from c (k + length as_) bs
names-append c k [] bs = ap (λ m. names_from c m bs) (omega arith)
names-append c k (a ∷ as_) bs = ap (λ l. names_at k 0 (spots_in c a) ++ l) (names-append c (suc k) as_ bs ∙ ap (λ m. names_from c (suc k) as_ ++ names_from c m bs) (omega arith))
    ∙ sym (append_assoc (names_at k 0 (spots_in c a)) (names_from c (suc k) as_) (names_from c (k + length (a ∷ as_)) bs))
