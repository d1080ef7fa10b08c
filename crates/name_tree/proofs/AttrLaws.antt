-- The attributes of nodes in one row: those of a node are the ones that its place has.
use Rattle.std.proofs.Common.{◌≡◌, ℕ, suc, ◌+◌, List, [], ◌∷◌, ◌++◌, map, flat_map, length, take, drop, refl, sym, ap, ap₂, ◌∙◌, append_assoc, append-nil, arith, length-append, drop-drop}
use Rattle.std.proofs.Math.Seq.{take-append_seam, drop-append_seam}
use Rattle.std.proofs.lemmas.Grind.{flat_map-append}
use Rattle.std.proofs.lemmas.List.{map-append, length-map, get_or-drop}
use Rattle.name_order.specs.Sorting.{name_at}
use Rattle.sv_base.specs.declared.config.Config.{Config}
use Rattle.sv_base.specs.declared.numbers.AttrId.{AttrId}
use Rattle.bay_model.specs.Model.{Role}
use Rattle.bay_model.specs.NameTree.{Forest, nothing, named}
use Rattle.bay_model.specs.Places.{Place, place, places, attrs_in, attrs_of_role}
use Rattle.bay_model.specs.Named.{places_in}
use Rattle.bay_model.specs.declared.tables.NodeRow.{NodeRow}
use Rattle.name_leaves.specs.Leaves.{what_code}
use Rattle.name_leaves.proofs.LeafLaws.{role_there}
use Rattle.name_tree.specs.declared.growth.Spot.{Spot}
use Rattle.name_tree.specs.Grown.{items_of, spot}
use Rattle.name_tree.specs.Nodes.{spots_in, attr_id, row, rows_from}
use Rattle.name_tree.specs.Attrs.{own_attrs, attrs_in_spots, row_with, rows_with}

abbrev ids : Forest → List AttrId
ids f = map attr_id (attrs_in f)

abbrev own : Role → List AttrId
own r = map attr_id (attrs_of_role r)

own-is : (r : Role) → own_attrs (what_code r) ≡ own r
own-is r = ap own (role_there r)

-- a name's own attribute, those of its parts and those of the names beside it
split : (r : Role) (parts others : Forest) → map attr_id ((attrs_of_role r ++ attrs_in parts) ++ attrs_in others) ≡ own r ++ (ids parts ++ ids others)
split r parts others = map-append attr_id (attrs_of_role r ++ attrs_in parts) (attrs_in others)
    ∙ (ap (λ l. l ++ ids others) (map-append attr_id (attrs_of_role r) (attrs_in parts)) ∙ append_assoc (own r) (ids parts) (ids others))

-- the attributes of nodes in their order are those of the tree in its order
attrs-places : (before : List ℕ) (f : Forest) → attrs_in_spots (map spot (places before f)) ≡ ids f
attrs-places before nothing = refl
attrs-places before (named m r k parts others) =
    let a : List Place = places (before ++ m ++ 36 ∷ []) parts in
    let b : List Place = places before others in
    ap₂ (λ x y. x ++ y) (own-is r) (ap attrs_in_spots (map-append spot a b) ∙ (flat_map-append (λ (s : Spot). own_attrs s.what) (map spot a) (map spot b)
    ∙ ap₂ (λ x y. x ++ y) (attrs-places (before ++ m ++ 36 ∷ []) parts) (attrs-places before others)))
    ∙ sym (split r parts others)

pub rows-append : (n : ℕ) (as_ bs : List Place) → rows_from n (as_ ++ bs) ≡ rows_from n as_ ++ rows_from (n + length as_) bs
rows-append n [] bs = ap (λ m. rows_from m bs) (omega arith)
rows-append n (a ∷ as_) bs = ap (λ l. row n a ∷ l) (rows-append (suc n) as_ bs ∙ ap (λ m. rows_from (suc n) as_ ++ rows_from m bs) (omega arith))

-- one more row
pub rows-next : (rows new all : List NodeRow) (items : List (List ℕ)) (as_ part : List AttrId) (place next first behind : ℕ) (s : Spot) (ss rest : List Spot) (item : List ℕ) → rest ≡ s ∷ ss → new ≡ rows ++ row_with (length rows) item s part ∷ []
    → item ≡ name_at items place → part ≡ take s.attrs (drop first as_) → next ≡ place + 1 → behind ≡ first + length (own_attrs s.what) → rows ++ rows_with (length rows) (drop place items) (drop first as_) rest ≡ all
    → new ++ rows_with (length new) (drop next items) (drop behind as_) ss ≡ all
rows-next rows new all items as_ part place next first behind s ss rest item r n i p q b is =
    let row : NodeRow = row_with (length rows) item s part in
    let count : length (rows ++ row ∷ []) ≡ suc (length rows) = omega (arith, length-append rows (row ∷ [])) in
    let named : item ≡ name_at (drop place items) 0 = i ∙ (ap (name_at items) (omega arith) ∙ sym (get_or-drop place items 0 [])) in
    let left : drop next items ≡ drop 1 (drop place items) = ap (λ k. drop k items) q ∙ sym (drop-drop 1 place items) in
    let later : drop behind as_ ≡ drop (length (own_attrs s.what)) (drop first as_) = ap (λ k. drop k as_) b ∙ sym (drop-drop (length (own_attrs s.what)) first as_) in
    ap (λ l. l ++ rows_with (length l) (drop next items) (drop behind as_) ss) n
    ∙ (append_assoc rows (row ∷ []) (rows_with (length (rows ++ row ∷ [])) (drop next items) (drop behind as_) ss)
    ∙ (ap (λ k. rows ++ (row ∷ rows_with k (drop next items) (drop behind as_) ss)) count
    ∙ (ap₂ (λ x y. rows ++ (row ∷ rows_with (suc (length rows)) x y ss)) left later
    ∙ (ap₂ (λ x y. rows ++ (row_with (length rows) x s y ∷ rows_with (suc (length rows)) (drop 1 (drop place items)) (drop (length (own_attrs s.what)) (drop first as_)) ss)) named p
    ∙ (ap (λ l. rows ++ rows_with (length rows) (drop place items) (drop first as_) l) (sym r) ∙ is)))))

-- a row that begins with the attributes of a forest holds those of each of its nodes
laid : (n : ℕ) (before : List ℕ) (f : Forest) (items : List (List ℕ)) (post : List AttrId) (ss : List Spot) → rows_with n (items_of (places before f) ++ items) (ids f ++ post) (map spot (places before f) ++ ss) ≡ rows_from n (places before f) ++ rows_with (n + length (places before f)) items post ss
laid n before nothing items post ss = ap (λ m. rows_with m items post ss) (omega arith)
laid n before (named m r k parts others) items post ss =
    let front : List ℕ = before ++ m ++ 36 ∷ [] in
    let p : Place = place (before ++ m) r k parts in
    let a : List Place = places front parts in
    let b : List Place = places before others in
    let flat : List AttrId = ids (named m r k parts others) ++ post in
    let behind : List AttrId = ids others ++ post in
    let here : flat ≡ map attr_id p.attrs ++ behind = ap (λ l. l ++ post) (map-append attr_id p.attrs (attrs_in others)) ∙ append_assoc (map attr_id p.attrs) (ids others) post in
    let taken : take (length p.attrs) flat ≡ map attr_id p.attrs = ap (λ i. take i flat) (sym (length-map p.attrs attr_id)) ∙ (ap (take (length (map attr_id p.attrs))) here ∙ take-append_seam (map attr_id p.attrs) behind) in
    let later : flat ≡ own r ++ (ids parts ++ behind) = ap (λ l. l ++ post) (split r parts others) ∙ (append_assoc (own r) (ids parts ++ ids others) post ∙ ap (λ l. own r ++ l) (append_assoc (ids parts) (ids others) post)) in
    let left : drop (length (own_attrs (what_code r))) flat ≡ ids parts ++ behind = ap (λ l. drop (length l) flat) (own-is r) ∙ (ap (drop (length (own r))) later ∙ drop-append_seam (own r) (ids parts ++ behind)) in
    let spots : map spot (a ++ b) ++ ss ≡ map spot a ++ (map spot b ++ ss) = ap (λ l. l ++ ss) (map-append spot a b) ∙ append_assoc (map spot a) (map spot b) ss in
    let named_as : items_of (a ++ b) ++ items ≡ items_of a ++ (items_of b ++ items) = ap (λ l. l ++ items) (map-append (λ (q : Place). q.item) a b) ∙ append_assoc (items_of a) (items_of b) items in
    let end : List NodeRow = rows_with (suc n + length a + length b) items post ss in
    let both : length (p ∷ (a ++ b)) ≡ 1 + (length a + length b) = omega (arith, length-append a b) in
    let count : suc n + length a + length b ≡ n + length (p ∷ (a ++ b)) = omega (arith, both) in
    ap₂ (λ x l. row_with n p.item (spot p) x ∷ l) taken (ap (λ is. rows_with (suc n) is (drop (length (own_attrs (what_code r))) flat) (map spot (a ++ b) ++ ss)) named_as ∙ (ap₂ (rows_with (suc n) (items_of a ++ (items_of b ++ items))) left spots
    ∙ (laid (suc n) front parts (items_of b ++ items) behind (map spot b ++ ss) ∙ (ap (λ l. rows_from (suc n) a ++ l) (laid (suc n + length a) before others items post ss)
    ∙ (sym (append_assoc (rows_from (suc n) a) (rows_from (suc n + length a) b) end)
    ∙ (ap (λ l. l ++ end) (sym (rows-append (suc n) a b)) ∙ ap (λ i. rows_from (suc n) (a ++ b) ++ rows_with i items post ss) count))))))

-- the nodes of a domain, whose row is that of their attributes
pub rows-laid : (n : ℕ) (f : Forest) → rows_with n (items_of (places [] f)) (attrs_in_spots (map spot (places [] f))) (map spot (places [] f)) ≡ rows_from n (places [] f)
rows-laid n f = ap (λ is. rows_with n is (attrs_in_spots (map spot (places [] f))) (map spot (places [] f))) (sym (append-nil (items_of (places [] f)))) ∙ (ap₂ (rows_with n (items_of (places [] f) ++ [])) (attrs-places [] f ∙ sym (append-nil (ids f))) (sym (append-nil (map spot (places [] f))))
    ∙ (laid n [] f [] [] [] ∙ append-nil (rows_from n (places [] f))))

pub spots-places : (c : Config) (ds : List (List ℕ)) → flat_map (spots_in c) ds ≡ map spot (flat_map (places_in c) ds)
spots-places c [] = refl
spots-places c (d ∷ ds) = ap (λ l. spots_in c d ++ l) (spots-places c ds) ∙ sym (map-append spot (places_in c d) (flat_map (places_in c) ds))
