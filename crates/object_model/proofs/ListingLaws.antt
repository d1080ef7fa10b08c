-- What one more domain does to what is listed.
use Rattle.std.proofs.Common.{◌≡◌, ℕ, ◌+◌, ◌<◌, List, [], ◌∷◌, ◌++◌, flat_map, length, take, get_or, sym, ap, subst, ◌∙◌, arith, length-append, length-take, append-nil}
use Rattle.std.proofs.Math.Seq.{take-length}
use Rattle.std.proofs.lemmas.List.{take_more, get_or_default}
use Rattle.list_laws.proofs.Appended.{flat-more}
use Rattle.sv_base.specs.declared.config.Config.{Config}
use Rattle.bay_model.specs.NameTree.{tree_of}
use Rattle.bay_model.specs.Places.{Place}
use Rattle.bay_model.specs.Named.{places_in}
use Rattle.bay_model.specs.NamedLines.{Line, domains, lines, in_order, names_in}
use Rattle.object_model.specs.declared.listing.Listing.{Listing}
use Rattle.name_tree.specs.Stands.{owns, stands_from, all_stands, all_leaves}
use Rattle.name_tree.proofs.StandLaws.{owns-append, stands-append}
use Rattle.name_tree.proofs.AttrLaws.{rows-append, rows-laid}
use Rattle.name_tree.proofs.NodeLaws.{length-rows, names-append}
use Rattle.name_tree.proofs.DirectoryLaws.{all-more}
use Rattle.name_tree.specs.Directories.{items_of, first_of, IsDirectory, IsDirectoryOf, AllFrom}
use Rattle.name_tree.specs.Nodes.{places_from, spots_in, rows_from, names_at, names_from, node_rows, node_names}
use Rattle.object_model.specs.Listed.{IsListed, IsOneMore}

pub listed-more : (c : Config) (i : ℕ) (domain : List ℕ) (old new : Listing) → i < length (domains c) → domain ≡ get_or (domains c) i [] → IsListed c i old → IsOneMore old new (places_in c domain) → IsListed c (i + 1) new
listed-more c i domain old new h e l m =
    let next : take (i + 1) (domains c) ≡ take i (domains c) ++ domain ∷ [] = take_more (domains c) i [] h ∙ ap (λ x. take i (domains c) ++ x ∷ []) (sym e) in
    let before : List Place = flat_map (places_in c) (take i (domains c)) in
    let here : List Place = places_in c domain in
    let rows : length old.rows.items ≡ 0 + length before = ap length l.rows ∙ (length-rows 0 before ∙ omega arith) in
    let first : length old.rows.items ≡ first_of c i = ap length l.rows ∙ length-rows 0 before in
    let number : length old.directories.items ≡ 0 + length (take i (domains c)) = omega (arith, h, l.count, length-take i (domains c)) in
    record {
      rows = m.rows ∙ (ap (λ x. old.rows.items ++ x) (rows-laid (length old.rows.items) (tree_of (names_in c domain))) ∙ (ap (λ n. old.rows.items ++ rows_from n here) rows ∙ (ap (λ x. x ++ rows_from (0 + length before) here) l.rows
          ∙ sym (ap (λ x. rows_from 0 (flat_map (places_in c) x)) next ∙ (ap (rows_from 0) (flat-more (places_in c) (take i (domains c)) domain) ∙ rows-append 0 before here)))));
      names = m.names ∙ (ap (λ n. old.names.items ++ names_at n 0 (spots_in c domain)) number ∙ (ap (λ x. x ++ names_at (0 + length (take i (domains c))) 0 (spots_in c domain)) l.names
          ∙ sym (ap (names_from c 0) next ∙ (names-append c 0 (take i (domains c)) (domain ∷ []) ∙ ap (λ x. names_from c 0 (take i (domains c)) ++ x) (append-nil (names_at (0 + length (take i (domains c))) 0 (spots_in c domain)))))));
      directories = subst (AllFrom (IsDirectory c) 0) (sym m.directories) (all-more (IsDirectory c) 0 old.directories.items m.directory l.directories
          (subst (λ k. IsDirectory c k m.directory) (sym l.count ∙ omega arith) (subst (λ d. IsDirectoryOf (first_of c i) (items_of (places_in c d)) m.directory) e (subst (λ n. IsDirectoryOf n (items_of here) m.directory) first m.is_directory))));
      count = ap length m.directories ∙ (length-append old.directories.items (m.directory ∷ []) ∙ omega (arith, l.count));
      stands = m.stands ∙ (ap (λ n. old.stands.items ++ stands_from n (spots_in c domain)) (ap length l.leaves) ∙ (ap (λ x. x ++ stands_from (length (owns (flat_map (spots_in c) (take i (domains c))))) (spots_in c domain)) l.stands
          ∙ sym (ap (λ x. stands_from 0 (flat_map (spots_in c) x)) next ∙ (ap (stands_from 0) (flat-more (spots_in c) (take i (domains c)) domain) ∙ (stands-append 0 (flat_map (spots_in c) (take i (domains c))) (spots_in c domain)
          ∙ ap (λ n. stands_from 0 (flat_map (spots_in c) (take i (domains c))) ++ stands_from n (spots_in c domain)) (omega arith))))));
      leaves = m.leaves ∙ (ap (λ x. x ++ owns (spots_in c domain)) l.leaves
          ∙ sym (ap (λ x. owns (flat_map (spots_in c) x)) next ∙ (ap owns (flat-more (spots_in c) (take i (domains c)) domain) ∙ owns-append (flat_map (spots_in c) (take i (domains c))) (spots_in c domain))));
    }

pub listed-none : (c : Config) (l : Listing) → l.rows.items ≡ [] → l.names.items ≡ [] → l.directories.items ≡ [] → l.stands.items ≡ [] → l.leaves.items ≡ [] → IsListed c 0 l
listed-none c l r n d s o = record { rows = r; names = n; stands = s; leaves = o; directories = subst (AllFrom (IsDirectory c) 0) (sym d) tt; count = ap length d }

pub listed-next : (c : Config) (ds : List (List ℕ)) (ls : List Line) (i : ℕ) (domain item : List ℕ) (old new : Listing) → ds ≡ domains c → ls ≡ in_order (lines c) → i < length ds → item ≡ get_or ds i item → domain ≡ item → IsListed c i old → IsOneMore old new (places_from ls domain) → IsListed c (i + 1) new
listed-next c ds ls i domain item old new d k h e q l m =
    let lt : i < length (domains c) = subst (λ x. i < length x) d h in
    let is : domain ≡ get_or (domains c) i [] = q ∙ (e ∙ (ap (λ x. get_or x i item) d ∙ get_or_default (domains c) i item [] lt)) in
    listed-more c i domain old new lt is l (subst (λ x. IsOneMore old new (places_from x domain)) k m)

pub all-rows : (c : Config) (l : Listing) → IsListed c (length (domains c)) l → l.rows.items ≡ node_rows c
all-rows c l h = h.rows ∙ ap (λ ds. rows_from 0 (flat_map (places_in c) ds)) (take-length (domains c))

pub all-names : (c : Config) (l : Listing) → IsListed c (length (domains c)) l → l.names.items ≡ node_names c
all-names c l h = h.names ∙ ap (names_from c 0) (take-length (domains c))

pub all-stands-listed : (c : Config) (l : Listing) → IsListed c (length (domains c)) l → l.stands.items ≡ all_stands c
all-stands-listed c l h = h.stands ∙ ap (λ ds. stands_from 0 (flat_map (spots_in c) ds)) (take-length (domains c))

pub all-leaves-listed : (c : Config) (l : Listing) → IsListed c (length (domains c)) l → l.leaves.items ≡ all_leaves c
all-leaves-listed c l h = h.leaves ∙ ap (λ ds. owns (flat_map (spots_in c) ds)) (take-length (domains c))
