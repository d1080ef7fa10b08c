-- What a node reads as, and the value of a member, is at most ten deep.
use Rattle.std.proofs.Common.{◌≡◌, ℕ, zero, suc, ◌≤◌, Bool, true, false, not, ◌&&◌, ◌⊎◌, inl, inr, List, [], ◌∷◌, ◌++◌, map, refl, sym, ap, subst, ◌∙◌, arith, true≢false}
use Rattle.std.specs.Prelude.{codes, slice_get, unwrap_or}
use Rattle.std.specs.List.{list_any}
use Rattle.std.specs.Str.{bytes_eq}
use Rattle.std.proofs.lemmas.Bool.{and_parts, and_from}
use Rattle.list_laws.proofs.Among.{Among, source, gathered, some-passes, passes}
use Rattle.list_laws.proofs.Distinct.{octets_same, octets_equal}
use Rattle.list_laws.proofs.Truths.{not-true}
use Rattle.sv_base.specs.declared.config.Config.{Config}
use Rattle.bay_model.specs.Generated.{Named}
use Rattle.bay_model.specs.Lookups.{node_of}
use Rattle.bay_model.specs.Model as model
use Rattle.bay_model.specs.Model.{Model, Node, Tree, Trees, several}
use Rattle.bay_model.specs.Named.{configured_model, nodes, places_in}
use Rattle.bay_model.specs.NameTree.{first_name, rest_of, is_itself, below, first_names, role_of, grown, longest}
use Rattle.bay_model.specs.NamedLines.{domains, names_in}
use Rattle.bay_model.specs.Places.{Place, places, node_at, trees, tree_with}
use Rattle.cfg_grammar.specs.Texts.{SpellsConfig}
use Rattle.cfg_lines.specs.Configs.{config_of}
use Rattle.text_configs.proofs.DataLaws.{AreWithin, within-below}
use Rattle.text_configs.proofs.NamedLaws.{is-first, below-of, is-below, place_at, deeper, placed}
use Rattle.text_configs.proofs.OrderLaws.{within-longest}
use Rattle.output_laws.proofs.ItemLaws.{IsCommand, Class, IsClassed, IsTold, is-told, names-classed}
use Rattle.output_laws.proofs.TreeLaws.{depth_tree, with-depth, HasNames, AreFew, rest-few, forest-depth, place-depth, HasWithheld, with-withheld, IsEnd, IsUnder, AreEnding, under-below, forest-withheld, tree-withheld, place-withheld}

-- at most ten deep, or with a leaf that is withheld
abbrev pub IsFlat : Tree → Type 0
IsFlat t = (depth_tree t ≤ 10) ⊎ HasWithheld t

more-few : (m k : ℕ) (item : List ℕ) → m ≤ k → HasNames m item → HasNames k item
more-few m k item le h = record { names = h.names; plain = h.plain; is = h.is; few = omega (arith, le, h.few) }

module _ (ns : List Named) (class : IsClassed ns) (l : ℕ) (within : AreWithin l ns) where
  -- what stands under CO of a logical node ends
  under-command : (f g : List ℕ) → g ≡ codes "CO" → AreEnding (below g (below f ns))
  under-command f g is q i =
      let b = below-of (below f ns) g q i in
      let n = below-of ns f b.0 b.1.there in
      by b.0 b.1.is b.1.left n.0 n.1.there n.1.longer n.1.is n.1.left (class n.0 n.1.there)
    where
      by : (b : Named) → g ≡ first_name b → q ≡ rest_of b → (n : Named) → Among n ns → is_itself n ≡ false → f ≡ first_name n → b ≡ rest_of n → Class ns n → IsEnd q.role ⊎ ((w : Named) × Among w (below g (below f ns)) × IsUnder q w)
      by b of_b left_b n there longer of_n left_n (inl h) = absurd (h.1 (ap first_name (sym left_n) ∙ (sym of_b ∙ is)))
      by b of_b left_b n there longer of_n left_n (inr (inl h)) = absurd (h.0.1 (ap first_name (sym left_n) ∙ (sym of_b ∙ is)))
      by b of_b left_b n there longer of_n left_n (inr (inr h)) = ends h.ends
        where
          q_is : q ≡ rest_of (rest_of n)
          q_is = left_b ∙ ap rest_of left_n

          ends : IsEnd n.role ⊎ ((w : Named) × Among w ns × IsUnder n w) → IsEnd q.role ⊎ ((w : Named) × Among w (below g (below f ns)) × IsUnder q w)
          ends (inl e) = inl (subst (λ (x : Named). IsEnd x.role) (sym q_is) e)
          ends (inr (w, j, u)) =
              let one = under-below ns n w longer j u in
              let in_f : Among (rest_of w) (below f ns) = subst (λ x. Among (rest_of w) (below x ns)) (sym of_n) one.0 in
              let two = under-below (below f ns) (rest_of n) (rest_of w) h.further in_f one.1 in
              let same : first_name (rest_of n) ≡ g = ap first_name (sym left_n) ∙ sym of_b in
              inr (rest_of (rest_of w), subst (λ x. Among (rest_of (rest_of w)) (below x (below f ns))) same two.0, subst (λ x. IsUnder x (rest_of (rest_of w))) (sym q_is) two.1)

  -- under another constraint there are at most nine names
  under-other : (f g : List ℕ) → (g ≡ codes "CO" → ⊥) → AreFew 9 (below g (below f ns))
  under-other f g other q i =
      let b = below-of (below f ns) g q i in
      let n = below-of ns f b.0 b.1.there in
      by b.0 b.1.longer b.1.is b.1.left n.0 n.1.longer n.1.left (class n.0 n.1.there)
    where
      twice : (b n : Named) → is_itself b ≡ false → q ≡ rest_of b → is_itself n ≡ false → b ≡ rest_of n → HasNames 11 n.item → HasNames 9 q.item
      twice b n longer_b left_b longer_n left_n h =
          let one : HasNames 10 b.item = subst (λ (x : Named). HasNames 10 x.item) (sym left_n) (rest-few 10 n longer_n h) in
          subst (λ (x : Named). HasNames 9 x.item) (sym left_b) (rest-few 9 b longer_b one)

      by : (b : Named) → is_itself b ≡ false → g ≡ first_name b → q ≡ rest_of b → (n : Named) → is_itself n ≡ false → b ≡ rest_of n → Class ns n → HasNames 9 q.item
      by b longer_b of_b left_b n longer_n left_n (inl h) = twice b n longer_b left_b longer_n left_n (more-few 10 11 n.item (omega arith) h.0)
      by b longer_b of_b left_b n longer_n left_n (inr (inl h)) = twice b n longer_b left_b longer_n left_n h.0.0
      by b longer_b of_b left_b n longer_n left_n (inr (inr h)) = absurd (other (of_b ∙ (ap first_name left_n ∙ h.second_is)))

  -- a logical node without a control
  abbrev is_co : Named → Bool
  is_co b = not (is_itself b) && bytes_eq (codes "CO") (first_name b)

  node-few : (f : List ℕ) → list_any (λ b. not (is_itself b) && bytes_eq (codes "CO") (first_name b)) (below f ns) ≡ false → AreFew 9 (below f ns)
  node-few f none q i =
      let n = below-of ns f q i in by n.0 n.1.there n.1.longer n.1.is n.1.left (class n.0 n.1.there)
    where
      clash : (w : Named) → Among w ns → f ≡ first_name w → IsCommand ns w → ⊥
      clash w j of_w h =
          let there : Among (rest_of w) (below f ns) = is-below ns f w j h.longer of_w in
          true≢false (sym (passes (λ b. not (is_itself b) && bytes_eq (codes "CO") (first_name b)) (rest_of w) (below f ns) there
          (and_from (not (is_itself (rest_of w))) (bytes_eq (codes "CO") (first_name (rest_of w))) (ap not h.further) (octets_equal (codes "CO") (first_name (rest_of w)) (sym h.second_is)))) ∙ none)

      by : (n : Named) → Among n ns → is_itself n ≡ false → f ≡ first_name n → q ≡ rest_of n → Class ns n → HasNames 9 q.item
      by n there longer of_n left (inl h) = subst (λ (x : Named). HasNames 9 x.item) (sym left) (rest-few 9 n longer h.0)
      by n there longer of_n left (inr (inl h)) = absurd (clash h.1.other h.1.there (of_n ∙ sym h.1.same) h.1.is)
      by n there longer of_n left (inr (inr h)) = absurd (clash n there of_n h)

-- ---- the places of a domain

-- deeper than a logical node
deep-place : (l : ℕ) (ns : List Named) → IsClassed ns → AreWithin l ns → (f : List ℕ) (before : List ℕ) (p : Place) → Among p (places before (grown l (below f ns))) → IsFlat p.tree
deep-place zero ns class within f before p i = absurd i
deep-place (suc l) ns class within f before p i =
    let s = placed before l (below f ns) p i in
    by s.0 (bytes_eq s.0 (codes "CO")) refl s.1.name s.1.at
  where
    inner : AreWithin l (below f ns)
    inner = within-below l ns f within

    command : (g : List ℕ) → g ≡ codes "CO" → Among g (first_names (below f ns)) → (p ≡ place_at before l (below f ns) g) ⊎ Among p (deeper before l (below f ns) g) → HasWithheld p.tree
    command g is name (inl e) = subst (λ (q : Place). HasWithheld q.tree) (sym e) (tree-withheld l (below f ns) g (under-command ns class (suc l) within f g is) (within-below l ns f within) name)
    command g is name (inr j) = go l (within-below l ns f within) j
      where
        go : (l : ℕ) → AreWithin l (below f ns) → Among p (places (before ++ g ++ 36 ∷ []) (grown l (below g (below f ns)))) → HasWithheld p.tree
        go zero w j = absurd j
        go (suc k) w j = place-withheld k (below g (below f ns)) (before ++ g ++ 36 ∷ []) p (under-command ns class (suc l) within f g is) (within-below k (below f ns) g w) j

    other : (g : List ℕ) → (g ≡ codes "CO" → ⊥) → (p ≡ place_at before l (below f ns) g) ⊎ Among p (deeper before l (below f ns) g) → depth_tree p.tree ≤ 10
    other g not_co (inl e) =
        let few = forest-depth l 9 (below g (below f ns)) (under-other ns class (suc l) within f g not_co) in
        omega (arith, ap (λ (q : Place). depth_tree q.tree) e, with-depth (role_of (below g (below f ns))) (trees (grown l (below g (below f ns)))), few)
    other g not_co (inr j) = go l j
      where
        go : (l : ℕ) → Among p (places (before ++ g ++ 36 ∷ []) (grown l (below g (below f ns)))) → depth_tree p.tree ≤ 10
        go zero j = absurd j
        go (suc k) j = omega (arith, place-depth k 9 (below g (below f ns)) (before ++ g ++ 36 ∷ []) p (under-other ns class (suc l) within f g not_co) j)

    by : (g : List ℕ) (t : Bool) → bytes_eq g (codes "CO") ≡ t → Among g (first_names (below f ns)) → (p ≡ place_at before l (below f ns) g) ⊎ Among p (deeper before l (below f ns) g) → IsFlat p.tree
    by g true is name at = inr (command g (octets_same g (codes "CO") is) name at)
    by g false is name at = inl (other g (λ e. true≢false (sym (octets_equal g (codes "CO") e) ∙ is)) at)

-- a logical node
node-place : (l : ℕ) (ns : List Named) → IsClassed ns → AreWithin l ns → (f : List ℕ) → Among f (first_names ns) → IsFlat (tree_with (role_of (below f ns)) (trees (grown l (below f ns))))
node-place zero ns class within f name = inl (omega (arith, with-depth (role_of (below f ns)) (trees (grown zero (below f ns)))))
node-place (suc l) ns class within f name = by (list_any (λ b. not (is_itself b) && bytes_eq (codes "CO") (first_name b)) (below f ns)) refl
  where
    by : (t : Bool) → list_any (λ b. not (is_itself b) && bytes_eq (codes "CO") (first_name b)) (below f ns) ≡ t → IsFlat (tree_with (role_of (below f ns)) (trees (grown (suc l) (below f ns))))
    by true is =
        let b = some-passes (λ b. not (is_itself b) && bytes_eq (codes "CO") (first_name b)) (below f ns) is in
        let two = and_parts (not (is_itself b.0)) (bytes_eq (codes "CO") (first_name b.0)) b.2 in
        let g = is-first (below f ns) b.0 b.1 (not-true (is_itself b.0) two.0) in
        let co : first_name b.0 ≡ codes "CO" = sym (octets_same (codes "CO") (first_name b.0) two.1) in
        inr (with-withheld (role_of (below f ns)) (trees (grown (suc l) (below f ns))) (forest-withheld l (below f ns) (first_name b.0) g
        (tree-withheld l (below f ns) (first_name b.0) (under-command ns class (suc l) within f (first_name b.0) co) (within-below l ns f within) g)))
    by false is =
        inl (omega (arith, with-depth (role_of (below f ns)) (trees (grown (suc l) (below f ns))), forest-depth (suc l) 9 (below f ns) (node-few ns class (suc l) within f is)))

domain-place : (c : Config) → IsTold c → (domain : List ℕ) (p : Place) → Among p (places_in c domain) → IsFlat p.tree
domain-place c told domain p i =
    let ns = names_in c domain in
    let s = placed [] (longest ns) ns p i in
    by s.0 s.1.name s.1.at
  where
    by : (f : List ℕ) → Among f (first_names (names_in c domain)) → (p ≡ place_at [] (longest (names_in c domain)) (names_in c domain) f) ⊎ Among p (deeper [] (longest (names_in c domain)) (names_in c domain) f) → IsFlat p.tree
    by f name (inl e) = subst (λ (q : Place). IsFlat q.tree) (sym e) (node-place (longest (names_in c domain)) (names_in c domain) (names-classed c told domain) (within-longest (names_in c domain)) f name)
    by f name (inr j) = deep-place (longest (names_in c domain)) (names_in c domain) (names-classed c told domain) (within-longest (names_in c domain)) f ([] ++ f ++ 36 ∷ []) p j

-- ---- nodes

get-among : (xs : List Node) (i : ℕ) (d : Node) → (unwrap_or (slice_get xs i) d ≡ d) ⊎ Among (unwrap_or (slice_get xs i) d) xs
get-among [] i d = inl refl
get-among (x ∷ xs) zero d = inr (inl refl)
get-among (x ∷ xs) (suc i) d = by (get-among xs i d)
  where
    by : (unwrap_or (slice_get xs i) d ≡ d) ⊎ Among (unwrap_or (slice_get xs i) d) xs → (unwrap_or (slice_get xs i) d ≡ d) ⊎ Among (unwrap_or (slice_get xs i) d) (x ∷ xs)
    by (inl e) = inl e
    by (inr j) = inr (inr j)

pub node-flat : (c : Config) → IsTold c → (n : ℕ) → IsFlat (node_of (configured_model c) n).tree
node-flat c told n = by (get-among (nodes c) n (record { domain = []; item = []; role = several; tree = model.structure model.none; attrs = []; allowed = false }))
  where
    by : (node_of (configured_model c) n ≡ record { domain = []; item = []; role = several; tree = model.structure model.none; attrs = []; allowed = false }) ⊎ Among (node_of (configured_model c) n) (nodes c) → IsFlat (node_of (configured_model c) n).tree
    by (inl e) = subst (λ (y : Node). IsFlat y.tree) (sym e) (inl (omega arith))
    by (inr j) =
        let g = gathered (λ domain. map (node_at domain) (places_in c domain)) (node_of (configured_model c) n) (domains c) j in
        let s = source (node_at g.0) (node_of (configured_model c) n) (places_in c g.0) g.2 in
        subst (λ (y : Node). IsFlat y.tree) (sym s.2) (domain-place c told g.0 s.0 s.1)

pub text-flat : (text : List ℕ) (c : Config) → SpellsConfig text c → (n : ℕ) → IsFlat (node_of (configured_model c) n).tree
text-flat text c h = subst (λ (d : Config). (n : ℕ) → IsFlat (node_of (configured_model d) n).tree) (sym h.makes) (node-flat (config_of h.told) (is-told h.told text h.are))
