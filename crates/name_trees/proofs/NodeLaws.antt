-- A reference is that of a node of the lines exactly where it is that of a node of the model.
use Rattle.std.proofs.Common.{◌≡◌, ℕ, suc, ◌<◌, ◌≤◌, ◌||◌, ◌⊎◌, inl, inr, Bool, true, false, List, [], ◌∷◌, ◌++◌, map, length, refl, sym, ap, subst, ◌∙◌, append_assoc, append-nil, arith}
use Rattle.std.specs.Prelude.{codes}
use Rattle.std.specs.Str.{bytes_eq}
use Rattle.std.proofs.lemmas.Bool.{or_cases, or_right}
use Rattle.list_laws.proofs.Distinct.{octets_same, octets_equal}
use Rattle.sv_base.specs.declared.config.Config.{Config}
use Rattle.sv_base.specs.declared.config.LnDef.{LnDef}
use Rattle.bay_model.specs.Model.{Node}
use Rattle.bay_model.specs.Generated.{Named}
use Rattle.bay_model.specs.NamedLines.{names_in as named_in, domains}
use Rattle.bay_model.specs.NameTree.{longest}
use Rattle.bay_model.specs.Places.{Place, node_at}
use Rattle.bay_model.specs.Named.{places_in, nodes, configured_model}
use Rattle.text_words.specs.Names.{is_name, is_member}
use Rattle.cfg_lines.specs.Keys.{is_among}
use Rattle.cfg_lines.specs.Paths.{above}
use Rattle.cfg_lines.specs.Nodes.{leaves_by, leaves, leaf_names, closed_by, closed, reaches, is_node}
use Rattle.cfg_lines.specs.Configs.{config_of}
use Rattle.cfg_grammar.specs.Texts.{AreLines}
use Rattle.cfg_lines.specs.declared.leaf.Leaf.{Leaf}
use Rattle.cfg_lines.specs.declared.line.Line.{Line}
use Rattle.cfg_lines.specs.declared.line.Line.TheVariants as lines
use Rattle.list_laws.proofs.Among.{Among, left, right, either, mapped, source, spread, gathered, some-passes, passes}
use Rattle.text_configs.proofs.JoinedLaws.{NoDollar, ArePlain, joined, joined-behind, joined-longer}
use Rattle.text_configs.proofs.PlaceLaws.{exists, dollar-within}
use Rattle.text_configs.proofs.OrderLaws.{within-longest}
use Rattle.text_configs.proofs.ReachLaws.{above-has, above-back}
use Rattle.text_configs.proofs.FindLaws.{domain-there, domain-of}
use Rattle.text_configs.proofs.StandLaws.{IsIn, nodes-read}
use Rattle.text_configs.proofs.PathLaws.{NoSlash, name-plain, name-whole, same-reference, names_in, path-plain, path-joined, IsReference, reference-of}
use Rattle.name_trees.specs.ByModel.{is_at, has_node}
use Rattle.name_trees.proofs.FrontLaws.{IsFront, front-trans, named-at}
use Rattle.name_trees.proofs.ToldLaws.{told-of, told-in, IsHome, home}
use Rattle.name_trees.proofs.ItemLaws.{domain_in, items, leaf_items, closed_items, key, leaf-keys, closed-keys}
use Rattle.name_trees.proofs.NamedLaws.{IsHead, IsLineName, named-told, told-named}
use Rattle.list_laws.proofs.Truths.{both-ways}

-- ---- references that are reached

pub front-of : (k r : List ℕ) → (bytes_eq r k || is_among (above k) r) ≡ true → IsFront r k
front-of k r h = by (or_cases (bytes_eq r k) (is_among (above k) r) h)
  where
    by : (bytes_eq r k ≡ true) ⊎ (is_among (above k) r ≡ true) → IsFront r k
    by (inl e) = inl (sym (octets_same r k e))
    by (inr e) = let b = above-back k r e in inr (b.more, b.is)

or-left : (a b : Bool) → a ≡ true → (a || b) ≡ true
or-left true b h = refl
or-left false b h = absurd cc

pub is-front : (k r : List ℕ) → IsFront r k → (bytes_eq r k || is_among (above k) r) ≡ true
is-front k r (inl e) = or-left (bytes_eq r k) (is_among (above k) r) (octets_equal r k (sym e))
is-front k r (inr h) = or_right (bytes_eq r k) (is_among (above k) r) (ap (λ l. is_among (above l) r) h.1 ∙ above-has r h.0)

pub reached : (names : List (List ℕ)) (r : List ℕ) → reaches names r ≡ true → (k : List ℕ) × Among k names × IsFront r k
reached names r h = let s = some-passes (λ k. bytes_eq r k || is_among (above k) r) names h in (s.0, s.1, front-of s.0 r s.2)

pub reach : (names : List (List ℕ)) (r k : List ℕ) → Among k names → IsFront r k → reaches names r ≡ true
reach names r k i f = passes (λ k. bytes_eq r k || is_among (above k) r) k names i (is-front k r f)

-- ---- the references of the lines' items

pub record IsKey (told : List Line) (side : Line → List (List ℕ)) (k : List ℕ) : Type 0 where
  pub line : Line
  pub there : Among line told
  pub item : List ℕ
  pub among : Among item (side line)
  pub is : k ≡ key (domain_in line) item

module _ (told : List Line) where
  pub leaf-key : (k : List ℕ) → Among k (leaf_names told) → IsKey told leaf_items k
  leaf-key k i =
      let s = source (λ (leaf : Leaf). leaf.name) k (leaves told) i in
      let t = told-of leaves leaves_by refl (λ line before. refl) told s.0 s.1 in
      let m : Among k (map (λ (leaf : Leaf). leaf.name) (leaves_by t.0)) = subst (λ x. Among x (map (λ (leaf : Leaf). leaf.name) (leaves_by t.0))) (sym s.2) (mapped (λ (leaf : Leaf). leaf.name) s.0 (leaves_by t.0) t.2) in
      let u = source (key (domain_in t.0)) k (leaf_items t.0) (subst (Among k) (leaf-keys t.0) m) in
      record { line = t.0; there = t.1; item = u.0; among = u.1; is = u.2 }

  pub closed-key : (k : List ℕ) → Among k (closed told) → IsKey told closed_items k
  closed-key k i =
      let t = told-of closed closed_by refl (λ line before. refl) told k i in
      let u = source (key (domain_in t.0)) k (closed_items t.0) (subst (Among k) (closed-keys t.0) t.2) in
      record { line = t.0; there = t.1; item = u.0; among = u.1; is = u.2 }

  pub key-leaf : (line : Line) (item : List ℕ) → Among line told → Among item (leaf_items line) → Among (key (domain_in line) item) (leaf_names told)
  key-leaf line item i j =
      let m : Among (key (domain_in line) item) (map (λ (leaf : Leaf). leaf.name) (leaves_by line)) = subst (Among (key (domain_in line) item)) (sym (leaf-keys line)) (mapped (key (domain_in line)) item (leaf_items line) j) in
      let s = source (λ (leaf : Leaf). leaf.name) (key (domain_in line) item) (leaves_by line) m in
      subst (λ x. Among x (leaf_names told)) (sym s.2) (mapped (λ (leaf : Leaf). leaf.name) s.0 (leaves told) (told-in leaves leaves_by refl (λ line before. refl) told line s.0 i s.1))

  pub key-closed : (line : Line) (item : List ℕ) → Among line told → Among item (closed_items line) → Among (key (domain_in line) item) (closed told)
  key-closed line item i j = told-in closed closed_by refl (λ line before. refl) told line (key (domain_in line) item) i
      (subst (Among (key (domain_in line) item)) (sym (closed-keys line)) (mapped (key (domain_in line)) item (closed_items line) j))

-- ---- nodes

module _ (text : List ℕ) (told : List Line) (are : AreLines text told) where
  abbrev c : Config
  c = config_of told

  -- the domain of a line's items
  pub record IsDomain (domain : List ℕ) : Type 0 where
    pub name : is_name domain ≡ true
    pub there : Among domain (domains c)

  in-domain : (domain ln : List ℕ) → IsIn c.nodes domain ln → IsDomain domain
  in-domain domain ln h = record { name = h.domain_name; there = subst (λ d. Among d (domains c)) h.domain_is (domain-there h.node [] c.nodes h.there) }

  pub line-domain : (line : Line) (item : List ℕ) → Among line told → Among item (items line) → IsDomain (domain_in line)
  line-domain line item i j = by line (home told text line are i) j
    where
      by : (line : Line) → IsHome c.nodes line → Among item (items line) → IsDomain (domain_in line)
      by (lines.Attr a) h j = in-domain a.domain a.ln h
      by (lines.Brcb b) h j = in-domain b.domain b.ln h
      by (lines.Ctl k) h j = in-domain k.domain k.ln h
      by (lines.Sgcb g) h j = in-domain g.domain (codes "LLN0") h
      by line h j = absurd j

  domain-whole : (domain : List ℕ) → Among domain (domains c) → NoSlash domain
  domain-whole domain i = by (domain-of domain [] c.nodes i)
    where
      by : ⊥ ⊎ ((n : LnDef) × Among n c.nodes × (domain ≡ n.domain)) → NoSlash domain
      by (inl j) = absurd j
      by (inr h) = name-whole domain (ap is_name h.2 ∙ (nodes-read told text are h.0 h.1).1)

  -- a place of an item that is a front of what is named
  pub place-there : (domain item : List ℕ) (n : Named) → ArePlain (names_in item) → 0 < length (names_in item) → Among n (named_in c domain) → IsFront item n.item → (p : Place) × Among p (places_in c domain) × (p.item ≡ item)
  place-there domain item n plain some i f = by (goes f)
    where
      names : List (List ℕ)
      names = names_in item

      goes : IsFront item n.item → (more : List (List ℕ)) × (n.item ≡ joined (names ++ more))
      goes (inl e) = ([], e ∙ (sym (path-joined item) ∙ ap joined (sym (append-nil names))))
      goes (inr h) = (h.0 ∷ [], h.1 ∙ (ap (λ l. l ++ 36 ∷ h.0) (sym (path-joined item)) ∙ sym (joined-behind names h.0 [] some)))

      by : (more : List (List ℕ)) × (n.item ≡ joined (names ++ more)) → (p : Place) × Among p (places_in c domain) × (p.item ≡ item)
      by m = let p = exists (suc (longest (named_in c domain))) (named_in c domain) [] names m.0 n plain some (omega (arith, joined-longer names m.0 plain, ap length m.1, within-longest (named_in c domain) n i)) i m.1 in
          (p.0, p.1, p.2 ∙ path-joined item)

  module _ (r : List ℕ) (s : IsReference r) where
    -- a front of a line's reference, in its domain
    pub in-line : (d item : List ℕ) → IsDomain d → IsFront r (key d item) → (d ≡ s.domain) × IsFront s.item item
    in-line d item h (inl e) = let both = same-reference d s.domain item s.item (name-whole d h.name) (name-whole s.domain s.domain_name) (e ∙ s.is) in (both.0, inl both.1)
    in-line d item h (inr g) =
        let both = same-reference d s.domain item (s.item ++ 36 ∷ g.0) (name-whole d h.name) (name-whole s.domain s.domain_name) (g.1 ∙ (ap (λ l. l ++ 36 ∷ g.0) s.is ∙ append_assoc s.domain (47 ∷ s.item) (36 ∷ g.0))) in
        (both.0, inr (g.0, both.1))

    node-from : (line : Line) (item : List ℕ) → Among line told → Among item (items line) → IsFront r (key (domain_in line) item) → has_node (configured_model c) r ≡ true
    node-from line item i j f =
        let d = line-domain line item i j in
        let g = in-line (domain_in line) item d f in
        let b = told-named told line item i j in
        let p = place-there (domain_in line) s.item b.name (path-plain s.item s.path) (omega (arith, s.many)) b.there (front-trans s.item item b.name.item g.1 b.front) in
        passes (is_at r) (node_at (domain_in line) p.0) (nodes c)
        (spread (λ d. map (node_at d) (places_in c d)) (domain_in line) (node_at (domain_in line) p.0) (domains c) d.there (mapped (node_at (domain_in line)) p.0 (places_in c (domain_in line)) p.1))
        (octets_equal r (key (domain_in line) p.0.item) (s.is ∙ (ap (λ x. x ++ 47 ∷ s.item) (sym g.0) ∙ ap (key (domain_in line)) (sym p.2))))

    there : is_node told r ≡ true → has_node (configured_model c) r ≡ true
    there h = by (or_cases (reaches (leaf_names told) r) (reaches (closed told) r) h)
      where
        by : (reaches (leaf_names told) r ≡ true) ⊎ (reaches (closed told) r ≡ true) → has_node (configured_model c) r ≡ true
        by (inl e) = let k = reached (leaf_names told) r e in let m = leaf-key told k.0 k.1 in node-from m.line m.item m.there (left m.item (leaf_items m.line) (closed_items m.line) m.among) (subst (IsFront r) m.is k.2)
        by (inr e) = let k = reached (closed told) r e in let m = closed-key told k.0 k.1 in node-from m.line m.item m.there (right m.item (leaf_items m.line) (closed_items m.line) m.among) (subst (IsFront r) m.is k.2)

    -- an item of three names has a `$`
    has-dollar : NoDollar s.item → ⊥
    has-dollar h = by (names_in s.item) (omega (arith, s.many)) (path-joined s.item)
      where
        by : (names : List (List ℕ)) → 2 ≤ length names → joined names ≡ s.item → ⊥
        by [] le e = absurd (omega (arith, le))
        by (a ∷ []) le e = absurd (omega (arith, le))
        by (a ∷ b ∷ more) le e = dollar-within a (joined (b ∷ more)) (subst NoDollar (sym e) h)

    not-head : (ln item : List ℕ) → is_name ln ≡ true → item ≡ ln → IsFront s.item item → ⊥
    not-head ln item name e (inl f) = has-dollar (subst NoDollar (sym e ∙ f) (name-plain ln name).1)
    not-head ln item name e (inr f) = dollar-within s.item f.0 (subst NoDollar (sym e ∙ f.1) (name-plain ln name).1)

    -- a node's place in the domain of the reference, and the line of what is named there
    pub record IsFrom (n : Node) : Type 0 where
      pub place : Place
      pub among : Among place (places_in c s.domain)
      pub is : n ≡ node_at s.domain place
      pub item : place.item ≡ s.item

    pub place-of : (n : Node) → Among n (nodes c) → is_at r n ≡ true → IsFrom n
    place-of n i h =
        let g = gathered (λ d. map (node_at d) (places_in c d)) n (domains c) i in
        let p = source (node_at g.0) n (places_in c g.0) g.2 in
        let whole : r ≡ key g.0 p.0.item = octets_same r (key n.domain n.item) h ∙ ap (λ (m : Node). key m.domain m.item) p.2 in
        let both = same-reference s.domain g.0 s.item p.0.item (name-whole s.domain s.domain_name) (domain-whole g.0 g.1) (sym s.is ∙ whole) in
        record { place = p.0; among = subst (λ d. Among p.0 (places_in c d)) (sym both.0) p.1; is = p.2 ∙ ap (λ d. node_at d p.0) (sym both.0); item = sym both.1 }

    pub line-of : (n : Named) → Among n (named_in c s.domain) → IsFront s.item n.item → IsLineName told s.domain n
    line-of n i f = by (named-told told s.domain n i)
      where
        by : IsHead told s.domain n ⊎ IsLineName told s.domain n → IsLineName told s.domain n
        by (inl h) = absurd (not-head h.node.ln n.item (nodes-read told text are h.node h.there).0 h.is f)
        by (inr h) = h

    pub reference-front : (d item : List ℕ) → d ≡ s.domain → IsFront s.item item → IsFront r (key d item)
    reference-front d item e (inl f) = inl (ap (λ x. x ++ 47 ∷ item) e ∙ (ap (key s.domain) f ∙ sym s.is))
    reference-front d item e (inr f) = inr (f.0, ap (λ x. x ++ 47 ∷ item) e ∙ (ap (key s.domain) f.1 ∙ (sym (append_assoc s.domain (47 ∷ s.item) (36 ∷ f.0)) ∙ ap (λ l. l ++ 36 ∷ f.0) (sym s.is))))

    node-told : (n : Named) → IsLineName told s.domain n → IsFront s.item n.item → is_node told r ≡ true
    node-told n l f = by (either n.item (leaf_items l.line) (closed_items l.line) l.item)
      where
        k : List ℕ
        k = key (domain_in l.line) n.item

        front : IsFront r k
        front = reference-front (domain_in l.line) n.item l.domain_is f

        by : Among n.item (leaf_items l.line) ⊎ Among n.item (closed_items l.line) → is_node told r ≡ true
        by (inl j) = or-left (reaches (leaf_names told) r) (reaches (closed told) r) (reach (leaf_names told) r k (key-leaf told l.line n.item l.there j) front)
        by (inr j) = or_right (reaches (leaf_names told) r) (reaches (closed told) r) (reach (closed told) r k (key-closed told l.line n.item l.there j) front)

    back : has_node (configured_model c) r ≡ true → is_node told r ≡ true
    back h =
        let n = some-passes (is_at r) (nodes c) h in
        let p = place-of n.0 n.1 n.2 in
        let m = named-at (suc (longest (named_in c s.domain))) [] (named_in c s.domain) p.place p.among in
        let f : IsFront s.item m.name.item = subst (λ x. IsFront x m.name.item) (sym m.is ∙ p.item) m.front in
        node-told m.name (line-of m.name m.there f) f

    pub agrees : is_node told r ≡ has_node (configured_model c) r
    agrees = both-ways (is_node told r) (has_node (configured_model c) r) there back

pub nodes-agree : (text : List ℕ) (told : List Line) (r : List ℕ) → AreLines text told → is_member r ≡ true → is_node told r ≡ has_node (configured_model (config_of told)) r
nodes-agree text told r are h = agrees text told are r (reference-of r h)
