-- A reference that reaches an attribute, and for which at most 500 octets are counted, is that of a node fit to be a member.
use Rattle.std.proofs.Common.{◌≡◌, ℕ, suc, ◌<◌, ◌≤◌, ◌⊎◌, inl, inr, Bool, true, false, ◌||◌, List, [], ◌∷◌, ◌++◌, length, map, unwrap_or, refl, sym, ap, subst, ◌∙◌, arith, append_assoc, append-nil}
use Rattle.std.specs.List.{list_any}
use Rattle.std.specs.Str.{bytes_eq}
use Rattle.std.proofs.lemmas.Bool.{or_cases}
use Rattle.list_laws.proofs.Distinct.{octets_same, octets_equal}
use Rattle.sv_base.specs.declared.config.Config.{Config}
use Rattle.sv_base.specs.declared.config.AttrDef.{AttrDef}
use Rattle.bay_model.specs.Model.{Node, attribute, structure, none, several}
use Rattle.bay_model.specs.Lookups.{node_of, reference_of}
use Rattle.bay_model.specs.Reports.{reference_at}
use Rattle.bay_model.specs.Attributes.{attributes}
use Rattle.bay_model.specs.Generated.{Named, end_named}
use Rattle.bay_model.specs.NamedLines.{path_item}
use Rattle.bay_model.specs.NamedLines as named
use Rattle.bay_model.specs.NameTree.{longest, grown, below}
use Rattle.bay_model.specs.Places.{Place, places, node_at, constraint, member_constraints}
use Rattle.bay_model.specs.Named.{places_in, nodes, member_number, configured_model}
use Rattle.cfg_lines.specs.Keys.{is_among}
use Rattle.cfg_lines.specs.Paths.{above}
use Rattle.cfg_lines.specs.Sizes.{children}
use Rattle.cfg_lines.specs.declared.leaf.Leaf.{Leaf}
use Rattle.text_words.specs.Names.{is_fc}
use Rattle.text_words.specs.Names.{is_name}
use Rattle.cfg_lines.specs.Nodes.{reaches}
use Rattle.bay_config.specs.Servable.{IsMember, attr_type}
use Rattle.list_laws.proofs.Among.{Among, At, of-each, at-get, at-among, among-at, spread, mapped, source, some-passes, heads, tails}
use Rattle.text_configs.proofs.JoinedLaws.{ArePlain, NoDollar, joined, first, rest, first-joined, rest-joined, joined-longer, same-joined}
use Rattle.text_configs.proofs.NamedLaws.{first-of, placed}
use Rattle.text_configs.proofs.EntryLaws.{named_of}
use Rattle.text_configs.proofs.FormLaws.{IsFormed, places-formed}
use Rattle.text_configs.proofs.TreeLaws.{grown-tree}
use Rattle.text_configs.proofs.SizeLaws.{places-small}
use Rattle.text_configs.proofs.PlaceLaws.{exists, first-without}
use Rattle.text_configs.proofs.DataLaws.{held-place}
use Rattle.text_configs.proofs.DepthLaws.{same-name, under}
use Rattle.text_configs.proofs.OrderLaws.{attribute-named, within-longest}
use Rattle.text_configs.proofs.ReachLaws.{above-back}
use Rattle.text_configs.proofs.FindLaws.{IsFound, found, domain-there, domain-of}
use Rattle.text_configs.proofs.AttrLaws.{key_of}
use Rattle.text_configs.proofs.ParameterLaws.{all_attrs}
use Rattle.text_configs.proofs.ToldLaws.{IsTold}
use Rattle.text_configs.proofs.PathLaws.{name-plain, NoSlash, name-whole, same-reference, fc-plain, fc-member, names_in, path-plain, path-joined, item_names, item-joined, key-joined, joined-domain, GoOn, prefix-joined, IsReference}
use Rattle.text_configs.proofs.CountLaws.{Known, leaf_keys, counted, is-count}
use Rattle.text_configs.proofs.BelowLaws.{all-entries, beside-block, entries-below, front}
use Rattle.text_configs.proofs.MemberLaws.{node-at-place, IsFit, member-of}

module _ (c : Config) (told : IsTold c) where
  -- an attribute of a domain, whose item goes on from these names
  pub record IsReached (domain : List ℕ) (names : List (List ℕ)) : Type 0 where
    pub attr : AttrDef
    pub number : ℕ
    pub at : At number attr (all_attrs c)
    pub domain_is : attr.domain ≡ domain
    pub go : GoOn (item_names attr) names

  item-plain : (a : AttrDef) → Among a (all_attrs c) → ArePlain (item_names a)
  item-plain a i = let r = told.attrs a i in (name-plain a.ln r.node.ln_name, (fc-plain a.fc r.constraint, path-plain a.path r.path.0))

  key-is : (a : AttrDef) → key_of a ≡ a.domain ++ 47 ∷ joined (item_names a)
  key-is a = key-joined a ∙ joined-domain a.domain a.ln (a.fc ∷ names_in a.path)

  reached : (r : List ℕ) (s : IsReference r) → reaches (leaf_keys c told) r ≡ true → IsReached s.domain (names_in s.item)
  reached r s h =
      let k = some-passes (λ name. bytes_eq r name || is_among (above name) r) (leaf_keys c told) h in
      let l = source (λ (l : Leaf). l.name) k.0 told.leaves k.1 in
      let a = told.leaf_back l.0 l.1 in
      let at = among-at a.attr (all_attrs c) a.there in
      by a.attr at.0 at.1 (or_cases _ _ (subst (λ name. (bytes_eq r name || is_among (above name) r) ≡ true) (l.2 ∙ ap (λ (l : Leaf). l.name) a.is) k.2))
    where
      some : (a : AttrDef) (x : ℕ) → At x a (all_attrs c) → (behind : List ℕ) → key_of a ≡ r ++ 36 ∷ behind → IsReached s.domain (names_in s.item)
      some a x at behind e =
          let i = at-among x a (all_attrs c) at in
          let both = same-reference a.domain s.domain (joined (item_names a)) (s.item ++ 36 ∷ behind) (name-whole a.domain (told.attrs a i).node.domain_name) (name-whole s.domain s.domain_name)
          (sym (key-is a) ∙ (e ∙ (ap (λ l. l ++ 36 ∷ behind) s.is ∙ append_assoc s.domain (47 ∷ s.item) (36 ∷ behind)))) in
          record {
            attr = a;
            number = x;
            at = at;
            domain_is = both.0;
            go = prefix-joined (item_names a) (names_in s.item) behind (item-plain a i) (path-plain s.item s.path) (omega (arith, s.many)) (both.1 ∙ ap (λ l. l ++ 36 ∷ behind) (sym (path-joined s.item)));
          }

      all : (a : AttrDef) (x : ℕ) → At x a (all_attrs c) → key_of a ≡ r → IsReached s.domain (names_in s.item)
      all a x at e =
          let i = at-among x a (all_attrs c) at in
          let both = same-reference a.domain s.domain (joined (item_names a)) s.item (name-whole a.domain (told.attrs a i).node.domain_name) (name-whole s.domain s.domain_name) (sym (key-is a) ∙ (e ∙ s.is)) in
          record {
            attr = a;
            number = x;
            at = at;
            domain_is = both.0;
            go = record { more = []; is = same-joined (item_names a) (names_in s.item) (item-plain a i) (path-plain s.item s.path) (both.1 ∙ sym (path-joined s.item)) ∙ sym (append-nil (names_in s.item)) };
          }

      by : (a : AttrDef) (x : ℕ) → At x a (all_attrs c) → (bytes_eq r (key_of a) ≡ true) ⊎ (is_among (above (key_of a)) r ≡ true) → IsReached s.domain (names_in s.item)
      by a x at (inl e) = all a x at (sym (octets_same r (key_of a) e))
      by a x at (inr e) = let b = above-back (key_of a) r e in some a x at b.more b.is

  -- the names before others of an attribute have a place in its domain
  there : (domain : List ℕ) (names : List (List ℕ)) → ArePlain names → 0 < length names → IsReached domain names → (p : Place) × Among p (places_in c domain) × (p.item ≡ joined names)
  there domain names plain some h =
      let n : Named = end_named (path_item h.attr.ln h.attr.fc h.attr.path) (attribute h.number) h.attr.kind in
      let i : Among n (named.names_in c domain) = subst (λ d. Among n (named.names_in c d)) h.domain_is (attribute-named c h.number h.attr h.at) in
      let item : n.item ≡ joined (names ++ h.go.more) = item-joined h.attr ∙ ap joined h.go.is in
      exists (suc (longest (named.names_in c domain))) (named.names_in c domain) [] names h.go.more n plain some (omega (arith, joined-longer names h.go.more plain, ap length item, within-longest (named.names_in c domain) n i)) i item

  domain-is-there : (domain : List ℕ) (names : List (List ℕ)) → IsReached domain names → Among domain (named.domains c)
  domain-is-there domain names h = let r = (told.attrs h.attr (at-among h.number h.attr (all_attrs c) h.at)).node in
      subst (λ d. Among d (named.domains c)) (r.domain_is ∙ h.domain_is) (domain-there r.node [] c.nodes r.there)

  domain-whole : (domain : List ℕ) → Among domain (named.domains c) → NoSlash domain
  domain-whole domain i = by (domain-of domain [] c.nodes i)
    where
      by : ⊥ ⊎ ((n : _) × Among n c.nodes × (domain ≡ n.domain)) → NoSlash domain
      by (inl j) = absurd j
      by (inr h) = name-whole domain (ap is_name h.2 ∙ (told.nodes h.0 h.1).1)

  -- a place at the names of a functional constraint and below
  fit : (domain : List ℕ) (p : Place) (ln fc b : List ℕ) (more : List (List ℕ)) → is_fc fc ≡ true → ArePlain (ln ∷ fc ∷ b ∷ more) → Among p (places_in c domain) → p.item ≡ joined (ln ∷ fc ∷ b ∷ more)
      → (a : AttrDef) → Among a (all_attrs c) → a.domain ≡ domain → (behind : List (List ℕ)) → item_names a ≡ (ln ∷ fc ∷ b ∷ more) ++ behind → counted c told 10 (domain ++ 47 ∷ p.item) ≤ 500 → IsFit c p
  fit domain p ln fc b more known plain i item a here of_domain behind goes few =
      let ns : List Named = named.names_in c domain in
      let one = under [] (longest ns) ns p ln fc (b ∷ more) plain.0.1 item (within-longest ns) i in
      let item_one : p.item ≡ (ln ++ 36 ∷ []) ++ joined (fc ∷ b ∷ more) = item ∙ sym (append_assoc ln (36 ∷ []) (joined (fc ∷ b ∷ more))) in
      let two = under (ln ++ 36 ∷ []) one.depth (below ln ns) p fc b more plain.1.0.1 item_one one.within one.there in
      let item_two : p.item ≡ before ++ joined (b ∷ more) = item_one ∙ sym (append_assoc ((ln ++ 36 ∷ []) ++ fc) (36 ∷ []) (joined (b ∷ more)) ∙ append_assoc (ln ++ 36 ∷ []) fc (36 ∷ joined (b ∷ more))) in
      let s = placed before two.depth (below fc (below ln ns)) p two.there in
      let o = first-of (below fc (below ln ns)) s.0 s.1.name in
      let name : s.0 ≡ b = same-name before two.depth (below fc (below ln ns)) p s.0 b more (subst NoDollar (sym o.1.is) (first-without o.0.item)) plain.1.1.0.1 item_two s.1.at in
      let path : names_in a.path ≡ b ∷ (more ++ behind) = tails a.fc fc (names_in a.path) (b ∷ (more ++ behind)) (tails a.ln ln (a.fc ∷ names_in a.path) (fc ∷ b ∷ (more ++ behind)) goes) in
      let begins : first a.path ≡ s.0 = ap first (sym (path-joined a.path) ∙ ap joined path) ∙ (first-joined b (more ++ behind) plain.1.1.0.1 ∙ sym name) in
      let held = held-place two.depth (below fc (below ln ns)) before p s.0 s.1 (λ n j is. beside-block c told domain ln fc known a here of_domain
      (heads a.ln ln (a.fc ∷ names_in a.path) (fc ∷ b ∷ (more ++ behind)) goes)
      (heads a.fc fc (names_in a.path) (b ∷ (more ++ behind)) (tails a.ln ln (a.fc ∷ names_in a.path) (fc ∷ b ∷ (more ++ behind)) goes)) n j (begins ∙ is)) in
      let all = all-entries c told domain ln fc known in
      let among : Among p (places before (grown (suc two.depth) (map (named_of (attr_type c)) all.entries))) = subst (λ ms. Among p (places before (grown (suc two.depth) ms))) all.named held in
      let under = entries-below c told domain ln fc known 10 (omega arith) all.entries all.each in
      record {
        formed = of-each (IsFormed (attr_type c) (length (attributes c))) (places before (grown (suc two.depth) (map (named_of (attr_type c)) all.entries))) p
            (places-formed (attr_type c) (length (attributes c)) before (grown (suc two.depth) (map (named_of (attr_type c)) all.entries)) (grown-tree (attr_type c) (length (attributes c)) (suc two.depth) all.entries under.entries)) among;
        constrained = ap (λ f. list_any (bytes_eq f) member_constraints) constraint_is ∙ fc-member fc known;
        small = omega (
          arith,
          few,
          places-small (attr_type c) (length (attributes c)) (Known c told) (counted c told) (children (leaf_keys c told)) (is-count c told)
              (suc two.depth) 10 all.entries (front c told domain ln fc known) domain before under link p among few,
        );
      }
    where
      before : List ℕ
      before = (ln ++ 36 ∷ []) ++ fc ++ 36 ∷ []

      constraint_is : constraint p.item ≡ fc
      constraint_is = ap first (ap rest item ∙ rest-joined ln (fc ∷ b ∷ more) plain.0.1) ∙ first-joined fc (b ∷ more) plain.1.0.1

      link : (f : List ℕ) → domain ++ 47 ∷ (((ln ++ 36 ∷ []) ++ fc ++ 36 ∷ []) ++ f) ≡ (domain ++ 47 ∷ ln) ++ 36 ∷ (fc ++ 36 ∷ f)
      link f = ap (λ l. domain ++ 47 ∷ l) (append_assoc ((ln ++ 36 ∷ []) ++ fc) (36 ∷ []) f ∙ (append_assoc (ln ++ 36 ∷ []) fc (36 ∷ f) ∙ append_assoc ln (36 ∷ []) (fc ++ 36 ∷ f))) ∙ sym (append_assoc domain (47 ∷ ln) (36 ∷ (fc ++ 36 ∷ f)))

  third : (names : List (List ℕ)) → 3 ≤ length names → (ln fc b : List ℕ) × (more : List (List ℕ)) × (names ≡ ln ∷ fc ∷ b ∷ more)
  third [] h = absurd (omega (arith, h))
  third (a ∷ []) h = absurd (omega (arith, h))
  third (a ∷ b ∷ []) h = absurd (omega (arith, h))
  third (a ∷ b ∷ d ∷ more) h = (a, b, d, more, refl)

  same-constraint : (a : AttrDef) (ln fc b : List ℕ) (more behind : List (List ℕ)) → item_names a ≡ (ln ∷ fc ∷ b ∷ more) ++ behind → a.fc ≡ fc
  same-constraint a ln fc b more behind e = heads a.fc fc _ _ (tails a.ln ln (a.fc ∷ names_in a.path) ((fc ∷ b ∷ more) ++ behind) e)

  abbrev has : List ℕ → Node → Bool
  has r n = bytes_eq r (reference_of n.domain n.item)

  -- a node has the reference
  first-node : (r : List ℕ) (s : IsReference r) → IsReached s.domain (names_in s.item) → IsFound (has r) (nodes c)
  first-node r s h =
      let p = there s.domain (names_in s.item) (path-plain s.item s.path) (omega (arith, s.many)) h in
      let same : r ≡ s.domain ++ 47 ∷ p.0.item = s.is ∙ ap (λ l. s.domain ++ 47 ∷ l) (sym (path-joined s.item) ∙ sym p.2) in
      found (has r) (node_at s.domain p.0) (nodes c)
      (spread (λ d. map (node_at d) (places_in c d)) s.domain (node_at s.domain p.0) (named.domains c) (domain-is-there s.domain (names_in s.item) h) (mapped (node_at s.domain) p.0 (places_in c s.domain) p.1))
      (octets_equal r (s.domain ++ 47 ∷ p.0.item) same)

  -- each place with the reference is fit
  fit-at : (r : List ℕ) (s : IsReference r) → IsReached s.domain (names_in s.item) → counted c told 10 r ≤ 500 → (d : List ℕ) (p : Place) → Among d (named.domains c) → Among p (places_in c d) → r ≡ d ++ 47 ∷ p.item → IsFit c p
  fit-at r s h few d p i j is =
      let both = same-reference s.domain d s.item p.item (name-whole s.domain s.domain_name) (domain-whole d i) (sym s.is ∙ is) in
      let t = third (names_in s.item) s.many in
      by both.0 t.0 t.1 t.2 t.3 t.4 (sym both.1 ∙ sym (path-joined s.item))
    where
      by : s.domain ≡ d → (ln fc b : List ℕ) (more : List (List ℕ)) → names_in s.item ≡ ln ∷ fc ∷ b ∷ more → p.item ≡ joined (names_in s.item) → IsFit c p
      by same ln fc b more e item =
          let known : is_fc fc ≡ true = ap is_fc (sym (same-constraint h.attr ln fc b more h.go.more (h.go.is ∙ ap (λ l. l ++ h.go.more) e))) ∙ (told.attrs h.attr (at-among h.number h.attr (all_attrs c) h.at)).constraint in
          fit d p ln fc b more known (subst ArePlain e (path-plain s.item s.path)) j (item ∙ ap joined e) h.attr (at-among h.number h.attr (all_attrs c) h.at) (h.domain_is ∙ same) h.go.more (h.go.is ∙ ap (λ l. l ++ h.go.more) e) (omega (arith, few, ap (λ (x : List ℕ). counted c told 10 x) is))

  -- the node that such a reference has, has it
  pub member-reference : (r : List ℕ) → IsReference r → reaches (leaf_keys c told) r ≡ true → reference_at (configured_model c) (member_number (nodes c) r) ≡ r
  member-reference r s reach =
      let f = first-node r s (reached r s reach) in
      let number : member_number (nodes c) r ≡ f.number = ap (λ o. unwrap_or o 0) f.is in
      let node : node_of (configured_model c) f.number ≡ f.element = ap (λ o. unwrap_or o (record { domain = []; item = []; role = several; tree = structure none; attrs = []; allowed = false })) (at-get f.number f.element (nodes c) f.at) in
      ap (reference_at (configured_model c)) number ∙ (ap (λ (n : Node). reference_of n.domain n.item) node ∙ sym (octets_same r (reference_of f.element.domain f.element.item) f.passes))

  pub member : (r : List ℕ) → IsReference r → reaches (leaf_keys c told) r ≡ true → counted c told 10 r ≤ 500 → IsMember c (member_number (nodes c) r)
  member r s reach few =
      let h = reached r s reach in
      let f = first-node r s h in
      let at = node-at-place (places_in c) (named.domains c) f.number f.element f.at in
      let whole : r ≡ at.domain ++ 47 ∷ at.place.item = octets_same r (reference_of f.element.domain f.element.item) f.passes ∙ ap (λ (n : Node). reference_of n.domain n.item) at.is in
      let number : f.number ≡ member_number (nodes c) r = sym (ap (λ o. unwrap_or o 0) f.is) in
      subst (IsMember c) number (member-of c f.number at.domain at.place f.element f.at at.is at.kind (fit-at r s h few at.domain at.place at.domain_there at.place_there whole))
