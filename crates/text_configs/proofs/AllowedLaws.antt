-- Each node of a text's configuration that may be a member of a data set can be one, and has a short reference.
use Rattle.std.proofs.Common.{◌≡◌, ℕ, zero, suc, ◌≤◌, ◌==◌, ◌&&◌, ◌⊎◌, inl, inr, true, false, List, [], ◌∷◌, ◌++◌, length, map, unwrap_or, nat_le, slice_get, refl, sym, ap, ap₂, subst, ◌∙◌, arith, append_assoc, append-nil, true≢false, length-append}
use Rattle.std.specs.List.{list_all, list_any}
use Rattle.std.specs.Prelude.{codes}
use Rattle.std.specs.Str.{bytes_eq}
use Rattle.std.proofs.lemmas.Bool.{and_parts}
use Rattle.std.proofs.lemmas.Bool.Decides.{nat_tests}
use Rattle.std.proofs.lemmas.List.{append_cancel_left}
use Rattle.list_laws.proofs.Distinct.{octets_same}
use Rattle.sv_base.specs.declared.config.Config.{Config}
use Rattle.sv_base.specs.declared.types.TypeOf.{TypeOf}
use Rattle.sv_base.specs.declared.components.Comp.{Comp}
use Rattle.sv_base.specs.declared.components.Comp.TheVariants as comps
use Rattle.sv_base.specs.declared.components.SettingComp.{SettingComp}
use Rattle.sv_base.specs.declared.components.SettingComp.TheVariants as settings
use Rattle.bay_model.specs.Model.{Node, structure, none, several}
use Rattle.bay_model.specs.Attributes.{attributes}
use Rattle.sv_base.specs.ComponentTable.{comp_name, setting_comp_name}
use Rattle.bay_model.specs.Generated.{Named}
use Rattle.bay_model.specs.Lookups.{node_of}
use Rattle.bay_model.specs.NamedLines as named
use Rattle.bay_model.specs.NameTree.{below, first_name, grown, is_itself, longest, own_type, rest_of, role_of}
use Rattle.bay_model.specs.Named.{configured_model, nodes, places_in}
use Rattle.bay_model.specs.Places.{Place, are_data, constraint, is_data_role, largest, may_be_member, member_constraints, node_at, place, places}
use Rattle.text_words.specs.Names.{is_fc, is_letter, is_name, is_name_octet}
use Rattle.bay_config.specs.Servable.{IsShortMember, attr_type}
use Rattle.list_laws.proofs.Among.{Among, At, at-among, of-each, some-passes}
use Rattle.text_configs.proofs.JoinedLaws.{NoDollar, first, rest, rest-alone, split-at}
use Rattle.text_configs.proofs.NamedLaws.{IsFirst, IsPlaced, first-of, below-of, placed, place_at, deeper}
use Rattle.text_configs.proofs.EntryLaws.{named_of}
use Rattle.text_configs.proofs.FormLaws.{IsFormed, IsTree, are-formed, formed, places-formed}
use Rattle.text_configs.proofs.TreeLaws.{grown-tree, part-of}
use Rattle.text_configs.proofs.PlaceLaws.{first-without, dollar-within, item-behind}
use Rattle.text_configs.proofs.DataLaws.{data-place, all-held}
use Rattle.text_configs.proofs.DepthLaws.{IsUnder, under}
use Rattle.text_configs.proofs.OrderLaws.{IsOne, named-in, within-longest}
use Rattle.text_configs.proofs.ParameterLaws.{all_attrs, own-attr}
use Rattle.text_configs.proofs.ToldLaws.{IsTold}
use Rattle.text_configs.proofs.BelowLaws.{all-entries, apart-here, entries-below, longer-here}
use Rattle.text_configs.proofs.FindLaws.{domain-of}
use Rattle.text_configs.proofs.MemberLaws.{member-of, node-at-place}

-- ---- items

-- the item of a place is where that of a name begins
begins : (l : ℕ) (ns : List Named) (before : List ℕ) (p : Place) → Among p (places before (grown l ns)) → (n : Named) × Among n ns × (is_itself n ≡ false) × (g : List ℕ) × (before ++ n.item ≡ p.item ++ g)
begins zero ns before p i = absurd i
begins (suc l) ns before p i =
    let s = placed before l ns p i in
    by s.0 (first-of ns s.0 s.1.name) s.1.at (λ j. begins l (below s.0 ns) (before ++ s.0 ++ 36 ∷ []) p j)
  where
    whole : (n : Named) (f : List ℕ) → f ≡ first_name n → (before ++ f) ≡ p.item → (n.item ≡ first n.item ++ 36 ∷ rest n.item) ⊎ (n.item ≡ first n.item) → (g : List ℕ) × (before ++ n.item ≡ p.item ++ g)
    whole n f is item (inl s) = (36 ∷ rest n.item, ap (λ l. before ++ l) (s ∙ ap (λ l. l ++ 36 ∷ rest n.item) (sym is)) ∙ (sym (append_assoc before f (36 ∷ rest n.item)) ∙ ap (λ l. l ++ 36 ∷ rest n.item) item))
    whole n f is item (inr s) = ([], ap (λ l. before ++ l) (s ∙ sym is) ∙ (item ∙ sym (append-nil p.item)))

    longer : (n m : Named) (f : List ℕ) → f ≡ first_name n → m ≡ rest_of n → is_itself m ≡ false → (n.item ≡ first n.item ++ 36 ∷ rest n.item) ⊎ (n.item ≡ first n.item) → n.item ≡ f ++ 36 ∷ m.item
    longer n m f is left more (inl s) = s ∙ ap₂ (λ x y. x ++ 36 ∷ y) (sym is) (sym (ap (λ (q : Named). q.item) left))
    longer n m f is left more (inr s) =
        let empty : m.item ≡ [] = ap (λ (q : Named). q.item) left ∙ (ap rest s ∙ rest-alone (first n.item) (first-without n.item)) in
        absurd (true≢false (sym (ap (λ t. length t == 0) empty) ∙ more))

    by : (f : List ℕ) → (n : Named) × IsFirst ns f n → (p ≡ place_at before l ns f) ⊎ Among p (deeper before l ns f)
        → (Among p (deeper before l ns f) → (m : Named) × Among m (below f ns) × (is_itself m ≡ false) × (g : List ℕ) × ((before ++ f ++ 36 ∷ []) ++ m.item ≡ p.item ++ g))
        → (n : Named) × Among n ns × (is_itself n ≡ false) × (g : List ℕ) × (before ++ n.item ≡ p.item ++ g)
    by f n (inl e) go = let w = whole n.0 f n.1.is (sym (ap (λ (q : Place). q.item) e)) (split-at n.0.item) in (n.0, n.1.there, n.1.longer, w.0, w.1)
    by f n (inr j) go =
        let m = go j in
        let up = below-of ns f m.0 m.1 in
        let item = longer up.0 m.0 f up.1.is up.1.left m.2 (split-at up.0.item) in
        (up.0, up.1.there, up.1.longer, m.3, ap (λ l. before ++ l) item ∙ (ends before f m.0.item ∙ m.4))
      where
        ends : (b f i : List ℕ) → b ++ (f ++ 36 ∷ i) ≡ (b ++ f ++ 36 ∷ []) ++ i
        ends b f i = sym (append_assoc b f (36 ∷ i)) ∙ sym (append_assoc (b ++ f) (36 ∷ []) i)

-- ---- names are short

name-short : (name : List ℕ) → is_name name ≡ true → length name ≤ 32
name-short [] h = omega arith
name-short (o ∷ octets) h =
    let limit = (and_parts (is_letter o && list_all is_name_octet octets) (nat_le (length octets) 31) h).1 in
    let few : length octets ≤ 31 = grind (arith, nat_tests, limit) in
    omega (arith, few)

comp-short : (k : Comp) → length (comp_name k) ≤ 11
comp-short comps.RptID = omega arith
comp-short comps.RptEna = omega arith
comp-short comps.DatSet = omega arith
comp-short comps.ConfRev = omega arith
comp-short comps.OptFlds = omega arith
comp-short comps.BufTm = omega arith
comp-short comps.SqNum = omega arith
comp-short comps.TrgOps = omega arith
comp-short comps.IntgPd = omega arith
comp-short comps.GI = omega arith
comp-short comps.PurgeBuf = omega arith
comp-short comps.EntryID = omega arith
comp-short comps.TimeofEntry = omega arith
comp-short comps.ResvTms = omega arith
comp-short comps.Owner = omega arith

part-short : (k : SettingComp) → length (setting_comp_name k) ≤ 11
part-short settings.NumOfSG = omega arith
part-short settings.ActSG = omega arith
part-short settings.EditSG = omega arith
part-short settings.CnfEdit = omega arith
part-short settings.LActTm = omega arith

known-of : (fc : List ℕ) → list_any (bytes_eq fc) member_constraints ≡ true → is_fc fc ≡ true
known-of fc h =
    let s = some-passes (bytes_eq fc) member_constraints h in
    subst (λ f. is_fc f ≡ true) (sym (octets_same fc s.0 s.2)) (of-each (λ f. is_fc f ≡ true) member_constraints s.0 (refl, (refl, (refl, (refl, (refl, (refl, (refl, (refl, tt)))))))) s.1)

-- ---- a node that may be a member

node-there : (ns : List Node) (n : ℕ) → (unwrap_or (slice_get ns n) (record { domain = []; item = []; role = several; tree = structure none; attrs = []; allowed = false })).allowed ≡ true
    → (y : Node) × At n y ns × (unwrap_or (slice_get ns n) (record { domain = []; item = []; role = several; tree = structure none; attrs = []; allowed = false }) ≡ y)
node-there [] n h = absurd (true≢false (sym h))
node-there (y ∷ ns) zero h = (y, refl, refl)
node-there (y ∷ ns) (suc n) h = node-there ns n h

module _ (c : Config) (told : IsTold c) where
  abbrev kind : ℕ → TypeOf
  kind = attr_type c

  abbrev count : ℕ
  count = length (attributes c)

  module _ (domain : List ℕ) (p : Place) (i : Among p (places_in c domain)) (sure : p.is_data ≡ true) (constrained : list_any (bytes_eq (constraint p.item)) member_constraints ≡ true) where
    abbrev ns : List Named
    ns = named.names_in c domain

    abbrev ln : List ℕ
    ln = first p.item

    abbrev behind : List ℕ
    behind = rest p.item

    abbrev fc : List ℕ
    fc = first behind

    known : is_fc fc ≡ true
    known = known-of fc constrained

    -- it goes on after a logical node
    whole : p.item ≡ ln ++ 36 ∷ behind
    whole = by (split-at p.item) where
      by : (p.item ≡ first p.item ++ 36 ∷ rest p.item) ⊎ (p.item ≡ first p.item) → p.item ≡ ln ++ 36 ∷ behind
      by (inl s) = s
      by (inr s) =
          let empty : rest p.item ≡ [] = ap rest s ∙ rest-alone (first p.item) (first-without p.item) in
          absurd (true≢false (sym constrained ∙ ap (λ r. list_any (bytes_eq (first r)) member_constraints) empty))

    one : IsUnder [] ns p ln
    one = under [] (longest ns) ns p ln behind [] (first-without p.item) whole (within-longest ns) i

    item-one : p.item ≡ (ln ++ 36 ∷ []) ++ behind
    item-one = whole ∙ sym (append_assoc ln (36 ∷ []) behind)

    tree-of-entries : (l : ℕ) → IsTree kind count (grown l (map (named_of kind) (all-entries c told domain ln fc known).entries))
    tree-of-entries l =
        let all = all-entries c told domain ln fc known in
        grown-tree kind count l all.entries (entries-below c told domain ln fc known 10 (omega arith) all.entries all.each).entries

    -- below a functional constraint
    within : (more : List ℕ) → behind ≡ fc ++ 36 ∷ more → IsFormed kind count p
    within more is =
        let before : List ℕ = (ln ++ 36 ∷ []) ++ fc ++ 36 ∷ [] in
        let two = under (ln ++ 36 ∷ []) one.depth (below ln ns) p fc more [] (first-without behind) (item-one ∙ ap (λ l. (ln ++ 36 ∷ []) ++ l) is) one.within one.there in
        let all = all-entries c told domain ln fc known in
        let among : Among p (places before (grown (suc two.depth) (map (named_of kind) all.entries))) = subst (λ ms. Among p (places before (grown (suc two.depth) ms))) all.named
        (data-place two.depth (below fc (below ln ns)) before p (apart-here c told domain ln fc known) two.within sure two.there) in
        of-each (IsFormed kind count) (places before (grown (suc two.depth) (map (named_of kind) all.entries))) p (places-formed kind count before (grown (suc two.depth) (map (named_of kind) all.entries)) (tree-of-entries (suc two.depth))) among

    -- the functional constraint itself
    itself : behind ≡ fc → IsFormed kind count p
    itself is = at (placed before one.depth (below ln ns) p one.there)
      where
        before : List ℕ
        before = ln ++ 36 ∷ []

        l : ℕ
        l = one.depth

        here : (f : List ℕ) → f ≡ fc → p ≡ place_at before l (below ln ns) f → IsFormed kind count p
        here f same e =
            let own : p ≡ place_at before l (below ln ns) fc = e ∙ ap (place_at before l (below ln ns)) same in
            let held : are_data (grown l (below fc (below ln ns))) ≡ true = (and_parts (is_data_role (role_of (below fc (below ln ns)))) (are_data (grown l (below fc (below ln ns)))) (sym (ap (λ (q : Place). q.is_data) own) ∙ sure)).1 in
            let all = all-entries c told domain ln fc known in
            let named = all-held l (below ln ns) fc (apart-here c told domain ln fc known) one.within (longer-here c told domain ln fc known) held ∙ all.named in
            let part = part-of kind count l all.entries (entries-below c told domain ln fc known 10 (omega arith) all.entries all.each).entries (tree-of-entries l) in
            let it = subst (λ ms. IsFormed kind count (place (before ++ fc) (role_of ms) (own_type ms) (grown l ms))) (sym named)
            (formed kind count (before ++ fc) _ _ _ part.0 (are-formed kind count _ part.1)) in
            subst (IsFormed kind count) (sym own) it

        at : (f : List ℕ) × IsPlaced before l (below ln ns) p f → IsFormed kind count p
        at (f, s) = by f s.at
          where
            by : (f : List ℕ) → (p ≡ place_at before l (below ln ns) f) ⊎ Among p (deeper before l (below ln ns) f) → IsFormed kind count p
            by f (inl e) = here f (append_cancel_left before f fc (sym (ap (λ (q : Place). q.item) e) ∙ (item-one ∙ ap (λ r. before ++ r) is))) e
            by f (inr j) =
                let g = item-behind (before ++ f ++ 36 ∷ []) (grown l (below f (below ln ns))) p j in
                let tail : f ++ 36 ∷ g.0 ≡ fc = append_cancel_left before (f ++ 36 ∷ g.0) fc (sym (g.1 ∙ (append_assoc (before ++ f) (36 ∷ []) g.0 ∙ append_assoc before f (36 ∷ g.0))) ∙ (item-one ∙ ap (λ r. before ++ r) is)) in
                absurd (dollar-within f g.0 (subst NoDollar (sym tail) (first-without behind)))

    is-formed : IsFormed kind count p
    is-formed = by (split-at behind) where
      by : (behind ≡ first behind ++ 36 ∷ rest behind) ⊎ (behind ≡ first behind) → IsFormed kind count p
      by (inl s) = within (rest behind) s
      by (inr s) = itself s

    -- its item is short
    short-by : (n : Named) → IsOne c domain n → length n.item ≤ 96
    short-by n (inl h) = omega (arith, ap (λ (q : Named). length q.item) h.is, name-short h.node.ln (told.nodes h.node h.there).0)
    short-by n (inr (inl h)) = omega (arith, ap (λ (q : Named). length q.item) h.is, (told.attrs h.attr (at-among h.at h.attr (all_attrs c) h.there)).short)
    short-by n (inr (inr (inl h))) =
        let b = told.blocks h.block h.there in
        let item : n.item ≡ ((h.block.ln ++ 36 ∷ codes "BR") ++ 36 ∷ h.block.name) ++ 36 ∷ comp_name h.part = ap (λ (q : Named). q.item) h.is in
        omega (
          arith,
          ap length item,
          length-append ((h.block.ln ++ 36 ∷ codes "BR") ++ 36 ∷ h.block.name) (36 ∷ comp_name h.part),
          length-append (h.block.ln ++ 36 ∷ codes "BR") (36 ∷ h.block.name),
          length-append h.block.ln (36 ∷ codes "BR"),
          name-short h.block.ln b.ln,
          name-short h.block.name b.name,
          comp-short h.part,
        )
    short-by n (inr (inr (inr (inl h)))) =
        let a = h.attr in
        let fc : a.fc ≡ codes "SG" = octets_same a.fc (codes "SG") h.setting in
        omega (
          arith,
          ap (λ (q : Named). length q.item) h.is,
          length-append (a.ln ++ 36 ∷ codes "SE") (36 ∷ a.path),
          length-append a.ln (36 ∷ codes "SE"),
          length-append (a.ln ++ 36 ∷ a.fc) (36 ∷ a.path),
          length-append a.ln (36 ∷ a.fc),
          ap (λ (x : List ℕ). length x) fc,
          (told.attrs a (own-attr c a h.there)).short,
        )
    short-by n (inr (inr (inr (inr (inl h))))) =
        let item : List ℕ = named.path_item h.control.ln (codes "CO") h.control.path in
        omega (arith, ap length h.inside.is, length-append item (36 ∷ h.inside.more), h.inside.short, (told.controls h.control h.there).short)
    short-by n (inr (inr (inr (inr (inr h))))) = omega (arith, ap (λ (q : Named). length q.item) h.is, length-append (codes "LLN0$SP$SGCB") (36 ∷ setting_comp_name h.part), part-short h.part)

    item-short : length p.item ≤ 96
    item-short =
        let b = begins (suc (longest ns)) ns [] p i in
        omega (arith, short-by b.0 (named-in c domain b.0 b.1), ap length b.4, length-append p.item b.3)

  domain-short : (domain : List ℕ) → Among domain (named.domains c) → length domain ≤ 32
  domain-short domain i = by (domain-of domain [] c.nodes i) where
    by : ⊥ ⊎ ((n : _) × Among n c.nodes × (domain ≡ n.domain)) → length domain ≤ 32
    by (inl j) = absurd j
    by (inr h) = name-short domain (ap is_name h.2 ∙ (told.nodes h.0 h.1).1)

  pub allowed-member : (n : ℕ) → (node_of (configured_model c) n).allowed ≡ true → IsShortMember c n
  allowed-member n h =
      let y = node-there (nodes c) n h in
      let at = node-at-place (places_in c) (named.domains c) n y.0 y.1 in
      let d = at.domain in
      let p = at.place in
      let node : node_of (configured_model c) n ≡ node_at d p = y.2 ∙ at.is in
      let open_ : (may_be_member p && nat_le (largest p.kind) 500) ≡ true = sym (ap (λ (m : Node). m.allowed) node) ∙ h in
      let both = and_parts (may_be_member p) (nat_le (largest p.kind) 500) open_ in
      let may = and_parts p.is_data (list_any (bytes_eq (constraint p.item)) member_constraints) both.0 in
      let constrained = may.1 in
      let small : largest p.kind ≤ 500 = grind (arith, nat_tests, both.1) in
      record {
        member = member-of c n d p y.0 y.1 at.is at.kind (record { formed = is-formed d p at.place_there may.0 constrained; constrained = constrained; small = small });
        short = (let reference = ap (λ (m : Node). length (m.domain ++ 47 ∷ m.item)) node in omega (arith, reference, length-append d (47 ∷ p.item), domain-short d at.domain_there, item-short d p at.place_there may.0 constrained));
      }
