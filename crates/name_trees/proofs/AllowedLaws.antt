-- A node of the lines is one that a data set may have exactly where the model allows it.
use Rattle.std.proofs.Common.{◌≡◌, ℕ, suc, ◌<◌, ◌≤◌, ◌&&◌, ◌⊎◌, inl, inr, Bool, true, false, not, nat_lt, nat_le, List, [], ◌∷◌, ◌++◌, map, length, refl, sym, ap, subst, ◌∙◌, append_assoc, append-nil, arith, length-append, true≢false}
use Rattle.std.specs.Prelude.{codes}
use Rattle.std.specs.List.{list_any}
use Rattle.std.specs.Str.{bytes_eq}
use Rattle.std.proofs.lemmas.Bool.{and_parts, and_from}
use Rattle.std.proofs.lemmas.Bool.Decides.{nat_tests}
use Rattle.std.proofs.lemmas.List.{append_cancel_left}
use Rattle.sv_base.specs.declared.config.Config.{Config}
use Rattle.sv_base.specs.declared.config.SgDef.{SgDef}
use Rattle.bay_model.specs.Model.{Node}
use Rattle.bay_model.specs.Generated.{Named, within}
use Rattle.bay_model.specs.NamedLines.{path_item, names_in as named_in}
use Rattle.bay_model.specs.NameTree.{longest, role_of, grown}
use Rattle.bay_model.specs.Places.{Place, may_be_member, largest, constraint, member_constraints, is_data_role, are_data}
use Rattle.bay_model.specs.Named.{places_in, nodes, configured_model}
use Rattle.text_words.specs.Names.{is_member}
use Rattle.cfg_lines.specs.Sizes.{leaf_octets, children, octets_of}
use Rattle.cfg_lines.specs.Claims.{claims_by, group_key}
use Rattle.cfg_lines.specs.Nodes.{leaves_by, leaves, leaf_names, closed, reaches, is_node, is_member_node, group_parts}
use Rattle.cfg_lines.specs.Configs.{config_of}
use Rattle.cfg_grammar.specs.Texts.{AreLines}
use Rattle.cfg_lines.specs.declared.leaf.Leaf.{Leaf}
use Rattle.cfg_lines.specs.declared.line.Line.{Line}
use Rattle.cfg_lines.specs.declared.line.Line.TheVariants as lines
use Rattle.list_laws.proofs.Among.{Among, right, source, some-passes, passes, of-each, tails}
use Rattle.text_configs.proofs.JoinedLaws.{IsPlain, ArePlain, joined, joined-behind, joined-some}
use Rattle.text_configs.proofs.AttrLaws.{AreBeside}
use Rattle.text_configs.proofs.OrderLaws.{within-longest}
use Rattle.text_configs.proofs.PathLaws.{name-plain, names_in, path-plain, path-joined, prefix-joined, IsReference, reference-of}
use Rattle.name_trees.specs.ByModel.{is_at, may_have}
use Rattle.name_trees.proofs.FrontLaws.{IsFront, front-trans, behind, named-at}
use Rattle.name_trees.proofs.ToldLaws.{told-in}
use Rattle.name_trees.proofs.ItemLaws.{domain_in, items, leaf_items, closed_items, with_items, key, key-path}
use Rattle.name_trees.proofs.FormLaws.{IsLeafOf, IsClosedOf, HasForm}
use Rattle.name_trees.proofs.NamedLaws.{IsLineName, leaf-named, told-named}
use Rattle.name_trees.proofs.ClaimLaws.{lines-apart, leaf-claimed, leaves-same, leaves-apart}
use Rattle.name_trees.proofs.SubLaws.{moved, IsFrom, IsPlaceOf, place-of, AreWithin, AreData, role-data, all-data, place-seen}
use Rattle.name_trees.proofs.OctetLaws.{IsKnown, AreLeaves, counted-is}
use Rattle.name_trees.proofs.NodeLaws as node_laws
use Rattle.name_trees.proofs.NodeLaws.{reached, reach, IsKey, closed-key, leaf-key, key-closed}
use Rattle.name_trees.proofs.MemberLaws.{constraint-of, with-front, closed_constraint, closed-under, IsLeafItem, leaf-item, typed-line}
use Rattle.list_laws.proofs.Truths.{both-ways}

-- an item of three names says the functional constraint of what goes on from it
front-constraint : (names : List (List ℕ)) (item i : List ℕ) → joined names ≡ item → ArePlain names → 3 ≤ length names → IsFront item i → constraint i ≡ constraint item
front-constraint [] item i e plain h f = absurd (omega (arith, h))
front-constraint (a ∷ []) item i e plain h f = absurd (omega (arith, h))
front-constraint (a ∷ b ∷ []) item i e plain h f = absurd (omega (arith, h))
front-constraint (a ∷ b ∷ d ∷ more) item i e plain h f =
    let whole : path_item a b (joined (d ∷ more)) ≡ item = append_assoc a (36 ∷ b) (36 ∷ joined (d ∷ more)) ∙ e in
    constraint-of a b (joined (d ∷ more)) i plain.0.1 plain.1.0.1 (subst (λ x. IsFront x i) (sym whole) f) ∙ sym (constraint-of a b (joined (d ∷ more)) item plain.0.1 plain.1.0.1 (inl (sym whole)))

plain-right : (xs ys : List (List ℕ)) → ArePlain (xs ++ ys) → ArePlain ys
plain-right [] ys h = h
plain-right (x ∷ xs) ys h = plain-right xs ys h.1

not-longer : (p x : List ℕ) → p ++ 36 ∷ x ≡ p → ⊥
not-longer p x e = absurd (omega (arith, ap length e, length-append p (36 ∷ x)))

-- the items of setting group control blocks have plain names
abbrev IsPlainItem : List ℕ → Type 0
IsPlainItem i = (names : List (List ℕ)) × (i ≡ joined names) × ArePlain names

group-item : (part : List ℕ) → IsPlain part → IsPlainItem (within (codes "LLN0$SP$SGCB") part)
group-item part h = (codes "LLN0" ∷ codes "SP" ∷ codes "SGCB" ∷ part ∷ [], refl, (name-plain (codes "LLN0") refl, (name-plain (codes "SP") refl, (name-plain (codes "SGCB") refl, (h, tt)))))

group-items-plain : (i : List ℕ) → Among i (with_items (codes "LLN0$SP$SGCB") group_parts) → IsPlainItem i
group-items-plain i (inl e) = (codes "LLN0" ∷ codes "SP" ∷ codes "SGCB" ∷ [], e, (name-plain (codes "LLN0") refl, (name-plain (codes "SP") refl, (name-plain (codes "SGCB") refl, tt))))
group-items-plain i (inr j) = let s = source (within (codes "LLN0$SP$SGCB")) i group_parts j in subst IsPlainItem (sym s.2) (group-item s.0 (of-each IsPlain group_parts s.0
    (name-plain (codes "NumOfSG") refl, (name-plain (codes "ActSG") refl, (name-plain (codes "EditSG") refl, (name-plain (codes "CnfEdit") refl, (name-plain (codes "LActTm") refl, tt))))) s.1))

module _ (text : List ℕ) (told : List Line) (are : AreLines text told) (r : List ℕ) (s : IsReference r) where
  abbrev c : Config
  c = config_of told

  abbrev ns : List Named
  ns = named_in c s.domain

  abbrev names : List (List ℕ)
  names = names_in s.item

  plain : ArePlain names
  plain = path-plain s.item s.path

  -- the place of the reference
  module _ (p : Place) (among : Among p (places_in c s.domain)) (item : p.item ≡ s.item) where
    at : IsPlaceOf (suc (longest ns)) [] (joined names) ns p
    at = place-of names (suc (longest ns)) [] ns p plain (omega (arith, s.many)) among (item ∙ sym (path-joined s.item))

    within_level : AreWithin at.level at.sub
    within_level = at.within (λ n i. omega (arith, within-longest ns n i))

    front-at : (m n : Named) → IsFrom ns (joined names) m n → IsFront s.item n.item
    front-at m n f = by f.at
      where
        by : ((n.item ≡ joined names) × (m.item ≡ [])) ⊎ (n.item ≡ joined names ++ 36 ∷ m.item) → IsFront s.item n.item
        by (inl e) = inl (e.0 ∙ path-joined s.item)
        by (inr e) = inr (m.item, e ∙ ap (λ x. x ++ 36 ∷ m.item) (path-joined s.item))

    -- ---- where no part of a block or a control, nor an edited value, is reached
    module _ (free : reaches (closed told) r ≡ false) where
      record IsLeafAt (n : Named) : Type 0 where
        line : Line
        there : Among line told
        domain_is : domain_in line ≡ s.domain
        leaf_of : IsLeafOf line n

      leaf-at : (n : Named) → Among n ns → IsFront s.item n.item → IsLeafAt n
      leaf-at n i f = let l = node_laws.line-of text told are r s n i f in by l l.form
        where
          by : (l : IsLineName told s.domain n) → HasForm l.line n → IsLeafAt n
          by l (inl h) = record { line = l.line; there = l.there; domain_is = l.domain_is; leaf_of = h }
          by l (inr h) = absurd (true≢false (sym (reach (closed told) r (key (domain_in l.line) n.item) (key-closed told l.line n.item l.there h.item)
              (node_laws.reference-front text told are r s (domain_in l.line) n.item l.domain_is f)) ∙ free))

      data_at : AreData at.sub
      data_at m i = let u = at.is_sub.of m i in let l = leaf-at u.0 u.1.there (front-at m u.0 u.1) in ap (λ (x : Named). is_data_role x.role) u.1.is ∙ l.leaf_of.data_role

      is-data : p.is_data ≡ true
      is-data = ap (λ (q : Place). q.is_data) at.is ∙ and_from (is_data_role (role_of at.sub)) (are_data (grown at.level at.sub)) (role-data at.sub data_at) (all-data at.level at.sub data_at)

      known-at : (m n : Named) → IsFrom ns (joined names) m n → IsKnown (leaves told) (leaves-same text told are) (leaves-apart text told are) r 9 m
      known-at m n f = let l = leaf-at n f.there (front-at m n f) in by l (leaf-item text told are l.line n.item l.there l.leaf_of.item) f.at
        where
          octets : (l : IsLeafAt n) → l.leaf_of.leaf.octets ≡ largest m.kind
          octets l = l.leaf_of.octets (typed-line text told are l.line l.there) ∙ ap (λ (x : Named). largest x.kind) (sym f.is)

          name_at : (l : IsLeafAt n) → l.leaf_of.leaf.name ≡ key s.domain n.item
          name_at l = l.leaf_of.name ∙ ap (λ d. key d n.item) l.domain_is

          below : (l : IsLeafAt n) (t : IsLeafItem text told are n.item) → n.item ≡ joined names ++ 36 ∷ m.item → (more : List (List ℕ)) → t.names ≡ names ++ more → IsKnown (leaves told) (leaves-same text told are) (leaves-apart text told are) r 9 m
          below l t e [] g = absurd (not-longer (joined names) m.item (sym e ∙ (t.is ∙ ap joined (g ∙ append-nil names))))
          below l t e (q ∷ qs) g =
              let rest_is : m.item ≡ joined (q ∷ qs) = tails 36 36 m.item (joined (q ∷ qs)) (append_cancel_left (joined names) (36 ∷ m.item) (36 ∷ joined (q ∷ qs)) (sym e ∙ (t.is ∙ (ap joined g ∙ joined-behind names q qs (omega (arith, s.many)))))) in
              record {
                leaf = l.leaf_of.leaf;
                there = told-in leaves leaves_by refl (λ line before. refl) told l.line l.leaf_of.leaf l.there l.leaf_of.among;
                octets = octets l;
                path = q ∷ qs;
                plain = plain-right names (q ∷ qs) (subst ArePlain g t.plain);
                short = omega (arith, t.few, ap length g, length-append names (q ∷ qs), s.many);
                item = rest_is;
                name = name_at l ∙ (ap (key s.domain) (e ∙ ap (λ x. x ++ 36 ∷ m.item) (path-joined s.item)) ∙ (sym (append_assoc s.domain (47 ∷ s.item) (36 ∷ m.item)) ∙ (ap (λ x. x ++ 36 ∷ m.item) (sym s.is) ∙ ap (λ x. r ++ 36 ∷ x) rest_is)));
              }

          by : (l : IsLeafAt n) → IsLeafItem text told are n.item → ((n.item ≡ joined names) × (m.item ≡ [])) ⊎ (n.item ≡ joined names ++ 36 ∷ m.item) → IsKnown (leaves told) (leaves-same text told are) (leaves-apart text told are) r 9 m
          by l t (inl e) = record {
            leaf = l.leaf_of.leaf;
            there = told-in leaves leaves_by refl (λ line before. refl) told l.line l.leaf_of.leaf l.there l.leaf_of.among;
            octets = octets l;
            path = [];
            plain = tt;
            short = omega arith;
            item = e.1;
            name = name_at l ∙ (ap (key s.domain) (e.0 ∙ path-joined s.item) ∙ sym s.is);
          }
          by l t (inr e) = let g = prefix-joined t.names names m.item t.plain plain (omega (arith, s.many)) (sym t.is ∙ e) in below l t e g.more g.is

      leaf-there : (a : Leaf) → Among a (leaves told) → IsKey told leaf_items a.name
      leaf-there a i = leaf-key told a.name (name-among (leaves told) i)
        where
          name-among : (ls : List Leaf) → Among a ls → Among a.name (map (λ (leaf : Leaf). leaf.name) ls)
          name-among [] j = absurd j
          name-among (l ∷ ls) (inl e) = inl (ap (λ (x : Leaf). x.name) e)
          name-among (l ∷ ls) (inr j) = inr (name-among ls j)

      leaves-at : AreLeaves (leaves told) (leaves-same text told are) (leaves-apart text told are) r 9 at.sub
      leaves-at = record {
        known = λ m i. let u = at.is_sub.of m i in known-at m u.0 u.1;
        ends = λ a i e. let k = leaf-there a i in ends_at k (node_laws.in-line text told are r s (domain_in k.line) k.item (node_laws.line-domain text told are k.line k.item k.there (left_item k)) (inl (sym k.is ∙ e))) (sym k.is ∙ e);
        goes = λ a x i e. let k = leaf-there a i in goes_at x k (node_laws.in-line text told are r s (domain_in k.line) k.item (node_laws.line-domain text told are k.line k.item k.there (left_item k)) (inr (x, sym k.is ∙ e))) (sym k.is ∙ e);
      }
        where
          left_item : {k : List ℕ} → (h : IsKey told leaf_items k) → Among h.item (items h.line)
          left_item h = into (leaf_items h.line) (closed_items h.line) h.among
            where
              into : (xs ys : List (List ℕ)) → Among h.item xs → Among h.item (xs ++ ys)
              into [] ys j = absurd j
              into (x ∷ xs) ys (inl e) = inl e
              into (x ∷ xs) ys (inr j) = inr (into xs ys j)

          -- the item of a reference in the domain
          item-is : (d i x : List ℕ) → d ≡ s.domain → key d i ≡ s.domain ++ 47 ∷ x → i ≡ x
          item-is d i x e f = tails 47 47 i x (append_cancel_left s.domain (47 ∷ i) (47 ∷ x) (ap (λ y. y ++ 47 ∷ i) (sym e) ∙ f))

          ends_at : {k : List ℕ} → (h : IsKey told leaf_items k) → (domain_in h.line ≡ s.domain) × IsFront s.item h.item → key (domain_in h.line) h.item ≡ r → (m : Named) × Among m at.sub × (m.item ≡ [])
          ends_at h d e =
              let n = leaf-named told h.line h.item h.there h.among in
              let i = item-is (domain_in h.line) h.item s.item d.0 (e ∙ s.is) in
              (moved [] n.name, at.is_sub.there n.name (subst (λ x. Among n.name (named_in c x)) d.0 n.there) (n.is ∙ (i ∙ sym (path-joined s.item))), refl)

          goes_at : (x : List ℕ) {k : List ℕ} → (h : IsKey told leaf_items k) → (domain_in h.line ≡ s.domain) × IsFront s.item h.item → key (domain_in h.line) h.item ≡ r ++ 36 ∷ x → (m : Named) × Among m at.sub × (m.item ≡ x)
          goes_at x h d e =
              let n = leaf-named told h.line h.item h.there h.among in
              let i = item-is (domain_in h.line) h.item (s.item ++ 36 ∷ x) d.0 (e ∙ (ap (λ y. y ++ 36 ∷ x) s.is ∙ append_assoc s.domain (47 ∷ s.item) (36 ∷ x))) in
              (moved x n.name, at.is_sub.under n.name x (subst (λ y. Among n.name (named_in c y)) d.0 n.there) (n.is ∙ (i ∙ ap (λ y. y ++ 36 ∷ x) (sym (path-joined s.item)))), refl)

      pub size-is : largest p.kind ≡ octets_of 10 (leaf_octets (leaves told)) (children (leaf_names told)) r
      size-is = ap (λ (q : Place). largest q.kind) at.is ∙ counted-is (leaves told) (leaves-same text told are) (leaves-apart text told are) at.level r 9 at.sub leaves-at within_level

      -- its functional constraint
      is-constrained : list_any (bytes_eq (constraint p.item)) member_constraints ≡ true
      is-constrained =
          let m = named-at (suc (longest ns)) [] ns p among in
          let f : IsFront s.item m.name.item = subst (λ x. IsFront x m.name.item) (sym m.is ∙ item) m.front in
          let l = leaf-at m.name m.there f in
          ap (λ x. list_any (bytes_eq x) member_constraints) (ap constraint item ∙ sym (front-constraint names s.item m.name.item (path-joined s.item) plain s.many f))
          ∙ (leaf-item text told are l.line m.name.item l.there l.leaf_of.item).constrained

      pub may-be : may_be_member p ≡ true
      may-be = and_from p.is_data (list_any (bytes_eq (constraint p.item)) member_constraints) is-data is-constrained

    -- ---- where one of them is reached

    -- what is named at a setting group control block or below it is a part of it
    only-group : (g : SgDef) → Among (lines.Sgcb g) told → g.domain ≡ s.domain → (n : Named) → Among n ns → IsFront s.item n.item → IsFront (codes "LLN0$SP$SGCB") n.item
        → Among n.item (with_items (codes "LLN0$SP$SGCB") group_parts) × (is_data_role n.role ≡ false)
    only-group g there d n i f front = let l = node_laws.line-of text told are r s n i f in by l.line l.there l.domain_is l.form
      where
        under : constraint n.item ≡ codes "SP"
        under = constraint-of (codes "LLN0") (codes "SP") (codes "SGCB") n.item (name-plain (codes "LLN0") refl).1 (refl, (refl, tt)) front

        other : (fc : List ℕ) → constraint n.item ≡ fc → bytes_eq fc (codes "SP") ≡ false → ⊥
        other fc e h = true≢false (sym (ap (λ x. bytes_eq x (codes "SP")) (sym e ∙ under)) ∙ h)

        clash : (k : List ℕ) → k ≡ key s.domain n.item → AreBeside k (group_key g.domain (codes "LLN0")) → ⊥
        clash k e h = go front
          where
            group : key s.domain (codes "LLN0$SP$SGCB") ≡ group_key g.domain (codes "LLN0")
            group = ap (λ x. key x (codes "LLN0$SP$SGCB")) (sym d) ∙ key-path g.domain (codes "LLN0") (codes "SP") (codes "SGCB")

            go : IsFront (codes "LLN0$SP$SGCB") n.item → ⊥
            go (inl is) = h.other (e ∙ (ap (key s.domain) is ∙ group))
            go (inr is) = h.below is.0 (e ∙ (ap (key s.domain) is.1 ∙ (sym (append_assoc s.domain (47 ∷ codes "LLN0$SP$SGCB") (36 ∷ is.0)) ∙ ap (λ x. x ++ 36 ∷ is.0) group)))

        leaf-not : (line : Line) → Among line told → domain_in line ≡ s.domain → IsLeafOf line n → ⊥
        leaf-not line told_of e h = two (lines-apart told text are line (lines.Sgcb g) told_of there)
          where
            two : (line ≡ lines.Sgcb g) ⊎ ((p q : List ℕ) → Among p (claims_by line) → Among q (claims_by (lines.Sgcb g)) → AreBeside p q) → ⊥
            two (inl is) = subst (λ x. Among h.leaf (leaves_by x)) is h.among
            two (inr k) = clash h.leaf.name (h.name ∙ ap (λ x. key x n.item) e) (k h.leaf.name (group_key g.domain (codes "LLN0")) (leaf-claimed line h.leaf h.among) (inl refl))

        closed-is : (line : Line) → Among line told → IsClosedOf line n → Among n.item (with_items (codes "LLN0$SP$SGCB") group_parts) × (is_data_role n.role ≡ false)
        closed-is (lines.Attr a) told_of h = absurd (other (codes "SE") (closed-under text told are (lines.Attr a) n.item told_of h.item) refl)
        closed-is (lines.Brcb b) told_of h = absurd (other (codes "BR") (closed-under text told are (lines.Brcb b) n.item told_of h.item) refl)
        closed-is (lines.Ctl k) told_of h = absurd (other (codes "CO") (closed-under text told are (lines.Ctl k) n.item told_of h.item) refl)
        closed-is (lines.Sgcb k) told_of h = (h.item, h.hidden)
        closed-is line told_of h = absurd h.item

        by : (line : Line) → Among line told → domain_in line ≡ s.domain → HasForm line n → Among n.item (with_items (codes "LLN0$SP$SGCB") group_parts) × (is_data_role n.role ≡ false)
        by line told_of e (inl h) = absurd (leaf-not line told_of e h)
        by line told_of e (inr h) = closed-is line told_of h

    -- a name with a path below the place
    record IsPathTo (n : Named) : Type 0 where
      m : Named
      there : Among m at.sub
      path : List (List ℕ)
      is : m.item ≡ joined path
      plain_path : ArePlain path
      goes : (k : Named) → (u : Named) → IsFrom ns (joined names) k u → IsFront m.item k.item → IsFront n.item u.item

    path-to : (n : Named) → Among n ns → IsFront s.item n.item → IsPlainItem n.item → IsPathTo n
    path-to n i (inl e) t = record {
      m = moved [] n;
      there = at.is_sub.there n i (e ∙ sym (path-joined s.item));
      path = [];
      is = refl;
      plain_path = tt;
      goes = λ k u f h. subst (λ x. IsFront x u.item) (sym e) (front-at k u f);
    }
    path-to n i (inr e) t = let g = prefix-joined t.0 names e.0 t.2 plain (omega (arith, s.many)) (sym t.1 ∙ whole) in by g.more g.is
      where
        whole : n.item ≡ joined names ++ 36 ∷ e.0
        whole = e.1 ∙ ap (λ x. x ++ 36 ∷ e.0) (sym (path-joined s.item))

        some : (q : List ℕ) (qs : List (List ℕ)) → IsPlain q → e.0 ≡ joined (q ∷ qs) → (k u : Named) → IsFrom ns (joined names) k u → IsFront e.0 k.item → IsFront n.item u.item
        some q qs h x k u f front = two f.at
          where
            none : (o : List ℕ) → 0 < length o → k.item ≡ [] → IsFront o k.item → ⊥
            none [] l z w = absurd (omega (arith, l))
            none (o ∷ os) l z (inl w) = absurd (omega (arith, ap length (sym z ∙ w)))
            none (o ∷ os) l z (inr w) = absurd (omega (arith, ap length (sym z ∙ w.1)))

            two : ((u.item ≡ joined names) × (k.item ≡ [])) ⊎ (u.item ≡ joined names ++ 36 ∷ k.item) → IsFront n.item u.item
            two (inl z) = absurd (none e.0 (omega (arith, ap length x, joined-some q qs h.0)) z.1 front)
            two (inr z) = subst (λ y. IsFront y u.item) (sym whole) (behind (joined names) e.0 k front u.item z)

        by : (more : List (List ℕ)) → t.0 ≡ names ++ more → IsPathTo n
        by [] g = absurd (not-longer (joined names) e.0 (sym whole ∙ (t.1 ∙ ap joined (g ∙ append-nil names))))
        by (q ∷ qs) g =
            let rest_is : e.0 ≡ joined (q ∷ qs) = tails 36 36 e.0 (joined (q ∷ qs)) (append_cancel_left (joined names) (36 ∷ e.0) (36 ∷ joined (q ∷ qs)) (sym whole ∙ (t.1 ∙ (ap joined g ∙ joined-behind names q qs (omega (arith, s.many)))))) in
            let more_plain : ArePlain (q ∷ qs) = plain-right names (q ∷ qs) (subst ArePlain g t.2) in
            record {
              m = moved e.0 n;
              there = at.is_sub.under n e.0 i whole;
              path = q ∷ qs;
              is = rest_is;
              plain_path = more_plain;
              goes = λ k u f h. some q qs more_plain.0 rest_is k u f h;
            }

    group-not : (g : SgDef) → Among (lines.Sgcb g) told → g.domain ≡ s.domain → (i : List ℕ) → Among i (with_items (codes "LLN0$SP$SGCB") group_parts) → IsFront s.item i → p.is_data ≡ true → ⊥
    group-not g there d i among_items f held =
        let b = told-named told (lines.Sgcb g) i there among_items in
        let n : Among b.name ns = subst (λ x. Among b.name (named_in c x)) d b.there in
        let down : IsFront s.item b.name.item = front-trans s.item i b.name.item f b.front in
        let group : IsFront (codes "LLN0$SP$SGCB") b.name.item = front-trans (codes "LLN0$SP$SGCB") i b.name.item (with-front (codes "LLN0$SP$SGCB") i group_parts among_items) b.front in
        let o = only-group g there d b.name n down group in
        let w = path-to b.name n down (group-items-plain b.name.item o.0) in
        let seen = place-seen at.level at.sub w.path w.m (sym (ap (λ (q : Place). q.is_data) at.is) ∙ held) within_level w.there w.is w.plain_path in
        let u = at.is_sub.of seen.name seen.there in
        let up : IsFront b.name.item u.0.item = w.goes seen.name u.0 u.1 seen.front in
        let last = only-group g there d u.0 u.1.there (front-at seen.name u.0 u.1) (front-trans (codes "LLN0$SP$SGCB") b.name.item u.0.item group up) in
        true≢false (sym seen.data_role ∙ (ap (λ (x : Named). is_data_role x.role) u.1.is ∙ last.1))

    pub closed-not : reaches (closed told) r ≡ true → may_be_member p ≡ true → ⊥
    closed-not h may =
        let k = reached (closed told) r h in
        let m = closed-key told k.0 k.1 in
        let g = node_laws.in-line text told are r s (domain_in m.line) m.item (node_laws.line-domain text told are m.line m.item m.there (right m.item (leaf_items m.line) (closed_items m.line) m.among)) (subst (IsFront r) m.is k.2) in
        let parts = and_parts p.is_data (list_any (bytes_eq (constraint p.item)) member_constraints) may in
        let under : constraint p.item ≡ closed_constraint m.line = ap constraint item ∙ (sym (front-constraint names s.item m.item (path-joined s.item) plain s.many g.1) ∙ closed-under text told are m.line m.item m.there m.among) in
        by m.line m.there m.item m.among g.0 g.1 parts.0 (ap (λ x. list_any (bytes_eq x) member_constraints) (sym under) ∙ parts.1)
      where
        by : (line : Line) → Among line told → (i : List ℕ) → Among i (closed_items line) → domain_in line ≡ s.domain → IsFront s.item i → p.is_data ≡ true → list_any (bytes_eq (closed_constraint line)) member_constraints ≡ true → ⊥
        by (lines.Attr a) there i j d f held e = true≢false (sym e)
        by (lines.Brcb b) there i j d f held e = true≢false (sym e)
        by (lines.Ctl k) there i j d f held e = true≢false (sym e)
        by (lines.Sgcb g) there i j d f held e = group-not g there d i j f held
        by line there i j d f held e = absurd j

  -- ---- both ways
  small : (n : ℕ) → not (nat_lt 500 n) ≡ true → nat_le n 500 ≡ true
  small n h = grind (arith, nat_tests)

  large : (n : ℕ) → nat_le n 500 ≡ true → not (nat_lt 500 n) ≡ true
  large n h = grind (arith, nat_tests)

  free-of : not (reaches (closed told) r) ≡ true → reaches (closed told) r ≡ false
  free-of h = by (reaches (closed told) r) refl h
    where
      by : (b : Bool) → reaches (closed told) r ≡ b → not b ≡ true → b ≡ false
      by true e h = absurd (true≢false (sym h))
      by false e h = refl

  abbrev octets : ℕ
  octets = octets_of 10 (leaf_octets (leaves told)) (children (leaf_names told)) r

  abbrev allowed_at : Node → Bool
  allowed_at n = is_at r n && n.allowed

  there : is_node told r && is_member_node told r ≡ true → may_have (configured_model c) r ≡ true
  there h =
      let both = and_parts (is_node told r) (is_member_node told r) h in
      let fit = and_parts (not (reaches (closed told) r)) (not (nat_lt 500 octets)) both.1 in
      let free = free-of fit.0 in
      let n = some-passes (is_at r) (nodes c) (sym (node_laws.agrees text told are r s) ∙ both.0) in
      let q = node_laws.place-of text told are r s n.0 n.1 n.2 in
      passes allowed_at n.0 (nodes c) n.1 (and_from (is_at r n.0) n.0.allowed n.2 (ap (λ (m : Node). m.allowed) q.is
      ∙ and_from (may_be_member q.place) (nat_le (largest q.place.kind) 500) (may-be q.place q.among q.item free) (ap (λ k. nat_le k 500) (size-is q.place q.among q.item free) ∙ small octets fit.1)))

  back : may_have (configured_model c) r ≡ true → is_node told r && is_member_node told r ≡ true
  back h =
      let n = some-passes allowed_at (nodes c) h in
      let both = and_parts (is_at r n.0) n.0.allowed n.2 in
      let q = node_laws.place-of text told are r s n.0 n.1 both.0 in
      let fit = and_parts (may_be_member q.place) (nat_le (largest q.place.kind) 500) (sym (ap (λ (m : Node). m.allowed) q.is) ∙ both.1) in
      let free = never (reaches (closed told) r) refl (λ e. closed-not q.place q.among q.item e fit.0) in
      and_from (is_node told r) (is_member_node told r) (node_laws.agrees text told are r s ∙ passes (is_at r) n.0 (nodes c) n.1 both.0)
      (and_from (not (reaches (closed told) r)) (not (nat_lt 500 octets)) (ap not free) (large octets (ap (λ k. nat_le k 500) (sym (size-is q.place q.among q.item free)) ∙ fit.1)))
    where
      never : (b : Bool) → reaches (closed told) r ≡ b → (reaches (closed told) r ≡ true → ⊥) → reaches (closed told) r ≡ false
      never true e h = absurd (h e)
      never false e h = e

  pub allowed-agrees : is_node told r && is_member_node told r ≡ may_have (configured_model c) r
  allowed-agrees = both-ways (is_node told r && is_member_node told r) (may_have (configured_model c) r) there back

pub members-agree : (text : List ℕ) (told : List Line) (r : List ℕ) → AreLines text told → is_member r ≡ true → is_node told r && is_member_node told r ≡ may_have (configured_model (config_of told)) r
members-agree text told r are h = allowed-agrees text told are r (reference-of r h)
