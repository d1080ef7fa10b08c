-- What a configuration names in a domain is what its lines have there.
use Rattle.std.proofs.Common.{◌≡◌, ℕ, ◌+◌, ◌⊎◌, inl, inr, List, [], ◌∷◌, ◌++◌, map, filter, length, refl, sym, ap, subst, ◌∙◌}
use Rattle.std.specs.Prelude.{codes}
use Rattle.std.specs.Str.{bytes_eq}
use Rattle.list_laws.proofs.Distinct.{octets_same, octets_equal}
use Rattle.sv_base.specs.declared.config.Config.{Config}
use Rattle.sv_base.specs.declared.config.LnDef.{LnDef}
use Rattle.sv_base.specs.declared.config.AttrDef.{AttrDef}
use Rattle.sv_base.specs.declared.config.BlockDef.{BlockDef}
use Rattle.sv_base.specs.declared.config.CtlDef.{CtlDef}
use Rattle.sv_base.specs.declared.config.SgDef.{SgDef}
use Rattle.bay_model.specs.Model.{several}
use Rattle.bay_model.specs.Generated.{Named, within, structure_named, block_names, setting_names, parameters}
use Rattle.bay_model.specs.NamedLines.{path_item, attribute_names, attribute_line, attribute_lines, node_line, block_line, block_lines, control_line, control_lines, group_line, domain_number, generated, lines as model_lines, in_order, names_in}
use Rattle.bay_model.specs.NamedLines as named
use Rattle.cfg_lines.specs.Configs.{config_of}
use Rattle.cfg_lines.specs.Nodes.{block_parts, group_parts}
use Rattle.cfg_lines.specs.declared.line.Line.{Line}
use Rattle.cfg_lines.specs.declared.line.Line.TheVariants as lines
use Rattle.list_laws.proofs.Among.{Among, at-among, among-at, left, right, either, mapped, source, kept, passed, spread, gathered}
use Rattle.text_configs.proofs.OrderLaws.{ordered, from-ordered, IsAttributeLine, attribute-line, line-of, block-line}
use Rattle.name_trees.proofs.FrontLaws.{IsFront}
use Rattle.name_trees.proofs.ToldLaws.{attr-told, block-told, control-told, groups-told, attr-in, block-in, control-in, groups-in}
use Rattle.name_trees.proofs.FormLaws.{HasForm, attribute-form, block-form, control-form, group-form}
use Rattle.name_trees.proofs.ItemLaws.{domain_in, items, leaf_items, closed_items, with_items, named_items, attribute-items, block-items, group-items, control-there, control-back}

-- ---- lines of blocks and of controls

block-there : (bs : List BlockDef) (b : ℕ) (d : BlockDef) → Among d bs → (k : ℕ) × Among (block_line k d) (block_lines b bs)
block-there [] b d i = absurd i
block-there (e ∷ bs) b d (inl is) = (b, inl (ap (block_line b) is))
block-there (e ∷ bs) b d (inr i) = let s = block-there bs (b + 1) d i in (s.0, inr s.1)

control-line : (cs : List CtlDef) (k x : ℕ) (l : named.Line) → Among l (control_lines k x cs) → (c : CtlDef) × (n m : ℕ) × Among c cs × (l ≡ control_line n m c)
control-line [] k x l i = absurd i
control-line (c ∷ cs) k x l (inl e) = (c, k, x, inl refl, e)
control-line (c ∷ cs) k x l (inr i) = let s = control-line cs (k + 1) (x + length (parameters c)) l i in (s.0, s.1, s.2, inr s.3, s.4)

control-there-line : (cs : List CtlDef) (k x : ℕ) (c : CtlDef) → Among c cs → (n m : ℕ) × Among (control_line n m c) (control_lines k x cs)
control-there-line [] k x c i = absurd i
control-there-line (d ∷ cs) k x c (inl e) = (k, x, inl (ap (control_line k x) e))
control-there-line (d ∷ cs) k x c (inr i) = let s = control-there-line cs (k + 1) (x + length (parameters d)) c i in (s.0, s.1, inr s.2)

names-there : (c : Config) (l : named.Line) (n : Named) → Among l (model_lines c) → Among n l.names → Among n (names_in c l.domain)
names-there c l n i j = spread (λ (m : named.Line). m.names) l n (filter (λ (m : named.Line). bytes_eq m.domain l.domain) (in_order (model_lines c)))
    (kept (λ (m : named.Line). bytes_eq m.domain l.domain) l (in_order (model_lines c)) (ordered (model_lines c) l i) (octets_equal l.domain l.domain refl)) j

module _ (told : List Line) where
  abbrev c : Config
  c = config_of told

  abbrev group_of : SgDef → named.Line
  group_of g = group_line (domain_number c g.domain) g

  -- an item of a line
  pub record IsLineName (domain : List ℕ) (n : Named) : Type 0 where
    pub line : Line
    pub there : Among line told
    pub domain_is : domain_in line ≡ domain
    pub item : Among n.item (items line)
    pub form : HasForm line n

  -- the name of a logical node
  pub record IsHead (domain : List ℕ) (n : Named) : Type 0 where
    pub node : LnDef
    pub there : Among node c.nodes
    pub is : n.item ≡ node.ln

  abbrev Is : List ℕ → Named → Type 0
  Is domain n = IsHead domain n ⊎ IsLineName domain n

  listed : (n : Named) (ns : List Named) (all : List (List ℕ)) → named_items ns ≡ all → Among n ns → Among n.item all
  listed n ns all e i = subst (Among n.item) e (mapped (λ (m : Named). m.item) n ns i)

  of-node : (domain : List ℕ) (l : named.Line) (n : Named) → Among l (map node_line c.nodes) → Among n l.names → Is domain n
  of-node domain l n i j = let s = source node_line l c.nodes i in by s.0 s.1 (subst (λ (x : named.Line). Among n x.names) s.2 j)
    where
      by : (m : LnDef) → Among m c.nodes → Among n (structure_named m.ln several ∷ []) → Is domain n
      by m k (inl e) = inl (record { node = m; there = k; is = ap (λ (x : Named). x.item) e })
      by m k (inr k') = absurd k'

  of-attribute : (domain : List ℕ) (l : named.Line) (n : Named) → IsAttributeLine c.attrs 0 l → l.domain ≡ domain → Among n l.names → Is domain n
  of-attribute domain l n h d j = inr (record {
    line = lines.Attr h.attr;
    there = attr-told told h.attr (at-among h.at h.attr c.attrs h.there);
    domain_is = sym (ap (λ (x : named.Line). x.domain) h.is) ∙ d;
    form = attribute-form (0 + h.at) h.twin h.attr n (subst (λ (x : named.Line). Among n x.names) h.is j);
    item = listed n (attribute_names (0 + h.at) h.twin h.attr) (items (lines.Attr h.attr)) (attribute-items (0 + h.at) h.twin h.attr) (subst (λ (x : named.Line). Among n x.names) h.is j);
  })

  of-block : (domain : List ℕ) (l : named.Line) (n : Named) → (d : BlockDef) × (k : ℕ) × Among d c.blocks × (l ≡ block_line k d) → l.domain ≡ domain → Among n l.names → Is domain n
  of-block domain l n h d j = inr (record {
    line = lines.Brcb h.0;
    there = block-told told h.0 h.2;
    domain_is = sym (ap (λ (x : named.Line). x.domain) h.3) ∙ d;
    form = block-form h.1 h.0 n (subst (λ (x : named.Line). Among n x.names) h.3 j);
    item = inr (listed n (block_names h.1 (path_item h.0.ln (codes "BR") h.0.name)) (map (within (path_item h.0.ln (codes "BR") h.0.name)) block_parts) (block-items h.1 (path_item h.0.ln (codes "BR") h.0.name)) (subst (λ (x : named.Line). Among n x.names) h.3 j));
  })

  of-control : (domain : List ℕ) (l : named.Line) (n : Named) → (k : CtlDef) × (x y : ℕ) × Among k c.controls × (l ≡ control_line x y k) → l.domain ≡ domain → Among n l.names → Is domain n
  of-control domain l n h d j = inr (record {
    line = lines.Ctl h.0;
    there = control-told told h.0 h.3;
    domain_is = sym (ap (λ (x : named.Line). x.domain) h.4) ∙ d;
    form = control-form h.1 h.2 h.0 n (subst (λ (x : named.Line). Among n x.names) h.4 j);
    item = control-there h.1 h.2 h.0 n.item (mapped (λ (m : Named). m.item) n (control_line h.1 h.2 h.0).names (subst (λ (x : named.Line). Among n x.names) h.4 j));
  })

  of-groups : (domain : List ℕ) (l : named.Line) (n : Named) → (g : SgDef) × Among g c.groups × (l ≡ group_of g) → l.domain ≡ domain → Among n l.names → Is domain n
  of-groups domain l n h d j = inr (record {
    line = lines.Sgcb h.0;
    there = groups-told told h.0 h.1;
    domain_is = sym (ap (λ (x : named.Line). x.domain) h.2) ∙ d;
    form = group-form (domain_number c h.0.domain) h.0 n (subst (λ (x : named.Line). Among n x.names) h.2 j);
    item = inr (listed n (setting_names (domain_number c h.0.domain)) (map (within (codes "LLN0$SP$SGCB")) group_parts) (group-items (domain_number c h.0.domain)) (subst (λ (x : named.Line). Among n x.names) h.2 j));
  })

  of-line : (domain : List ℕ) (l : named.Line) (n : Named) → Among l (model_lines c) → l.domain ≡ domain → Among n l.names → Is domain n
  of-line domain l n i d j = first (either l (map node_line c.nodes) _ i)
    where
      fourth : Among l (control_lines 0 (length c.attrs) c.controls) ⊎ Among l (map group_of c.groups) → Is domain n
      fourth (inl k) = of-control domain l n (control-line c.controls 0 (length c.attrs) l k) d j
      fourth (inr k) = of-groups domain l n (source group_of l c.groups k) d j

      third : Among l (block_lines 0 c.blocks) ⊎ Among l (control_lines 0 (length c.attrs) c.controls ++ map group_of c.groups) → Is domain n
      third (inl k) = of-block domain l n (block-line c.blocks 0 l k) d j
      third (inr k) = fourth (either l (control_lines 0 (length c.attrs) c.controls) _ k)

      second : Among l (attribute_lines 0 (length c.attrs + length (generated c)) c.attrs) ⊎ Among l (block_lines 0 c.blocks ++ (control_lines 0 (length c.attrs) c.controls ++ map group_of c.groups)) → Is domain n
      second (inl k) = of-attribute domain l n (attribute-line c.attrs 0 _ l k) d j
      second (inr k) = third (either l (block_lines 0 c.blocks) _ k)

      first : Among l (map node_line c.nodes) ⊎ Among l (attribute_lines 0 (length c.attrs + length (generated c)) c.attrs ++ (block_lines 0 c.blocks ++ (control_lines 0 (length c.attrs) c.controls ++ map group_of c.groups))) → Is domain n
      first (inl k) = of-node domain l n k j
      first (inr k) = second (either l (attribute_lines 0 (length c.attrs + length (generated c)) c.attrs) _ k)

  pub named-told : (domain : List ℕ) (n : Named) → Among n (names_in c domain) → IsHead domain n ⊎ IsLineName domain n
  named-told domain n i =
      let g = gathered (λ (l : named.Line). l.names) n (filter (λ (l : named.Line). bytes_eq l.domain domain) (in_order (model_lines c))) i in
      let p = passed (λ (l : named.Line). bytes_eq l.domain domain) g.0 (in_order (model_lines c)) g.1 in
      of-line domain g.0 n (from-ordered (model_lines c) g.0 p.0) (octets_same g.0.domain domain p.1) g.2

  -- ---- and back

  -- what is named at an item or below it
  pub record IsBelow (domain item : List ℕ) : Type 0 where
    pub name : Named
    pub there : Among name (names_in c domain)
    pub front : IsFront item name.item

  -- what is named at an item
  pub record IsExact (domain item : List ℕ) : Type 0 where
    pub name : Named
    pub there : Among name (names_in c domain)
    pub is : name.item ≡ item

  from-line : (l : named.Line) (item : List ℕ) → Among l (model_lines c) → Among item (named_items l.names) → IsExact l.domain item
  from-line l item i j = let s = source (λ (m : Named). m.item) item l.names j in record { name = s.0; there = names-there c l s.0 i s.1; is = sym s.2 }

  just : (domain item : List ℕ) → IsExact domain item → IsBelow domain item
  just domain item e = record { name = e.name; there = e.there; front = inl e.is }

  attribute-there : (a : AttrDef) (item : List ℕ) → Among (lines.Attr a) told → Among item (items (lines.Attr a)) → IsExact a.domain item
  attribute-there a item i j =
      let at = among-at a c.attrs (attr-in told a i) in
      let l = line-of c.attrs 0 (length c.attrs + length (generated c)) at.0 a at.1 in
      from-line (attribute_line (0 + at.0) l.0 a) item (right _ (map node_line c.nodes) _ (left _ (attribute_lines 0 (length c.attrs + length (generated c)) c.attrs) _ l.1))
      (subst (Among item) (sym (attribute-items (0 + at.0) l.0 a)) j)

  block-names-there : (b : BlockDef) (item : List ℕ) → Among (lines.Brcb b) told → Among item (items (lines.Brcb b)) → IsBelow b.domain item
  block-names-there b item i j = let l = block-there c.blocks 0 b (block-in told b i) in by l.0 (right _ (map node_line c.nodes) _ (right _ (attribute_lines 0 (length c.attrs + length (generated c)) c.attrs) _ (left _ (block_lines 0 c.blocks) _ l.1))) j
    where
      by : (k : ℕ) → Among (block_line k b) (model_lines c) → Among item (with_items (path_item b.ln (codes "BR") b.name) block_parts) → IsBelow b.domain item
      by k l (inl e) = let s = source (λ (m : Named). m.item) (within (path_item b.ln (codes "BR") b.name) (codes "RptID")) (block_line k b).names (inl refl) in
          record { name = s.0; there = names-there c (block_line k b) s.0 l s.1; front = inr (codes "RptID", sym s.2 ∙ ap (λ x. within x (codes "RptID")) (sym e)) }
      by k l (inr m) = just b.domain item (from-line (block_line k b) item l m)

  control-names-there : (k : CtlDef) (item : List ℕ) → Among (lines.Ctl k) told → Among item (items (lines.Ctl k)) → IsExact k.domain item
  control-names-there k item i j = let l = control-there-line c.controls 0 (length c.attrs) k (control-in told k i) in
      from-line (control_line l.0 l.1 k) item
      (right _ (map node_line c.nodes) _ (right _ (attribute_lines 0 (length c.attrs + length (generated c)) c.attrs) _ (right _ (block_lines 0 c.blocks) _ (left _ (control_lines 0 (length c.attrs) c.controls) _ l.2))))
      (control-back l.0 l.1 k item j)

  group-names-there : (g : SgDef) (item : List ℕ) → Among (lines.Sgcb g) told → Among item (items (lines.Sgcb g)) → IsBelow g.domain item
  group-names-there g item i j = by (right _ (map node_line c.nodes) _ (right _ (attribute_lines 0 (length c.attrs + length (generated c)) c.attrs) _ (right _ (block_lines 0 c.blocks) _ (right _ (control_lines 0 (length c.attrs) c.controls) _ (mapped group_of g c.groups (groups-in told g i)))))) j
    where
      by : Among (group_of g) (model_lines c) → Among item (with_items (codes "LLN0$SP$SGCB") group_parts) → IsBelow g.domain item
      by l (inl e) = let s = source (λ (m : Named). m.item) (within (codes "LLN0$SP$SGCB") (codes "NumOfSG")) (group_of g).names (inl refl) in
          record { name = s.0; there = names-there c (group_of g) s.0 l s.1; front = inr (codes "NumOfSG", sym s.2 ∙ ap (λ x. within x (codes "NumOfSG")) (sym e)) }
      by l (inr m) = just g.domain item (from-line (group_of g) item l m)

  pub told-named : (line : Line) (item : List ℕ) → Among line told → Among item (items line) → IsBelow (domain_in line) item
  told-named (lines.Attr a) item i j = just a.domain item (attribute-there a item i j)
  told-named (lines.Brcb b) item i j = block-names-there b item i j
  told-named (lines.Ctl k) item i j = just k.domain item (control-names-there k item i j)
  told-named (lines.Sgcb g) item i j = group-names-there g item i j
  told-named line item i j = absurd j

  pub leaf-named : (line : Line) (item : List ℕ) → Among line told → Among item (leaf_items line) → IsExact (domain_in line) item
  leaf-named (lines.Attr a) item i j = attribute-there a item i (left item (leaf_items (lines.Attr a)) (closed_items (lines.Attr a)) j)
  leaf-named (lines.Ctl k) item i j = control-names-there k item i (left item (leaf_items (lines.Ctl k)) (closed_items (lines.Ctl k)) j)
  leaf-named line item i j = absurd j
