-- What a configuration's lines name in a domain.
use Rattle.std.proofs.Common.{◌≡◌, ℕ, zero, suc, ◌+◌, ◌≤◌, Bool, true, false, ◌⊎◌, inl, inr, List, [], ◌∷◌, ◌++◌, map, flat_map, filter, length, refl, sym, ap, ap₂, subst, ◌∙◌, arith, append_assoc, nat_le, if◌then◌else◌}
use Rattle.std.specs.Prelude.{codes}
use Rattle.std.specs.Str.{bytes_eq}
use Rattle.std.proofs.lemmas.List.{length-map}
use Rattle.list_laws.proofs.Distinct.{octets_same, octets_equal}
use Rattle.sv_base.specs.declared.config.Config.{Config}
use Rattle.sv_base.specs.declared.config.LnDef.{LnDef}
use Rattle.sv_base.specs.declared.config.AttrDef.{AttrDef}
use Rattle.sv_base.specs.declared.config.BlockDef.{BlockDef}
use Rattle.sv_base.specs.declared.config.CtlDef.{CtlDef}
use Rattle.sv_base.specs.declared.config.SgDef.{SgDef}
use Rattle.sv_base.specs.declared.components.Comp.{Comp}
use Rattle.sv_base.specs.declared.components.SettingComp.{SettingComp}
use Rattle.bay_model.specs.Model.{attribute, several, component}
use Rattle.bay_model.specs.Generated.{Named, Parameter, within, end_named, structure_named, setting_named, control_names, parameters, parameter_names}
use Rattle.sv_base.specs.ComponentTable.{comp_name, components, setting_components, comp_type}
use Rattle.bay_model.specs.NamedLines.{Line, is_setting, path_item, attribute_names, attribute_line, attribute_lines, node_line, block_line, block_lines, control_line, control_lines, group_line, domain_number, generated, lines, insert_line, in_order, names_in}
use Rattle.bay_model.specs.NameTree.{longest}
use Rattle.list_laws.proofs.Among.{Among, At, at-among, at-left, at-map, left, right, either, source, kept, passed, spread, gathered}
use Rattle.text_configs.proofs.ParameterLaws.{parameter_attr, parameter_attrs, all_attrs, at-either, at-right, at-source}
use Rattle.text_configs.proofs.CommandLaws.{IsWithin, command-within}

-- ---- the order of lines changes nothing
inserted : (l : Line) (ms : List Line) (x : Line) → (x ≡ l) ⊎ Among x ms → Among x (insert_line l ms)
inserted l [] x i = i
inserted l (m ∷ ms) x i = by (nat_le l.line m.line) i (inserted l ms x)
  where
    by : (b : Bool) → (x ≡ l) ⊎ Among x (m ∷ ms) → ((x ≡ l) ⊎ Among x ms → Among x (insert_line l ms)) → Among x (if b then l ∷ m ∷ ms else m ∷ insert_line l ms)
    by true j go = j
    by false (inl e) go = inr (go (inl e))
    by false (inr (inl e)) go = inl e
    by false (inr (inr j)) go = inr (go (inr j))

from-inserted : (l : Line) (ms : List Line) (x : Line) → Among x (insert_line l ms) → (x ≡ l) ⊎ Among x ms
from-inserted l [] x i = i
from-inserted l (m ∷ ms) x i = by (nat_le l.line m.line) i (from-inserted l ms x)
  where
    later : (x ≡ l) ⊎ Among x ms → (x ≡ l) ⊎ Among x (m ∷ ms)
    later (inl e) = inl e
    later (inr j) = inr (inr j)

    by : (b : Bool) → Among x (if b then l ∷ m ∷ ms else m ∷ insert_line l ms) → (Among x (insert_line l ms) → (x ≡ l) ⊎ Among x ms) → (x ≡ l) ⊎ Among x (m ∷ ms)
    by true j go = j
    by false (inl e) go = inr (inl e)
    by false (inr j) go = later (go j)

pub ordered : (ls : List Line) (x : Line) → Among x ls → Among x (in_order ls)
ordered [] x i = i
ordered (l ∷ ls) x (inl e) = inserted l (in_order ls) x (inl e)
ordered (l ∷ ls) x (inr i) = inserted l (in_order ls) x (inr (ordered ls x i))

pub from-ordered : (ls : List Line) (x : Line) → Among x (in_order ls) → Among x ls
from-ordered [] x i = i
from-ordered (l ∷ ls) x i = by (from-inserted l (in_order ls) x i) (from-ordered ls x)
  where
    by : (x ≡ l) ⊎ Among x (in_order ls) → (Among x (in_order ls) → Among x ls) → Among x (l ∷ ls)
    by (inl e) go = inl e
    by (inr j) go = inr (go j)

-- ---- the lines of each kind

-- what an attribute's line names: the attribute, and its edit copy
attribute-name : (x twin : ℕ) (a : AttrDef) (n : Named) → Among n (attribute_names x twin a)
    → (n ≡ end_named (path_item a.ln a.fc a.path) (attribute x) a.kind) ⊎ ((is_setting a ≡ true) × (n ≡ end_named (path_item a.ln (codes "SE") a.path) (attribute twin) a.kind))
attribute-name x twin a n i = by (is_setting a) refl i
  where
    by : (b : Bool) → is_setting a ≡ b → Among n (end_named (path_item a.ln a.fc a.path) (attribute x) a.kind ∷ (if b then end_named (path_item a.ln (codes "SE") a.path) (attribute twin) a.kind ∷ [] else []))
        → (n ≡ end_named (path_item a.ln a.fc a.path) (attribute x) a.kind) ⊎ ((is_setting a ≡ true) × (n ≡ end_named (path_item a.ln (codes "SE") a.path) (attribute twin) a.kind))
    by b e (inl j) = inl j
    by true e (inr (inl j)) = inr (e, j)
    by true e (inr (inr j)) = absurd j
    by false e (inr j) = absurd j

-- attribute x has a line
pub record IsAttributeLine (as_ : List AttrDef) (first : ℕ) (l : Line) : Type 0 where
  pub attr : AttrDef
  pub at : ℕ
  pub twin : ℕ
  pub there : At at attr as_
  pub is : l ≡ attribute_line (first + at) twin attr

pub attribute-line : (as_ : List AttrDef) (x twin : ℕ) (l : Line) → Among l (attribute_lines x twin as_) → IsAttributeLine as_ x l
attribute-line [] x twin l i = absurd i
attribute-line (a ∷ as_) x twin l (inl e) = record { attr = a; at = 0; twin = twin; there = refl; is = e ∙ ap (λ k. attribute_line k twin a) (omega arith) }
attribute-line (a ∷ as_) x twin l (inr i) = let h = attribute-line as_ (x + 1) (if is_setting a then twin + 1 else twin) l i in
    record { attr = h.attr; at = suc h.at; twin = h.twin; there = h.there; is = h.is ∙ ap (λ k. attribute_line k h.twin h.attr) (omega arith) }

pub line-of : (as_ : List AttrDef) (x twin : ℕ) (n : ℕ) (a : AttrDef) → At n a as_ → (t : ℕ) × Among (attribute_line (x + n) t a) (attribute_lines x twin as_)
line-of [] x twin n a h = absurd h
line-of (b ∷ bs) x twin zero a h = (twin, inl (ap (λ k. attribute_line k twin a) (omega arith) ∙ ap (λ c. attribute_line x twin c) h))
line-of (b ∷ bs) x twin (suc n) a h = let s = line-of bs (x + 1) (if is_setting b then twin + 1 else twin) n a h in
    (s.0, inr (subst (λ k. Among (attribute_line k s.0 a) (attribute_lines (x + 1) (if is_setting b then twin + 1 else twin) bs)) (omega arith) s.1))

pub block-line : (bs : List BlockDef) (b : ℕ) (l : Line) → Among l (block_lines b bs) → (d : BlockDef) × (k : ℕ) × Among d bs × (l ≡ block_line k d)
block-line [] b l i = absurd i
block-line (d ∷ ds) b l (inl e) = (d, b, inl refl, e)
block-line (d ∷ ds) b l (inr i) = let s = block-line ds (b + 1) l i in (s.0, s.1, inr s.2, s.3)

-- ---- the lines of controls

-- the parameters of a control are numbered one after another, after those of the controls before it
pub record IsControlLine (ks : List CtlDef) (first : ℕ) (l : Line) : Type 0 where
  pub control : CtlDef
  pub number : ℕ
  pub at : ℕ
  pub there : Among control ks
  pub each : (m : ℕ) (q : AttrDef) → At m q (parameter_attrs control) → At (at + m) q (flat_map parameter_attrs ks)
  pub is : l ≡ control_line number (first + at) control

control-of : (ks : List CtlDef) (k x : ℕ) (l : Line) → Among l (control_lines k x ks) → IsControlLine ks x l
control-of [] k x l i = absurd i
control-of (c ∷ ks) k x l (inl e) = record {
  control = c;
  number = k;
  at = 0;
  there = inl refl;
  each = λ m q h. subst (λ n. At n q (parameter_attrs c ++ flat_map parameter_attrs ks)) (omega arith) (at-left m q (parameter_attrs c) (flat_map parameter_attrs ks) h);
  is = e ∙ ap (λ y. control_line k y c) (omega arith);
}
control-of (c ∷ ks) k x l (inr i) = let h = control-of ks (k + 1) (x + length (parameters c)) l i in record {
  control = h.control;
  number = h.number;
  at = length (parameter_attrs c) + h.at;
  there = inr h.there;
  each = λ m q j. subst (λ n. At n q (parameter_attrs c ++ flat_map parameter_attrs ks)) (omega arith) (at-right (h.at + m) q (parameter_attrs c) (flat_map parameter_attrs ks) (h.each m q j));
  is = h.is ∙ ap (λ y. control_line h.number y h.control) (omega (arith, length-map (parameters c) (parameter_attr c)));
}

parameter-of : (x : ℕ) (item : List ℕ) (ps : List Parameter) (n : Named) → Among n (parameter_names x item ps) → (m : ℕ) × (p : Parameter) × At m p ps × (n ≡ end_named (within item p.name) (attribute (x + m)) p.kind)
parameter-of x item [] n i = absurd i
parameter-of x item (p ∷ ps) n (inl e) = (0, p, refl, e ∙ ap (λ y. end_named (within item p.name) (attribute y) p.kind) (omega arith))
parameter-of x item (p ∷ ps) n (inr i) = let s = parameter-of (x + 1) item ps n i in
    (suc s.0, s.1, s.2, s.3 ∙ ap (λ y. end_named (within item s.1.name) (attribute y) s.1.kind) (omega arith))

parameter-item : (k : CtlDef) (p : Parameter) → within (path_item k.ln (codes "CF") k.path) p.name ≡ path_item k.ln (codes "CF") (k.path ++ 36 ∷ p.name)
parameter-item k p = append_assoc (within k.ln (codes "CF")) (36 ∷ k.path) (36 ∷ p.name)

-- each has a line
parameter-there : (x m : ℕ) (item : List ℕ) (ps : List Parameter) (p : Parameter) → At m p ps → Among (end_named (within item p.name) (attribute (x + m)) p.kind) (parameter_names x item ps)
parameter-there x m item [] p h = absurd h
parameter-there x zero item (q ∷ ps) p h = inl (ap (λ (d : Parameter). end_named (within item d.name) (attribute (x + 0)) d.kind) h ∙ ap (λ y. end_named (within item q.name) (attribute y) q.kind) (omega arith))
parameter-there x (suc m) item (q ∷ ps) p h =
    inr (subst (λ y. Among (end_named (within item p.name) (attribute y) p.kind) (parameter_names (x + 1) item ps)) (omega arith) (parameter-there (x + 1) m item ps p h))

-- the name of attribute x
abbrev attr_named : ℕ → AttrDef → Named
attr_named x a = end_named (path_item a.ln a.fc a.path) (attribute x) a.kind

pub record IsNamedLine (ls : List Line) (x : ℕ) (q : AttrDef) : Type 0 where
  pub line : Line
  pub there : Among line ls
  pub domain_is : line.domain ≡ q.domain
  pub name : Among (attr_named x q) line.names

control-named : (ks : List CtlDef) (k x m : ℕ) (q : AttrDef) → At m q (flat_map parameter_attrs ks) → IsNamedLine (control_lines k x ks) (x + m) q
control-named [] k x m q h = absurd h
control-named (c ∷ ks) k x m q h = by (at-either m q (parameter_attrs c) (flat_map parameter_attrs ks) h) (λ n. control-named ks (k + 1) (x + length (parameters c)) n q)
  where
    own : (p : Parameter) → At m p (parameters c) → q ≡ parameter_attr c p → IsNamedLine (control_line k x c ∷ control_lines (k + 1) (x + length (parameters c)) ks) (x + m) q
    own p i e = record {
      line = control_line k x c;
      there = inl refl;
      domain_is = sym (ap (λ (d : AttrDef). d.domain) e);
      name = subst (λ d. Among (attr_named (x + m) d) (control_line k x c).names) (sym e)
          (right (attr_named (x + m) (parameter_attr c p)) (control_names k c (path_item c.ln (codes "CO") c.path)) (parameter_names x (path_item c.ln (codes "CF") c.path) (parameters c))
          (subst (λ i. Among (end_named i (attribute (x + m)) p.kind) (parameter_names x (path_item c.ln (codes "CF") c.path) (parameters c))) (parameter-item c p)
          (parameter-there x m (path_item c.ln (codes "CF") c.path) (parameters c) p i)));
    }

    by : At m q (parameter_attrs c) ⊎ ((n : ℕ) × (m ≡ length (parameter_attrs c) + n) × At n q (flat_map parameter_attrs ks))
        → ((n : ℕ) → At n q (flat_map parameter_attrs ks) → IsNamedLine (control_lines (k + 1) (x + length (parameters c)) ks) ((x + length (parameters c)) + n) q)
        → IsNamedLine (control_line k x c ∷ control_lines (k + 1) (x + length (parameters c)) ks) (x + m) q
    by (inl i) go = let s = at-source (parameter_attr c) m q (parameters c) i in own s.0 s.1 s.2
    by (inr g) go = let h = go g.0 g.2 in record {
      line = h.line;
      there = inr h.there;
      domain_is = h.domain_is;
      name = subst (λ y. Among (attr_named y q) h.line.names) (omega (arith, g.1, length-map (parameters c) (parameter_attr c))) h.name;
    }

-- ---- what is named in a domain

pub record IsNodeName (c : Config) (n : Named) : Type 0 where
  pub node : LnDef
  pub there : Among node c.nodes
  pub is : n ≡ structure_named node.ln several

pub record IsAttributeName (c : Config) (domain : List ℕ) (n : Named) : Type 0 where
  pub attr : AttrDef
  pub at : ℕ
  pub there : At at attr (all_attrs c)
  pub domain_is : attr.domain ≡ domain
  pub is : n ≡ attr_named at attr

pub record IsComponentName (c : Config) (n : Named) : Type 0 where
  pub block : BlockDef
  pub part : Comp
  pub at : ℕ
  pub there : Among block c.blocks
  pub is : n ≡ end_named (within (path_item block.ln (codes "BR") block.name) (comp_name part)) (component at part) (comp_type part)

-- the edit copy of an attribute under SG
pub record IsTwinName (c : Config) (n : Named) : Type 0 where
  pub attr : AttrDef
  pub twin : ℕ
  pub there : Among attr c.attrs
  pub setting : is_setting attr ≡ true
  pub is : n ≡ end_named (path_item attr.ln (codes "SE") attr.path) (attribute twin) attr.kind

-- a component of the setting group block of the domain
pub record IsPartName (c : Config) (domain : List ℕ) (n : Named) : Type 0 where
  pub groups : SgDef
  pub part : SettingComp
  pub there : Among groups c.groups
  pub domain_is : groups.domain ≡ domain
  pub is : n ≡ setting_named (domain_number c groups.domain) part

-- SBO, or SBOw, Oper or Cancel of a control, or a part of one of these
pub record IsCommandName (c : Config) (n : Named) : Type 0 where
  pub control : CtlDef
  pub there : Among control c.controls
  pub inside : IsWithin (path_item control.ln (codes "CO") control.path) n

-- what is named in a domain
abbrev pub IsOne : Config → List ℕ → Named → Type 0
IsOne c domain n = IsNodeName c n ⊎ (IsAttributeName c domain n ⊎ (IsComponentName c n ⊎ (IsTwinName c n ⊎ (IsCommandName c n ⊎ IsPartName c domain n))))

module _ (c : Config) where
  abbrev Is : List ℕ → Named → Type 0
  Is domain n = IsOne c domain n

  of-node : (domain : List ℕ) (l : Line) (n : Named) → Among l (map node_line c.nodes) → Among n l.names → Is domain n
  of-node domain l n i j = let s = source node_line l c.nodes i in
      by s.0 s.1 (subst (λ (x : Line). Among n x.names) s.2 j)
    where
      by : (m : LnDef) → Among m c.nodes → Among n (structure_named m.ln several ∷ []) → Is domain n
      by m k (inl e) = inl (record { node = m; there = k; is = e })
      by m k (inr k') = absurd k'

  of-attribute : (domain : List ℕ) (l : Line) (n : Named) (first : ℕ) → first ≡ 0 → IsAttributeLine c.attrs first l → l.domain ≡ domain → Among n l.names → Is domain n
  of-attribute domain l n first zero_is h d j = by (attribute-name (first + h.at) h.twin h.attr n (subst (λ (x : Line). Among n x.names) h.is j))
    where
      by : (n ≡ end_named (path_item h.attr.ln h.attr.fc h.attr.path) (attribute (first + h.at)) h.attr.kind) ⊎ ((is_setting h.attr ≡ true) × (n ≡ end_named (path_item h.attr.ln (codes "SE") h.attr.path) (attribute h.twin) h.attr.kind)) → Is domain n
      by (inl e) = inr (inl (record {
        attr = h.attr;
        at = h.at;
        there = at-left h.at h.attr c.attrs (flat_map parameter_attrs c.controls) h.there;
        domain_is = sym (ap (λ (x : Line). x.domain) h.is) ∙ d;
        is = e ∙ ap (λ k. end_named (path_item h.attr.ln h.attr.fc h.attr.path) (attribute k) h.attr.kind) (omega (arith, zero_is));
      }))
      by (inr e) = inr (inr (inr (inl (record { attr = h.attr; twin = h.twin; there = at-among h.at h.attr c.attrs h.there; setting = e.0; is = e.1 }))))

  of-block : (domain : List ℕ) (l : Line) (n : Named) → (d : BlockDef) × (k : ℕ) × Among d c.blocks × (l ≡ block_line k d) → Among n l.names → Is domain n
  of-block domain l n h j = let s = source (λ k. end_named (within (path_item h.0.ln (codes "BR") h.0.name) (comp_name k)) (component h.1 k) (comp_type k)) n components (subst (λ (x : Line). Among n x.names) h.3 j) in
      inr (inr (inl (record { block = h.0; part = s.0; at = h.1; there = h.2; is = s.2 })))

  of-control : (domain : List ℕ) (l : Line) (n : Named) → IsControlLine c.controls (length c.attrs) l → l.domain ≡ domain → Among n l.names → Is domain n
  of-control domain l n h d j = by (either n (control_names h.number k (path_item k.ln (codes "CO") k.path)) (parameter_names x (path_item k.ln (codes "CF") k.path) (parameters k)) (subst (λ (y : Line). Among n y.names) h.is j))
    where
      k : CtlDef
      k = h.control

      x : ℕ
      x = length c.attrs + h.at

      parameter : (m : ℕ) (p : Parameter) → At m p (parameters k) → n ≡ end_named (within (path_item k.ln (codes "CF") k.path) p.name) (attribute (x + m)) p.kind → IsAttributeName c domain n
      parameter m p i e = record {
        attr = parameter_attr k p;
        at = length c.attrs + (h.at + m);
        there = at-right (h.at + m) (parameter_attr k p) c.attrs (flat_map parameter_attrs c.controls) (h.each m (parameter_attr k p) (at-map (parameter_attr k) m p (parameters k) i));
        domain_is = sym (ap (λ (y : Line). y.domain) h.is) ∙ d;
        is = e ∙ ap₂ (λ i y. end_named i (attribute y) p.kind) (parameter-item k p) (omega arith);
      }

      by : Among n (control_names h.number k (path_item k.ln (codes "CO") k.path)) ⊎ Among n (parameter_names x (path_item k.ln (codes "CF") k.path) (parameters k)) → Is domain n
      by (inl i) = inr (inr (inr (inr (inl (record { control = k; there = h.there; inside = command-within h.number k (path_item k.ln (codes "CO") k.path) n i })))))
      by (inr i) = let s = parameter-of x (path_item k.ln (codes "CF") k.path) (parameters k) n i in inr (inl (parameter s.0 s.1 s.2 s.3))

  of-group : (domain : List ℕ) (l : Line) (n : Named) → Among l (map (λ (g : SgDef). group_line (domain_number c g.domain) g) c.groups) → l.domain ≡ domain → Among n l.names → Is domain n
  of-group domain l n i d j =
      let g = source (λ (g : SgDef). group_line (domain_number c g.domain) g) l c.groups i in
      let k = source (setting_named (domain_number c g.0.domain)) n setting_components (subst (λ (x : Line). Among n x.names) g.2 j) in
      inr (inr (inr (inr (inr (record { groups = g.0; part = k.0; there = g.1; domain_is = sym (ap (λ (x : Line). x.domain) g.2) ∙ d; is = k.2 })))))

  of-line : (domain : List ℕ) (l : Line) (n : Named) → Among l (lines c) → l.domain ≡ domain → Among n l.names → Is domain n
  of-line domain l n i d j = first (either l (map node_line c.nodes) _ i)
    where
      fourth : Among l (control_lines 0 (length c.attrs) c.controls) ⊎ Among l (map (λ (g : SgDef). group_line (domain_number c g.domain) g) c.groups) → Is domain n
      fourth (inl k) = of-control domain l n (control-of c.controls 0 (length c.attrs) l k) d j
      fourth (inr k) = of-group domain l n k d j

      third : Among l (block_lines 0 c.blocks) ⊎ Among l (control_lines 0 (length c.attrs) c.controls ++ map (λ (g : SgDef). group_line (domain_number c g.domain) g) c.groups) → Is domain n
      third (inl k) = of-block domain l n (block-line c.blocks 0 l k) j
      third (inr k) = fourth (either l (control_lines 0 (length c.attrs) c.controls) _ k)

      second : Among l (attribute_lines 0 (length c.attrs + length (generated c)) c.attrs) ⊎ Among l (block_lines 0 c.blocks ++ (control_lines 0 (length c.attrs) c.controls ++ map (λ (g : SgDef). group_line (domain_number c g.domain) g) c.groups)) → Is domain n
      second (inl k) = of-attribute domain l n 0 refl (attribute-line c.attrs 0 _ l k) d j
      second (inr k) = third (either l (block_lines 0 c.blocks) _ k)

      first : Among l (map node_line c.nodes) ⊎ Among l (attribute_lines 0 (length c.attrs + length (generated c)) c.attrs ++ (block_lines 0 c.blocks ++ (control_lines 0 (length c.attrs) c.controls ++ map (λ (g : SgDef). group_line (domain_number c g.domain) g) c.groups))) → Is domain n
      first (inl k) = of-node domain l n k j
      first (inr k) = second (either l (attribute_lines 0 (length c.attrs + length (generated c)) c.attrs) _ k)

  pub named-in : (domain : List ℕ) (n : Named) → Among n (names_in c domain) → Is domain n
  named-in domain n i =
      let g = gathered (λ (l : Line). l.names) n (filter (λ (l : Line). bytes_eq l.domain domain) (in_order (lines c))) i in
      let p = passed (λ (l : Line). bytes_eq l.domain domain) g.0 (in_order (lines c)) g.1 in
      of-line domain g.0 n (from-ordered (lines c) g.0 p.0) (octets_same g.0.domain domain p.1) g.2

-- an attribute is named in its domain
module _ (c : Config) (x : ℕ) (a : AttrDef) where
  line-named : IsNamedLine (lines c) x a → Among (attr_named x a) (names_in c a.domain)
  line-named h = spread (λ (l : Line). l.names) h.line (attr_named x a) (filter (λ (l : Line). bytes_eq l.domain a.domain) (in_order (lines c)))
      (kept (λ (l : Line). bytes_eq l.domain a.domain) h.line (in_order (lines c)) (ordered (lines c) h.line h.there) (octets_equal h.line.domain a.domain h.domain_is)) h.name

  of-own : At x a c.attrs → IsNamedLine (lines c) x a
  of-own h = let s = line-of c.attrs 0 (length c.attrs + length (generated c)) x a h in record {
    line = attribute_line (0 + x) s.0 a;
    there = right _ (map node_line c.nodes) _ (left _ (attribute_lines 0 (length c.attrs + length (generated c)) c.attrs) _ s.1);
    domain_is = refl;
    name = inl (ap (λ k. attr_named k a) (omega arith));
  }

  of-parameter : (m : ℕ) → x ≡ length c.attrs + m → At m a (flat_map parameter_attrs c.controls) → IsNamedLine (lines c) x a
  of-parameter m e h = let s = control-named c.controls 0 (length c.attrs) m a h in record {
    line = s.line;
    there = right s.line (map node_line c.nodes) _ (right s.line (attribute_lines 0 (length c.attrs + length (generated c)) c.attrs) _ (right s.line (block_lines 0 c.blocks) _
        (left s.line (control_lines 0 (length c.attrs) c.controls) _ s.there)));
    domain_is = s.domain_is;
    name = subst (λ y. Among (attr_named y a) s.line.names) (sym e) s.name;
  }

  pub attribute-named : At x a (all_attrs c) → Among (end_named (path_item a.ln a.fc a.path) (attribute x) a.kind) (names_in c a.domain)
  attribute-named h = line-named (by (at-either x a c.attrs (flat_map parameter_attrs c.controls) h))
    where
      by : At x a c.attrs ⊎ ((m : ℕ) × (x ≡ length c.attrs + m) × At m a (flat_map parameter_attrs c.controls)) → IsNamedLine (lines c) x a
      by (inl i) = of-own i
      by (inr g) = of-parameter g.0 g.1 g.2

pub within-longest : (ns : List Named) (n : Named) → Among n ns → length n.item ≤ longest ns
within-longest [] n i = absurd i
within-longest (m ∷ ns) n (inl e) = omega (arith, ap (λ (x : Named). length x.item) e)
within-longest (m ∷ ns) n (inr i) = omega (arith, within-longest ns n i)
