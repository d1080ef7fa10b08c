-- What a line of the model names is a leaf of the line, with its octets, or what no data set may have.
use Rattle.std.proofs.Common.{◌≡◌, ℕ, ◌+◌, ◌==◌, ◌||◌, ◌⊎◌, inl, inr, Bool, true, false, List, [], ◌∷◌, map, refl, sym, ap, subst, ◌∙◌, if◌then◌else◌}
use Rattle.std.specs.Prelude.{codes, pos}
use Rattle.sv_base.specs.declared.config.AttrDef.{AttrDef}
use Rattle.sv_base.specs.declared.config.BlockDef.{BlockDef}
use Rattle.sv_base.specs.declared.config.CtlDef.{CtlDef}
use Rattle.sv_base.specs.declared.config.SgDef.{SgDef}
use Rattle.sv_base.specs.declared.types.TypeOf.TheVariants as types
use Rattle.sv_base.specs.declared.value.Value.TheVariants as kinds
use Rattle.bay_model.specs.Model.{attribute}
use Rattle.sv_base.specs.ComponentTable.{setting_components}
use Rattle.bay_model.specs.Generated.{Named, within, end_named, block_names, setting_named, setting_names, control_names, parameters, parameter_names, Parameter, selection}
use Rattle.bay_model.specs.NamedLines.{is_setting, path_item, attribute_names}
use Rattle.bay_model.specs.Places.{largest, is_data_role}
use Rattle.text_words.specs.Grammar.{IsType}
use Rattle.cfg_lines.specs.Paths.{below, item_key}
use Rattle.cfg_lines.specs.Claims.{settings}
use Rattle.cfg_lines.specs.Sizes.{most_octets}
use Rattle.cfg_lines.specs.Nodes.{leaves_by, setting_leaf, setting_octets, block_parts, group_parts}
use Rattle.cfg_lines.specs.declared.leaf.Leaf.{Leaf}
use Rattle.cfg_lines.specs.declared.line.Line.{Line}
use Rattle.cfg_lines.specs.declared.line.Line.TheVariants as lines
use Rattle.list_laws.proofs.Among.{Among, either, mapped, source}
use Rattle.text_configs.proofs.ValueLaws.{largest-counted}
use Rattle.name_trees.proofs.ItemLaws.{domain_in, key, key-within, key-path, leaf_items, closed_items, named_items, settings_by, operations-there, not-both, control-items, control_all, block-items, group-items}

abbrev pub IsTyped : Line → Type 0
IsTyped (lines.Attr attr) = IsType attr.kind
IsTyped line = Unit {0}

abbrev pub IsHidden : Line → Named → Type 0
IsHidden (lines.Sgcb groups) n = is_data_role n.role ≡ false
IsHidden line n = Unit {0}

pub record IsLeafOf (line : Line) (n : Named) : Type 0 where
  pub leaf : Leaf
  pub among : Among leaf (leaves_by line)
  pub item : Among n.item (leaf_items line)
  pub name : leaf.name ≡ key (domain_in line) n.item
  pub octets : IsTyped line → leaf.octets ≡ largest n.kind
  pub data_role : is_data_role n.role ≡ true

pub record IsClosedOf (line : Line) (n : Named) : Type 0 where
  pub item : Among n.item (closed_items line)
  pub hidden : IsHidden line n

abbrev pub HasForm : Line → Named → Type 0
HasForm line n = IsLeafOf line n ⊎ IsClosedOf line n

pub attribute-form : (x twin : ℕ) (a : AttrDef) (n : Named) → Among n (attribute_names x twin a) → HasForm (lines.Attr a) n
attribute-form x twin a n i = by (is_setting a) refl i
  where
    leaf_form : n ≡ end_named (path_item a.ln a.fc a.path) (attribute x) a.kind → IsLeafOf (lines.Attr a) n
    leaf_form e = record {
      leaf = record { name = item_key a.domain a.ln a.fc a.path; octets = most_octets a.kind };
      among = inl refl;
      item = inl (ap (λ (m : Named). m.item) e);
      name = sym (ap (λ (m : Named). key a.domain m.item) e ∙ key-path a.domain a.ln a.fc a.path);
      octets = λ t. sym (ap (λ (m : Named). largest m.kind) e ∙ largest-counted a.kind t);
      data_role = ap (λ (m : Named). is_data_role m.role) e;
    }

    by : (b : Bool) → is_setting a ≡ b → Among n (end_named (path_item a.ln a.fc a.path) (attribute x) a.kind ∷ (if b then end_named (path_item a.ln (codes "SE") a.path) (attribute twin) a.kind ∷ [] else [])) → HasForm (lines.Attr a) n
    by b is (inl e) = inl (leaf_form e)
    by true is (inr (inl e)) = inr (record { item = subst (λ t. Among n.item (if t then path_item a.ln (codes "SE") a.path ∷ [] else [])) (sym is) (inl (ap (λ (m : Named). m.item) e)); hidden = tt })
    by true is (inr (inr j)) = absurd j
    by false is (inr j) = absurd j

listed : (n : Named) (ns : List Named) (all : List (List ℕ)) → named_items ns ≡ all → Among n ns → Among n.item all
listed n ns all e i = subst (Among n.item) e (mapped (λ (m : Named). m.item) n ns i)

pub block-form : (k : ℕ) (b : BlockDef) (n : Named) → Among n (block_names k (path_item b.ln (codes "BR") b.name)) → HasForm (lines.Brcb b) n
block-form k b n i = inr (record { item = inr (listed n (block_names k (path_item b.ln (codes "BR") b.name)) (map (within (path_item b.ln (codes "BR") b.name)) block_parts) (block-items k (path_item b.ln (codes "BR") b.name)) i); hidden = tt })

pub group-form : (d : ℕ) (g : SgDef) (n : Named) → Among n (setting_names d) → HasForm (lines.Sgcb g) n
group-form d g n i = let s = source (setting_named d) n setting_components i in
    inr (record { item = inr (listed n (setting_names d) (map (within (codes "LLN0$SP$SGCB")) group_parts) (group-items d) i); hidden = ap (λ (m : Named). is_data_role m.role) s.2 })

-- ---- the settings of a control

pub record IsSetting (control : CtlDef) (p : Parameter) : Type 0 where
  pub name : Among p.name (settings control.model)
  pub octets : setting_octets p.name ≡ largest p.kind

abbrev IsSettingBy : Bool → Bool → Parameter → Type 0
IsSettingBy two four p = Among p.name (settings_by two four) × (setting_octets p.name ≡ largest p.kind)

abbrev head_of : CtlDef → Parameter
head_of c = record { name = codes "ctlModel"; kind = types.Int 8; value = kinds.Int (pos c.model) }

setting-of : (control : CtlDef) (p : Parameter) → Among p (parameters control) → IsSetting control p
setting-of control p i = let f = by (control.model == 2) (control.model == 4) i in record { name = f.0; octets = f.1 }
  where
    first : (two four : Bool) → (codes "ctlModel" ≡ p.name) → setting_octets p.name ≡ largest p.kind → IsSettingBy two four p
    first true four e o = (inl (sym e), o)
    first false true e o = (inl (sym e), o)
    first false false e o = (inl (sym e), o)

    second : (two four : Bool) → (two || four) ≡ true → Among p (selection control) → IsSettingBy two four p
    second true four t (inl e) = (inr (inl (ap (λ (q : Parameter). q.name) e)), ap (λ (q : Parameter). setting_octets q.name) e ∙ sym (ap (λ (q : Parameter). largest q.kind) e))
    second true four t (inr (inl e)) = (inr (inr (inl (ap (λ (q : Parameter). q.name) e))), ap (λ (q : Parameter). setting_octets q.name) e ∙ sym (ap (λ (q : Parameter). largest q.kind) e))
    second true four t (inr (inr j)) = absurd j
    second false true t (inl e) = (inr (inl (ap (λ (q : Parameter). q.name) e)), ap (λ (q : Parameter). setting_octets q.name) e ∙ sym (ap (λ (q : Parameter). largest q.kind) e))
    second false true t (inr (inl e)) = (inr (inr (inl (ap (λ (q : Parameter). q.name) e))), ap (λ (q : Parameter). setting_octets q.name) e ∙ sym (ap (λ (q : Parameter). largest q.kind) e))
    second false true t (inr (inr j)) = absurd j
    second false false t j = absurd cc

    rest : (two four t : Bool) → (two || four) ≡ t → Among p (if t then selection control else []) → IsSettingBy two four p
    rest two four true e j = second two four e j
    rest two four false e j = absurd j

    by : (two four : Bool) → Among p (head_of control ∷ (if two || four then selection control else [])) → IsSettingBy two four p
    by two four (inl e) = first two four (sym (ap (λ (q : Parameter). q.name) e)) (ap (λ (q : Parameter). setting_octets q.name) e ∙ sym (ap (λ (q : Parameter). largest q.kind) e))
    by two four (inr j) = rest two four (two || four) refl j

pub record IsParameter (item : List ℕ) (ps : List Parameter) (n : Named) : Type 0 where
  pub parameter : Parameter
  pub there : Among parameter ps
  pub number : ℕ
  pub is : n ≡ end_named (within item parameter.name) (attribute number) parameter.kind

parameter-of : (x : ℕ) (item : List ℕ) (ps : List Parameter) (n : Named) → Among n (parameter_names x item ps) → IsParameter item ps n
parameter-of x item [] n i = absurd i
parameter-of x item (p ∷ ps) n (inl e) = record { parameter = p; there = inl refl; number = x; is = e }
parameter-of x item (p ∷ ps) n (inr i) = let s = parameter-of (x + 1) item ps n i in record { parameter = s.parameter; there = inr s.there; number = s.number; is = s.is }

pub control-form : (k x : ℕ) (control : CtlDef) (n : Named) → Among n (control_all k x control) → HasForm (lines.Ctl control) n
control-form k x control n i = by (either n (control_names k control (path_item control.ln (codes "CO") control.path)) (parameter_names x (path_item control.ln (codes "CF") control.path) (parameters control)) i)
  where
    front : List ℕ
    front = path_item control.ln (codes "CF") control.path

    leaf_form : IsParameter front (parameters control) n → IsLeafOf (lines.Ctl control) n
    leaf_form p = let s = setting-of control p.parameter p.there in record {
      leaf = setting_leaf (item_key control.domain control.ln (codes "CF") control.path) p.parameter.name;
      among = mapped (setting_leaf (item_key control.domain control.ln (codes "CF") control.path)) p.parameter.name (settings control.model) s.name;
      item = subst (λ y. Among y (map (within front) (settings control.model))) (sym (ap (λ (m : Named). m.item) p.is)) (mapped (within front) p.parameter.name (settings control.model) s.name);
      name = sym (ap (λ (m : Named). key control.domain m.item) p.is ∙ (key-within control.domain front p.parameter.name ∙ ap (λ f. below f p.parameter.name) (key-path control.domain control.ln (codes "CF") control.path)));
      octets = λ t. s.octets ∙ sym (ap (λ (m : Named). largest m.kind) p.is);
      data_role = ap (λ (m : Named). is_data_role m.role) p.is;
    }

    by : Among n (control_names k control (path_item control.ln (codes "CO") control.path)) ⊎ Among n (parameter_names x front (parameters control)) → HasForm (lines.Ctl control) n
    by (inl j) = inr (record {
      item = operations-there (control.model == 2) (control.model == 4) (path_item control.ln (codes "CO") control.path) n.item (not-both control.model)
          (listed n (control_names k control (path_item control.ln (codes "CO") control.path)) _ (control-items k control (path_item control.ln (codes "CO") control.path)) j);
      hidden = tt;
    })
    by (inr j) = inl (leaf_form (parameter-of x front (parameters control) n j))
