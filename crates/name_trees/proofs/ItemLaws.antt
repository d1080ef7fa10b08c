-- The items of a line below its domain: those of nodes that a data set may have, and those of nodes that none may have; they are
-- what the lines take and what the model's lines name.
use Rattle.std.proofs.Common.{◌≡◌, ℕ, ◌+◌, ◌==◌, ◌||◌, ◌⊎◌, inl, inr, Bool, true, false, List, [], ◌∷◌, ◌++◌, map, refl, sym, ap, ap₂, subst, ◌∙◌, append_assoc, arith, if◌then◌else◌}
use Rattle.std.specs.Prelude.{codes}
use Rattle.std.proofs.lemmas.Bool.Decides.{nat_tests}
use Rattle.std.proofs.lemmas.List.{map-append}
use Rattle.sv_base.specs.declared.config.AttrDef.{AttrDef}
use Rattle.sv_base.specs.declared.config.CtlDef.{CtlDef}
use Rattle.bay_model.specs.Generated.{Named, within, end_named, block_names, setting_names, control_names, sbo_names, sbow_names, oper_names, cancel_names, is_selected, parameters, parameter_names, selection}
use Rattle.bay_model.specs.Model.{attribute}
use Rattle.bay_model.specs.NamedLines.{is_setting, path_item, attribute_names}
use Rattle.cfg_lines.specs.Paths.{below, item_key}
use Rattle.cfg_lines.specs.Claims.{operations, settings}
use Rattle.cfg_lines.specs.Nodes.{leaves_by, closed_by, setting_leaf, block_parts, group_parts, operation_parts, all_below, with_parts, operations_below}
use Rattle.cfg_lines.specs.declared.leaf.Leaf.{Leaf}
use Rattle.cfg_lines.specs.declared.line.Line.{Line}
use Rattle.cfg_lines.specs.declared.line.Line.TheVariants as lines
use Rattle.list_laws.proofs.Among.{Among, left, right, either}

abbrev pub domain_in : Line → List ℕ
domain_in (lines.Attr attr) = attr.domain
domain_in (lines.Brcb block) = block.domain
domain_in (lines.Ctl control) = control.domain
domain_in (lines.Sgcb groups) = groups.domain
domain_in line = []

abbrev pub with_items : List ℕ → List (List ℕ) → List (List ℕ)
with_items item parts = item ∷ map (within item) parts

abbrev pub operation_items : List ℕ → List (List ℕ) → List (List ℕ)
operation_items item [] = []
operation_items item (name ∷ names) = with_items (within item name) (operation_parts name) ++ operation_items item names

abbrev pub leaf_items : Line → List (List ℕ)
leaf_items (lines.Attr attr) = path_item attr.ln attr.fc attr.path ∷ []
leaf_items (lines.Ctl control) = map (within (path_item control.ln (codes "CF") control.path)) (settings control.model)
leaf_items line = []

abbrev pub closed_items : Line → List (List ℕ)
closed_items (lines.Attr attr) = if is_setting attr then path_item attr.ln (codes "SE") attr.path ∷ [] else []
closed_items (lines.Brcb block) = with_items (path_item block.ln (codes "BR") block.name) block_parts
closed_items (lines.Ctl control) = operation_items (path_item control.ln (codes "CO") control.path) (operations control.model)
closed_items (lines.Sgcb groups) = with_items (codes "LLN0$SP$SGCB") group_parts
closed_items line = []

abbrev pub items : Line → List (List ℕ)
items line = leaf_items line ++ closed_items line

-- ---- the references of the items

abbrev pub key : List ℕ → List ℕ → List ℕ
key domain item = domain ++ 47 ∷ item

pub key-within : (d x y : List ℕ) → key d (within x y) ≡ below (key d x) y
key-within d x y = sym (append_assoc d (47 ∷ x) (36 ∷ y))

pub key-path : (d ln fc path : List ℕ) → key d (path_item ln fc path) ≡ item_key d ln fc path
key-path d ln fc path = key-within d (within ln fc) path ∙ ap (λ x. below x path) (key-within d ln fc)

keys-below : (d x front : List ℕ) (parts : List (List ℕ)) → key d x ≡ front → all_below front parts ≡ map (key d) (map (within x) parts)
keys-below d x front [] e = refl
keys-below d x front (part ∷ parts) e = ap₂ (λ a b. a ∷ b) (ap (λ f. below f part) (sym e) ∙ sym (key-within d x part)) (keys-below d x front parts e)

keys-with : (d x front : List ℕ) (parts : List (List ℕ)) → key d x ≡ front → with_parts front parts ≡ map (key d) (with_items x parts)
keys-with d x front parts e = ap₂ (λ a b. a ∷ b) (sym e) (keys-below d x front parts e)

keys-operations : (d x front : List ℕ) (names : List (List ℕ)) → key d x ≡ front → operations_below front names ≡ map (key d) (operation_items x names)
keys-operations d x front [] e = refl
keys-operations d x front (name ∷ names) e =
    ap₂ (λ a b. a ++ b) (keys-with d (within x name) (below front name) (operation_parts name) (key-within d x name ∙ ap (λ f. below f name) e)) (keys-operations d x front names e)
    ∙ sym (map-append (key d) (with_items (within x name) (operation_parts name)) (operation_items x names))

keys-settings : (d x front : List ℕ) (parts : List (List ℕ)) → key d x ≡ front → map (λ (leaf : Leaf). leaf.name) (map (setting_leaf front) parts) ≡ map (key d) (map (within x) parts)
keys-settings d x front [] e = refl
keys-settings d x front (part ∷ parts) e = ap₂ (λ a b. a ∷ b) (ap (λ f. below f part) (sym e) ∙ sym (key-within d x part)) (keys-settings d x front parts e)

pub leaf-keys : (line : Line) → map (λ (leaf : Leaf). leaf.name) (leaves_by line) ≡ map (key (domain_in line)) (leaf_items line)
leaf-keys (lines.Attr attr) = ap (λ x. x ∷ []) (sym (key-path attr.domain attr.ln attr.fc attr.path))
leaf-keys (lines.Ctl control) = keys-settings control.domain (path_item control.ln (codes "CF") control.path) (item_key control.domain control.ln (codes "CF") control.path) (settings control.model)
    (key-path control.domain control.ln (codes "CF") control.path)
leaf-keys line = refl

pub closed-keys : (line : Line) → closed_by line ≡ map (key (domain_in line)) (closed_items line)
closed-keys (lines.Attr attr) = by (is_setting attr)
  where
    by : (b : Bool) → (if b then item_key attr.domain attr.ln (codes "SE") attr.path ∷ [] else []) ≡ map (key attr.domain) (if b then path_item attr.ln (codes "SE") attr.path ∷ [] else [])
    by true = ap (λ x. x ∷ []) (sym (key-path attr.domain attr.ln (codes "SE") attr.path))
    by false = refl
closed-keys (lines.Brcb block) = keys-with block.domain (path_item block.ln (codes "BR") block.name) (item_key block.domain block.ln (codes "BR") block.name) block_parts (key-path block.domain block.ln (codes "BR") block.name)
closed-keys (lines.Ctl control) = keys-operations control.domain (path_item control.ln (codes "CO") control.path) (item_key control.domain control.ln (codes "CO") control.path) (operations control.model)
    (key-path control.domain control.ln (codes "CO") control.path)
closed-keys (lines.Sgcb groups) = keys-with groups.domain (codes "LLN0$SP$SGCB") (item_key groups.domain (codes "LLN0") (codes "SP") (codes "SGCB")) group_parts (key-path groups.domain (codes "LLN0") (codes "SP") (codes "SGCB"))
closed-keys line = refl

-- ---- what the model's lines name

abbrev pub named_items : List Named → List (List ℕ)
named_items ns = map (λ (n : Named). n.item) ns

pub attribute-items : (x twin : ℕ) (attr : AttrDef) → named_items (attribute_names x twin attr) ≡ items (lines.Attr attr)
attribute-items x twin attr = by (is_setting attr)
  where
    by : (b : Bool) → named_items (end_named (path_item attr.ln attr.fc attr.path) (attribute x) attr.kind ∷ (if b then end_named (path_item attr.ln (codes "SE") attr.path) (attribute twin) attr.kind ∷ [] else []))
        ≡ path_item attr.ln attr.fc attr.path ∷ (if b then path_item attr.ln (codes "SE") attr.path ∷ [] else [])
    by true = refl
    by false = refl

pub block-items : (b : ℕ) (item : List ℕ) → named_items (block_names b item) ≡ map (within item) block_parts
block-items b item = refl

pub group-items : (d : ℕ) → named_items (setting_names d) ≡ map (within (codes "LLN0$SP$SGCB")) group_parts
group-items d = refl

-- parts in another order
pub turned : {X : Type 0} (x : X) (a b c : List X) → Among x (a ++ (b ++ c)) → Among x (b ++ (a ++ c))
turned x a b c i = first (either x a (b ++ c) i)
  where
    second : Among x b ⊎ Among x c → Among x (b ++ (a ++ c))
    second (inl j) = left x b (a ++ c) j
    second (inr j) = right x b (a ++ c) (right x a c j)

    first : Among x a ⊎ Among x (b ++ c) → Among x (b ++ (a ++ c))
    first (inl j) = right x b (a ++ c) (left x a c j)
    first (inr j) = second (either x b c j)

pub not-both : (n : ℕ) → (n == 2) ≡ true → (n == 4) ≡ true → ⊥
not-both n e f = grind (arith, nat_tests)

abbrev pub settings_by : Bool → Bool → List (List ℕ)
settings_by two four = if two then codes "ctlModel" ∷ codes "sboTimeout" ∷ codes "sboClass" ∷ [] else if four then codes "ctlModel" ∷ codes "sboTimeout" ∷ codes "sboClass" ∷ [] else codes "ctlModel" ∷ []

setting-items : (x : ℕ) (item : List ℕ) (control : CtlDef) → named_items (parameter_names x item (parameters control)) ≡ map (within item) (settings control.model)
setting-items x item control = by (control.model == 2) (control.model == 4)
  where
    by : (two four : Bool) → within item (codes "ctlModel") ∷ named_items (parameter_names (x + 1) item (if two || four then selection control else [])) ≡ map (within item) (settings_by two four)
    by true four = refl
    by false true = refl
    by false false = refl

-- what stands under CO, by the model
abbrev pub oper : List ℕ → List (List ℕ)
oper item = with_items (within item (codes "Oper")) (operation_parts (codes "Oper"))

abbrev pub operations_by : Bool → Bool → List (List ℕ)
operations_by two four = if two then codes "Oper" ∷ codes "SBO" ∷ codes "Cancel" ∷ [] else if four then codes "Oper" ∷ codes "SBOw" ∷ codes "Cancel" ∷ [] else codes "Oper" ∷ []

abbrev pub sbo_part : Bool → List ℕ → List (List ℕ)
sbo_part two item = if two then within item (codes "SBO") ∷ [] else []

abbrev pub sbow_part : Bool → List ℕ → List (List ℕ)
sbow_part four item = if four then with_items (within item (codes "SBOw")) (operation_parts (codes "SBOw")) else []

abbrev pub cancel_part : Bool → List ℕ → List (List ℕ)
cancel_part selected item = if selected then with_items (within item (codes "Cancel")) (operation_parts (codes "Cancel")) else []

abbrev pub control_part : Bool → Bool → List ℕ → List (List ℕ)
control_part two four item = sbo_part two item ++ (sbow_part four item ++ (oper item ++ cancel_part (two || four) item))

named-if : (b : Bool) (ns : List Named) → named_items (if b then ns else []) ≡ (if b then named_items ns else [])
named-if true ns = refl
named-if false ns = refl

named-both : (a b : List Named) (x y : List (List ℕ)) → named_items a ≡ x → named_items b ≡ y → named_items (a ++ b) ≡ x ++ y
named-both a b x y e f = map-append (λ (n : Named). n.item) a b ∙ ap₂ (λ p q. p ++ q) e f

pub control-items : (k : ℕ) (control : CtlDef) (item : List ℕ) → named_items (control_names k control item) ≡ control_part (control.model == 2) (control.model == 4) item
control-items k control item =
    named-both (sbo_names k control item) _ _ _ (named-if (control.model == 2) _)
    (named-both (sbow_names k control item) _ _ _ (named-if (control.model == 4) _)
    (named-both (oper_names k control item) (cancel_names k control item) _ _ refl (named-if (is_selected control) _)))

pub operations-there : (two four : Bool) (item x : List ℕ) → (two ≡ true → four ≡ true → ⊥) → Among x (control_part two four item) → Among x (operation_items item (operations_by two four))
operations-there true true item x h i = absurd (h refl refl)
operations-there true false item x h i = turned x (sbo_part true item) (oper item) (cancel_part true item) i
operations-there false true item x h i = turned x (sbow_part true item) (oper item) (cancel_part true item) i
operations-there false false item x h i = i

operations-back : (two four : Bool) (item x : List ℕ) → (two ≡ true → four ≡ true → ⊥) → Among x (operation_items item (operations_by two four)) → Among x (control_part two four item)
operations-back true true item x h i = absurd (h refl refl)
operations-back true false item x h i = turned x (oper item) (sbo_part true item) (cancel_part true item) i
operations-back false true item x h i = turned x (oper item) (sbow_part true item) (cancel_part true item) i
operations-back false false item x h i = i

abbrev pub control_all : ℕ → ℕ → CtlDef → List Named
control_all k x control = control_names k control (path_item control.ln (codes "CO") control.path) ++ parameter_names x (path_item control.ln (codes "CF") control.path) (parameters control)

control-all : (k x : ℕ) (control : CtlDef) → named_items (control_all k x control) ≡ control_part (control.model == 2) (control.model == 4) (path_item control.ln (codes "CO") control.path) ++ leaf_items (lines.Ctl control)
control-all k x control = named-both (control_names k control (path_item control.ln (codes "CO") control.path)) (parameter_names x (path_item control.ln (codes "CF") control.path) (parameters control)) _ _
    (control-items k control (path_item control.ln (codes "CO") control.path)) (setting-items x (path_item control.ln (codes "CF") control.path) control)

pub control-there : (k x : ℕ) (control : CtlDef) (i : List ℕ) → Among i (named_items (control_all k x control)) → Among i (items (lines.Ctl control))
control-there k x control i j = by (either i _ (leaf_items (lines.Ctl control)) (subst (Among i) (control-all k x control) j))
  where
    by : Among i (control_part (control.model == 2) (control.model == 4) (path_item control.ln (codes "CO") control.path)) ⊎ Among i (leaf_items (lines.Ctl control)) → Among i (items (lines.Ctl control))
    by (inl m) = right i (leaf_items (lines.Ctl control)) _ (operations-there (control.model == 2) (control.model == 4) (path_item control.ln (codes "CO") control.path) i (not-both control.model) m)
    by (inr m) = left i (leaf_items (lines.Ctl control)) _ m

pub control-back : (k x : ℕ) (control : CtlDef) (i : List ℕ) → Among i (items (lines.Ctl control)) → Among i (named_items (control_all k x control))
control-back k x control i j = subst (Among i) (sym (control-all k x control)) (by (either i (leaf_items (lines.Ctl control)) (closed_items (lines.Ctl control)) j))
  where
    front : List (List ℕ)
    front = control_part (control.model == 2) (control.model == 4) (path_item control.ln (codes "CO") control.path)

    by : Among i (leaf_items (lines.Ctl control)) ⊎ Among i (closed_items (lines.Ctl control)) → Among i (front ++ leaf_items (lines.Ctl control))
    by (inl m) = right i front (leaf_items (lines.Ctl control)) m
    by (inr m) = left i front (leaf_items (lines.Ctl control)) (operations-back (control.model == 2) (control.model == 4) (path_item control.ln (codes "CO") control.path) i (not-both control.model) m)
