-- The types of the attributes of a configuration are those of attributes.
use Rattle.std.proofs.Common.{◌≡◌, Bool, true, false, cond, List, [], ◌∷◌, map, flat_map, filter, sym, ap, subst, ◌∙◌, refl, inl, inr, arith, ℕ, length, if◌then◌else◌}
use Rattle.std.specs.List.{All}
use Rattle.std.proofs.lemmas.List.Elements.{All-append, All-cons, All-nil, All-tail}
use Rattle.sv_base.specs.declared.config.Config.{Config}
use Rattle.sv_base.specs.declared.config.AttrDef.{AttrDef}
use Rattle.sv_base.specs.declared.config.CtlDef.{CtlDef}
use Rattle.bay_model.specs.Generated.{Parameter, parameters, selection, is_selected}
use Rattle.bay_model.specs.NamedLines.{is_setting}
use Rattle.std.specs.Prelude.{codes, pos}
use Rattle.sv_base.specs.declared.types.TypeOf.TheVariants as types
use Rattle.sv_base.specs.declared.value.Value.TheVariants as kinds
use Rattle.bay_rooms.specs.Slots.{IsSettable}
use Rattle.bay_model.specs.declared.tables.NodeRow.{NodeRow}
use Rattle.bay_model.specs.declared.step.Step.{Step}
use Rattle.bay_model.specs.declared.tables.AttrRow.{AttrRow}
use Rattle.name_leaves.specs.Attributes.{attr_rows, types_of}
use Rattle.object_model.proofs.AttributeLaws.{rows-types}
use Rattle.name_tree.specs.Nodes.{node_rows}
use Rattle.object_model.specs.Fits.{attr_types, step_fits, fits}

abbrev IsLine : AttrDef → Type 0
IsLine a = IsSettable a.kind

of_lines : (as_ : List AttrDef) → All IsLine as_ → All IsSettable (map (λ (a : AttrDef). a.kind) as_)
of_lines [] h = All-nil IsSettable
of_lines (a ∷ as_) h = All-cons IsSettable a.kind (map (λ (a : AttrDef). a.kind) as_) (h 0 a (omega arith)) (of_lines as_ (All-tail IsLine a as_ h))

of_settings : (as_ : List AttrDef) → All IsLine as_ → All IsLine (filter is_setting as_)
of_settings [] h = All-nil IsLine
of_settings (a ∷ as_) h = by (is_setting a) (of_settings as_ (All-tail IsLine a as_ h))
  where
    by : (b : Bool) → All IsLine (filter is_setting as_) → All IsLine (cond b (a ∷ filter is_setting as_) (filter is_setting as_))
    by true go = All-cons IsLine a (filter is_setting as_) (h 0 a (omega arith)) go
    by false go = go

of_control : (k : CtlDef) → All IsSettable (map (λ (p : Parameter). p.kind) (parameters k))
of_control k = by (is_selected k)
  where
    by : (b : Bool) → All IsSettable (map (λ (p : Parameter). p.kind) (record { name = codes "ctlModel"; kind = types.Int 8; value = kinds.Int (pos k.model) } ∷ (if b then selection k else [])))
    by true = All-cons IsSettable (types.Int 8) (types.Uint 32 ∷ types.Int 8 ∷ []) (inl refl) (All-cons IsSettable (types.Uint 32) (types.Int 8 ∷ []) (inr (inr (inl refl))) (All-cons IsSettable (types.Int 8) [] (inl refl) (All-nil IsSettable)))
    by false = All-cons IsSettable (types.Int 8) [] (inl refl) (All-nil IsSettable)

of_controls : (ks : List CtlDef) → All IsSettable (flat_map (λ (k : CtlDef). map (λ (p : Parameter). p.kind) (parameters k)) ks)
of_controls [] = All-nil IsSettable
of_controls (k ∷ ks) = All-append IsSettable (map (λ (p : Parameter). p.kind) (parameters k)) (flat_map (λ (k : CtlDef). map (λ (p : Parameter). p.kind) (parameters k)) ks) (of_control k) (of_controls ks)

pub types-settable : (c : Config) → All IsLine c.attrs → All IsSettable (attr_types c)
types-settable c h = All-append IsSettable (map (λ (a : AttrDef). a.kind) c.attrs) _ (of_lines c.attrs h)
    (All-append IsSettable (flat_map (λ (k : CtlDef). map (λ (p : Parameter). p.kind) (parameters k)) c.controls) _ (of_controls c.controls) (of_lines (filter is_setting c.attrs) (of_settings c.attrs h)))

pub settable : (c : Config) (rows : List AttrRow) → rows ≡ attr_rows c → All IsLine c.attrs → All IsSettable (types_of rows)
settable c rows e h = subst (All IsSettable) (sym (ap types_of e ∙ rows-types c)) (types-settable c h)

pub fits-is : (c model : Config) (rows : List NodeRow) (attrs : List AttrRow) (n b k : ℕ) (step : Step) → c ≡ model → rows ≡ node_rows c → attrs ≡ attr_rows c → n ≡ length rows → b ≡ length c.blocks → k ≡ length c.controls
    → step_fits (record { nodes = n; blocks = b; controls = k }) (types_of attrs) step ≡ fits model step
fits-is c model rows attrs n b k step v r t q e f = ap (λ (x : ℕ). step_fits (record { nodes = x; blocks = b; controls = k }) (types_of attrs) step) (q ∙ ap length r)
    ∙ (ap (λ (x : ℕ). step_fits (record { nodes = length (node_rows c); blocks = x; controls = k }) (types_of attrs) step) e
    ∙ (ap (λ (x : ℕ). step_fits (record { nodes = length (node_rows c); blocks = length c.blocks; controls = x }) (types_of attrs) step) f
    ∙ (ap (λ x. step_fits (record { nodes = length (node_rows c); blocks = length c.blocks; controls = length c.controls }) x step) (ap types_of t ∙ rows-types c) ∙ ap (λ m. fits m step) v)))
