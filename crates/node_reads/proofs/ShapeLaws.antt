-- The tree of a node has the shape of its type.
use Rattle.std.proofs.Common.{ℕ, zero, suc, ◌+◌, ◌<◌, ◌==◌, Bool, true, false, cond, not, ◌&&◌, List, [], ◌∷◌, ◌++◌, map, flat_map, filter, length, unwrap_or, slice_get, slice_index_or, Some, arith, nat_le, if◌then◌else◌}
use Rattle.std.specs.Prelude.{codes}
use Rattle.std.specs.Option.{option_map}
use Rattle.std.specs.List.{All, find}
use Rattle.std.specs.Str.{bytes_eq}
use Rattle.std.proofs.lemmas.List.Elements.{All-tail}
use Rattle.list_laws.proofs.Among.{Each, each-both, each-filter}
use Rattle.sv_base.specs.Types.{no_field}
use Rattle.sv_base.specs.Fields.{shape_of}
use Rattle.sv_base.specs.declared.config.Config.{Config}
use Rattle.sv_base.specs.declared.config.LnDef.{LnDef}
use Rattle.sv_base.specs.declared.config.AttrDef.{AttrDef}
use Rattle.sv_base.specs.declared.config.BlockDef.{BlockDef}
use Rattle.sv_base.specs.declared.config.CtlDef.{CtlDef}
use Rattle.sv_base.specs.declared.config.SgDef.{SgDef}
use Rattle.sv_base.specs.declared.types.TypeOf.{TypeOf}
use Rattle.sv_base.specs.declared.types.TypeOf.TheVariants as types
use Rattle.bay_rooms.specs.Slots.{IsSettable}
use Rattle.sv_base.specs.declared.components.Comp.{Comp}
use Rattle.sv_base.specs.declared.components.Comp.TheVariants as comps
use Rattle.sv_base.specs.declared.components.SettingComp.{SettingComp}
use Rattle.sv_base.specs.declared.components.SettingComp.TheVariants.{NumOfSG, ActSG, EditSG, CnfEdit, LActTm}
use Rattle.bay_model.specs.Model as model
use Rattle.bay_model.specs.Model.{Role, Node, Call, single, selecting, calling, several}
use Rattle.sv_base.specs.ComponentTable.{components, comp_name, setting_components, comp_type, setting_comp_type}
use Rattle.bay_model.specs.Generated.{Named, within, setting_named, command_names, sbo_names, sbow_names, oper_names, cancel_names, control_names, is_selected, parameters, selection, parameter_names}
use Rattle.bay_model.specs.NamedLines.{Line, is_setting, path_item, attribute_names, attribute_lines, node_line, block_lines, control_lines, group_line, domain_number, generated, domains, lines, insert_line, in_order, names_in}
use Rattle.bay_model.specs.NameTree.{Forest, nothing, named, first_name, rest_of, is_itself, below, first_names, side_by_side, role_of, own_type, grown, longest, tree_of}
use Rattle.bay_model.specs.Places.{Place, places, node_at, type_with, fields, tree_with, trees}
use Rattle.bay_model.specs.Named.{nodes, places_in, configured_model}
use Rattle.bay_model.specs.Lookups.{node_of}
use Rattle.object_model.specs.Tables.{node_types, node_type}
use Rattle.node_reads.specs.Reading.{HasShape, HaveShapes}

-- ---- what holds of each

pub each-flat : {X Y : Type 0} (P : Y → Type 0) (f : X → List Y) (xs : List X) → Each (λ x. Each P (f x)) xs → Each P (flat_map f xs)
each-flat P f [] a = tt
each-flat P f (x ∷ xs) a = each-both P (f x) (flat_map f xs) a.0 (each-flat P f xs a.1)

-- ---- a name by itself

-- where it has no parts
abbrev IsOwn : Role → TypeOf → Type 0
IsOwn r k = HasShape (tree_with r model.none) (shape_of k)

abbrev IsNamed : Named → Type 0
IsNamed n = IsOwn n.role n.kind

abbrev AreNamed : List Named → Type 0
AreNamed ns = Each IsNamed ns

attribute-own : (x : ℕ) (k : TypeOf) → IsSettable k → IsOwn (single (model.attribute x)) k
attribute-own x types.Bool h = tt
attribute-own x (types.Int w) h = tt
attribute-own x (types.Uint w) h = tt
attribute-own x (types.Bits n) h = tt
attribute-own x types.Time h = tt
attribute-own x types.Stamp h = tt
attribute-own x (types.Text n) h = tt
attribute-own x (types.Octets n) h = tt
attribute-own x types.EntryId h = absurd h
attribute-own x (types.Struct f) h = absurd h

component-own : (b : ℕ) (comp : Comp) → IsOwn (single (model.component b comp)) (comp_type comp)
component-own b comps.RptID = tt
component-own b comps.RptEna = tt
component-own b comps.DatSet = tt
component-own b comps.ConfRev = tt
component-own b comps.OptFlds = tt
component-own b comps.BufTm = tt
component-own b comps.SqNum = tt
component-own b comps.TrgOps = tt
component-own b comps.IntgPd = tt
component-own b comps.GI = tt
component-own b comps.PurgeBuf = tt
component-own b comps.EntryID = tt
component-own b comps.TimeofEntry = tt
component-own b comps.ResvTms = tt
component-own b comps.Owner = tt

setting-own : (d : ℕ) (comp : SettingComp) → IsOwn (single (model.setting d comp)) (setting_comp_type comp)
setting-own d NumOfSG = tt
setting-own d ActSG = tt
setting-own d EditSG = tt
setting-own d CnfEdit = tt
setting-own d LActTm = tt

-- ---- what lines name

abbrev IsLine : Line → Type 0
IsLine l = AreNamed l.names

abbrev IsSettableLine : AttrDef → Type 0
IsSettableLine a = IsSettable a.kind

node-lines : (ns : List LnDef) → Each IsLine (map node_line ns)
node-lines [] = tt
node-lines (n ∷ ns) = ((tt, tt), node-lines ns)

attribute-line : (x twin : ℕ) (a : AttrDef) → IsSettable a.kind → AreNamed (attribute_names x twin a)
attribute-line x twin a h = (attribute-own x a.kind h, by (is_setting a))
  where
    by : (b : Bool) → AreNamed (if b then record { item = path_item a.ln (codes "SE") a.path; role = single (model.attribute twin); kind = a.kind } ∷ [] else [])
    by true = (attribute-own twin a.kind h, tt)
    by false = tt

attribute-lines : (x twin : ℕ) (as_ : List AttrDef) → All IsSettableLine as_ → Each IsLine (attribute_lines x twin as_)
attribute-lines x twin [] h = tt
attribute-lines x twin (a ∷ as_) h = (attribute-line x twin a (h 0 a (omega arith)), attribute-lines (x + 1) (if is_setting a then twin + 1 else twin) as_ (All-tail IsSettableLine a as_ h))

abbrev named_component : ℕ → List ℕ → Comp → Named
named_component b item comp = record { item = within item (comp_name comp); role = single (model.component b comp); kind = comp_type comp }

component-names : (b : ℕ) (item : List ℕ) (comps : List Comp) → AreNamed (map (named_component b item) comps)
component-names b item [] = tt
component-names b item (k ∷ ks) = (component-own b k, component-names b item ks)

block-lines : (b : ℕ) (ds : List BlockDef) → Each IsLine (block_lines b ds)
block-lines b [] = tt
block-lines b (d ∷ ds) = (component-names b (path_item d.ln (codes "BR") d.name) components, block-lines (b + 1) ds)

setting-comps : (d : ℕ) (comps : List SettingComp) → AreNamed (map (setting_named d) comps)
setting-comps d [] = tt
setting-comps d (k ∷ ks) = (setting-own d k, setting-comps d ks)

group-lines : (number : SgDef → ℕ) (gs : List SgDef) → Each IsLine (map (λ (g : SgDef). group_line (number g) g) gs)
group-lines number [] = tt
group-lines number (g ∷ gs) = (setting-comps (number g) setting_components, group-lines number gs)

command : (k : ℕ) (kind : TypeOf) (item : List ℕ) (call : Call) → AreNamed (command_names k kind item call)
command k kind item model.select = (tt, (tt, (tt, (tt, (tt, (tt, (tt, (tt, tt))))))))
command k kind item model.operate = (tt, (tt, (tt, (tt, (tt, (tt, (tt, (tt, tt))))))))
command k kind item model.cancel = (tt, (tt, (tt, (tt, (tt, (tt, (tt, tt)))))))

where-so : (b : Bool) (ns : List Named) → AreNamed ns → AreNamed (if b then ns else [])
where-so true ns h = h
where-so false ns h = tt

control-parts : (k : ℕ) (c : CtlDef) (item : List ℕ) → AreNamed (control_names k c item)
control-parts k c item = each-both IsNamed (sbo_names k c item) (sbow_names k c item ++ (oper_names k c item ++ cancel_names k c item)) (where-so (c.model == 2) _ (tt, tt))
    (each-both IsNamed (sbow_names k c item) (oper_names k c item ++ cancel_names k c item) (where-so (c.model == 4) _ (command k c.kind (within item (codes "SBOw")) model.select))
    (each-both IsNamed (oper_names k c item) (cancel_names k c item) (command k c.kind (within item (codes "Oper")) model.operate) (where-so (is_selected c) _ (command k c.kind (within item (codes "Cancel")) model.cancel))))

control-parameters : (x : ℕ) (item : List ℕ) (c : CtlDef) → AreNamed (parameter_names x item (parameters c))
control-parameters x item c = (tt, by (is_selected c))
  where
    by : (b : Bool) → AreNamed (parameter_names (x + 1) item (if b then selection c else []))
    by true = (tt, (tt, tt))
    by false = tt

control-lines : (k x : ℕ) (cs : List CtlDef) → Each IsLine (control_lines k x cs)
control-lines k x [] = tt
control-lines k x (c ∷ cs) = (
  each-both IsNamed (control_names k c (path_item c.ln (codes "CO") c.path)) (parameter_names x (path_item c.ln (codes "CF") c.path) (parameters c))
      (control-parts k c (path_item c.ln (codes "CO") c.path)) (control-parameters x (path_item c.ln (codes "CF") c.path) c),
  control-lines (k + 1) (x + length (parameters c)) cs,
)

all-lines : (c : Config) → All IsSettableLine c.attrs → Each IsLine (lines c)
all-lines c h = each-both IsLine (map node_line c.nodes) _ (node-lines c.nodes)
    (each-both IsLine (attribute_lines 0 (length c.attrs + length (generated c)) c.attrs) _ (attribute-lines 0 (length c.attrs + length (generated c)) c.attrs h)
    (each-both IsLine (block_lines 0 c.blocks) _ (block-lines 0 c.blocks)
    (each-both IsLine (control_lines 0 (length c.attrs) c.controls) _ (control-lines 0 (length c.attrs) c.controls) (group-lines (λ g. domain_number c g.domain) c.groups))))

each-insert : (l : Line) (ms : List Line) → IsLine l → Each IsLine ms → Each IsLine (insert_line l ms)
each-insert l [] h a = (h, tt)
each-insert l (m ∷ ms) h a = by (nat_le l.line m.line) (each-insert l ms h a.1)
  where
    by : (b : Bool) → Each IsLine (insert_line l ms) → Each IsLine (if b then l ∷ m ∷ ms else m ∷ insert_line l ms)
    by true go = (h, a)
    by false go = (a.0, go)

each-in-order : (ls : List Line) → Each IsLine ls → Each IsLine (in_order ls)
each-in-order [] a = tt
each-in-order (l ∷ ls) a = each-insert l (in_order ls) a.0 (each-in-order ls a.1)

names-there : (c : Config) (domain : List ℕ) → All IsSettableLine c.attrs → AreNamed (names_in c domain)
names-there c domain h = each-flat IsNamed (λ (l : Line). l.names) (filter (λ (l : Line). bytes_eq l.domain domain) (in_order (lines c)))
    (each-filter IsLine (λ (l : Line). bytes_eq l.domain domain) (in_order (lines c)) (each-in-order (lines c) (all-lines c h)))

-- ---- the tree that grows of them

abbrev IsFit : Forest → Type 0
IsFit nothing = Unit {0}
IsFit (named n r k parts others) = IsOwn r k × (IsFit parts × IsFit others)

own-there : (ns : List Named) → AreNamed ns → IsOwn (role_of ns) (own_type ns)
own-there [] a = tt
own-there (n ∷ ns) a = by (is_itself n) (own-there ns a.1)
  where
    by : (b : Bool) → IsOwn (role_of ns) (own_type ns) → IsOwn (unwrap_or (option_map (λ (n : Named). n.role) (cond b (Some n) (find is_itself ns))) several) (unwrap_or (option_map (λ (n : Named). n.kind) (cond b (Some n) (find is_itself ns))) (types.Struct no_field))
    by true go = a.0
    by false go = go

rests-there : (ns : List Named) → AreNamed ns → AreNamed (map rest_of ns)
rests-there [] a = tt
rests-there (n ∷ ns) a = (a.0, rests-there ns a.1)

below-there : (name : List ℕ) (ns : List Named) → AreNamed ns → AreNamed (below name ns)
below-there name ns a = rests-there _ (each-filter IsNamed (λ (n : Named). not (is_itself n) && bytes_eq name (first_name n)) ns a)

abbrev with_one : ℕ → List Named → List ℕ → Forest → Forest
with_one l ns name others = named name (role_of (below name ns)) (own_type (below name ns)) (grown l (below name ns)) others

fit-grown : (levels : ℕ) (ns : List Named) → AreNamed ns → IsFit (grown levels ns)
fit-grown zero ns a = tt
fit-grown (suc l) ns a = go (λ m. fit-grown l (below m ns) (below-there m ns a)) (first_names ns)
  where
    go : ((m : List ℕ) → IsFit (grown l (below m ns))) → (ms : List (List ℕ)) → IsFit (side_by_side (with_one l ns) ms)
    go deeper [] = tt
    go deeper (m ∷ ms) = (own-there (below m ns) (below-there m ns a), (deeper m, go deeper ms))

mutual
  shape-there : (r : Role) (k : TypeOf) (parts : Forest) → IsOwn r k → IsFit parts → HasShape (tree_with r (trees parts)) (shape_of (type_with k (fields parts)))
  shape-there r k nothing h f = h
  shape-there (single l) k (named n q j ps os) h f = (shape-there q j ps f.0 f.1.0, shapes-there os f.1.1)
  shape-there (selecting x) k (named n q j ps os) h f = (shape-there q j ps f.0 f.1.0, shapes-there os f.1.1)
  shape-there (calling x call) k (named n q j ps os) h f = (shape-there q j ps f.0 f.1.0, shapes-there os f.1.1)
  shape-there several k (named n q j ps os) h f = (shape-there q j ps f.0 f.1.0, shapes-there os f.1.1)

  shapes-there : (f : Forest) → IsFit f → HaveShapes (trees f) (fields f)
  shapes-there nothing h = tt
  shapes-there (named n r k parts others) h = (shape-there r k parts h.0 h.1.0, shapes-there others h.1.1)

abbrev IsShaped : Place → Type 0
IsShaped p = HasShape p.tree (shape_of p.kind)

places-there : (before : List ℕ) (f : Forest) → IsFit f → Each IsShaped (places before f)
places-there before nothing h = tt
places-there before (named n r k parts others) h = (shape-there r k parts h.0 h.1.0, each-both IsShaped (places (before ++ n ++ 36 ∷ []) parts) (places before others) (places-there (before ++ n ++ 36 ∷ []) parts h.1.0) (places-there before others h.1.1))

-- ---- the nodes and their types

abbrev ArePairs : List Node → List TypeOf → Type 0
ArePairs [] [] = Unit {0}
ArePairs (n ∷ ns) (k ∷ ks) = HasShape n.tree (shape_of k) × ArePairs ns ks
ArePairs _ _ = ⊥

pairs-both : (ns ms : List Node) (ks js : List TypeOf) → ArePairs ns ks → ArePairs ms js → ArePairs (ns ++ ms) (ks ++ js)
pairs-both [] ms [] js a b = b
pairs-both [] ms (k ∷ ks) js a b = absurd a
pairs-both (n ∷ ns) ms [] js a b = absurd a
pairs-both (n ∷ ns) ms (k ∷ ks) js a b = (a.0, pairs-both ns ms ks js a.1 b)

pairs-places : (d : List ℕ) (ps : List Place) → Each IsShaped ps → ArePairs (map (node_at d) ps) (map (λ (p : Place). p.kind) ps)
pairs-places d [] a = tt
pairs-places d (p ∷ ps) a = (a.0, pairs-places d ps a.1)

pairs-domains : (of : List ℕ → List Place) (ds : List (List ℕ)) → ((d : List ℕ) → Each IsShaped (of d)) → ArePairs (flat_map (λ d. map (node_at d) (of d)) ds) (flat_map (λ d. map (λ (p : Place). p.kind) (of d)) ds)
pairs-domains of [] h = tt
pairs-domains of (d ∷ ds) h = pairs-both (map (node_at d) (of d)) _ (map (λ (p : Place). p.kind) (of d)) _ (pairs-places d (of d) (h d)) (pairs-domains of ds h)

pair-at : (ns : List Node) (ks : List TypeOf) (n : ℕ) (d : Node) (e : TypeOf) → ArePairs ns ks → n < length ns → HasShape (unwrap_or (slice_get ns n) d).tree (shape_of (slice_index_or ks n e))
pair-at [] ks n d e a h = absurd (omega (arith, h))
pair-at (m ∷ ns) [] n d e a h = absurd a
pair-at (m ∷ ns) (k ∷ ks) zero d e a h = a.0
pair-at (m ∷ ns) (k ∷ ks) (suc n) d e a h = pair-at ns ks n d e a.1 (omega (arith, h))

pub node-shape : (c : Config) (n : ℕ) → All IsSettableLine c.attrs → n < length (nodes c) → HasShape (node_of (configured_model c) n).tree (shape_of (node_type c n))
node-shape c n h below = pair-at (nodes c) (node_types c) n _ (types.Struct no_field)
    (pairs-domains (places_in c) (domains c) (λ d. places-there [] (tree_of (names_in c d)) (fit-grown (suc (longest (names_in c d))) (names_in c d) (names-there c d h)))) below
