-- The attributes and nodes of the example bay: one breaker position, one indication, one measured power and the report
-- block over them (IEC 61850-7-4, the logical nodes LLN0, XCBR, GGIO and MMXU; IEC 61850-8-1, the names).
use Rattle.std.specs.Prelude.{ℕ, Bool, true, false, pos, List, [], ◌∷◌, ◌++◌, replicate, codes}
use Rattle.sv_base.specs.declared.value.Value.{Value}
use Rattle.sv_base.specs.declared.value.Value.TheVariants as kinds
use Rattle.sv_base.specs.declared.components.Comp.{Comp}
use Rattle.sv_base.specs.declared.components.Comp.TheVariants as comps
use Rattle.bay_model.specs.Model.{Attr, Node, Tree, Trees, reported, attribute, component, leaf, structure, none, more, single, several}
use Rattle.sv_base.specs.Kinds.{Kind, truth, int, bits, time}

abbrev pub domain : List ℕ
domain = codes "BAY1"

-- an attribute of the process, with the flags d and q
abbrev pub attr : Kind → Bool → Bool → Value → Attr
attr kind d q v = record { access = reported; kind = kind; dchg = d; qchg = q; dupd = false; initial = v ∷ []; domain = 0; original = 0 }

abbrev pub quality : Attr
quality = attr (bits 13) false true (kinds.Bits (replicate 13 false))

abbrev pub time_stamp : Attr
time_stamp = attr time false false (kinds.Time (record { secs = 0; frac = 0; quality = 0 }))

-- the measured power, TotW.mag.i of MMXU1
abbrev pub power : Attr
power = attr (int 32) true false (kinds.Int (pos 0))

-- 0 to 2 the position, off at first; 3 to 5 the indication; and the power as 6
abbrev pub attrs_with : Attr → List Attr
attrs_with p = attr (bits 2) true false (kinds.Bits (false ∷ true ∷ [])) ∷ quality ∷ time_stamp ∷ attr truth true false (kinds.Bool false) ∷ quality ∷ time_stamp ∷ p ∷ []

-- a structure of one part
abbrev pub within : Tree → Tree
within t = structure (more t none)

-- value, quality and time
abbrev pub status : ℕ → ℕ → ℕ → Tree
status v q t = structure (more (leaf (attribute v)) (more (leaf (attribute q)) (more (leaf (attribute t)) none)))

-- the components of a report block, in the order of its type
abbrev pub components : List Comp
components = comps.RptID ∷ comps.RptEna ∷ comps.DatSet ∷ comps.ConfRev ∷ comps.OptFlds ∷ comps.BufTm ∷ comps.SqNum ∷ comps.TrgOps ∷ comps.IntgPd ∷ comps.GI ∷ comps.PurgeBuf ∷ comps.EntryID ∷ comps.TimeofEntry ∷ comps.ResvTms ∷ comps.Owner ∷ []

abbrev pub component_leaves : List Comp → Trees
component_leaves [] = none
component_leaves (k ∷ ks) = more (leaf (component 0 k)) (component_leaves ks)

abbrev pub block_tree : Tree
block_tree = structure (component_leaves components)

-- a structure
abbrev pub node : List ℕ → Tree → List ℕ → Bool → Node
node item tree attrs allowed = record { domain = domain; item = item; role = several; tree = tree; attrs = attrs; allowed = allowed }

abbrev pub attribute_node : List ℕ → ℕ → Node
attribute_node item x = record { domain = domain; item = item; role = single (attribute x); tree = leaf (attribute x); attrs = x ∷ []; allowed = true }

abbrev pub component_node : List ℕ → Comp → Node
component_node name k = record { domain = domain; item = codes "LLN0$BR$brcbEv01$" ++ name; role = single (component 0 k); tree = leaf (component 0 k); attrs = []; allowed = false }

-- the nodes of LLN0, which holds the report block; 2 is the block, and 3 to 17 are its components
abbrev pub block_nodes : List Node
block_nodes = node (codes "LLN0") (within (within block_tree)) [] false ∷ node (codes "LLN0$BR") (within block_tree) [] false ∷ node (codes "LLN0$BR$brcbEv01") block_tree [] false
    ∷ component_node (codes "RptID") comps.RptID ∷ component_node (codes "RptEna") comps.RptEna ∷ component_node (codes "DatSet") comps.DatSet ∷ component_node (codes "ConfRev") comps.ConfRev
    ∷ component_node (codes "OptFlds") comps.OptFlds ∷ component_node (codes "BufTm") comps.BufTm ∷ component_node (codes "SqNum") comps.SqNum ∷ component_node (codes "TrgOps") comps.TrgOps
    ∷ component_node (codes "IntgPd") comps.IntgPd ∷ component_node (codes "GI") comps.GI ∷ component_node (codes "PurgeBuf") comps.PurgeBuf ∷ component_node (codes "EntryID") comps.EntryID
    ∷ component_node (codes "TimeofEntry") comps.TimeofEntry ∷ component_node (codes "ResvTms") comps.ResvTms ∷ component_node (codes "Owner") comps.Owner ∷ []

-- the nodes of the breaker position, of the indication and of the power; 20, 26 and 34 are the members of the data set
abbrev pub position_nodes : List Node
position_nodes = node (codes "XCBR1") (within (within (status 0 1 2))) (0 ∷ 1 ∷ 2 ∷ []) false ∷ node (codes "XCBR1$ST") (within (status 0 1 2)) (0 ∷ 1 ∷ 2 ∷ []) true
    ∷ node (codes "XCBR1$ST$Pos") (status 0 1 2) (0 ∷ 1 ∷ 2 ∷ []) true
    ∷ attribute_node (codes "XCBR1$ST$Pos$stVal") 0 ∷ attribute_node (codes "XCBR1$ST$Pos$q") 1 ∷ attribute_node (codes "XCBR1$ST$Pos$t") 2 ∷ []

abbrev pub indication_nodes : List Node
indication_nodes = node (codes "GGIO1") (within (within (status 3 4 5))) (3 ∷ 4 ∷ 5 ∷ []) false ∷ node (codes "GGIO1$ST") (within (status 3 4 5)) (3 ∷ 4 ∷ 5 ∷ []) true
    ∷ node (codes "GGIO1$ST$Ind1") (status 3 4 5) (3 ∷ 4 ∷ 5 ∷ []) true
    ∷ attribute_node (codes "GGIO1$ST$Ind1$stVal") 3 ∷ attribute_node (codes "GGIO1$ST$Ind1$q") 4 ∷ attribute_node (codes "GGIO1$ST$Ind1$t") 5 ∷ []

abbrev pub power_nodes : List Node
power_nodes = node (codes "MMXU1") (within (within (within (within (leaf (attribute 6)))))) (6 ∷ []) false ∷ node (codes "MMXU1$MX") (within (within (within (leaf (attribute 6))))) (6 ∷ []) true
    ∷ node (codes "MMXU1$MX$TotW") (within (within (leaf (attribute 6)))) (6 ∷ []) true ∷ node (codes "MMXU1$MX$TotW$mag") (within (leaf (attribute 6))) (6 ∷ []) true
    ∷ attribute_node (codes "MMXU1$MX$TotW$mag$i") 6 ∷ []

abbrev pub nodes : List Node
nodes = block_nodes ++ (position_nodes ++ (indication_nodes ++ power_nodes))
