-- Data sets that a client defines (IEC 61850-7-2, CreateDataSet; ISO 9506-2, DefineNamedVariableList).
use Rattle.std.specs.Prelude.{ℕ, suc, Bool, false, not, ◌&&◌, ◌||◌, ◌==◌, nat_le, nat_lt, List, [], ◌∷◌, map, length, Option, None, Some, is_some, if◌then◌else◌}
use Rattle.std.specs.Option.{option_map_or}
use Rattle.std.specs.List.{list_any, list_all, before_first, after_first}
use Rattle.std.specs.Str.{bytes_eq}
use Rattle.bay_model.specs.declared.reply.Reply.{Reply}
use Rattle.bay_model.specs.declared.reply.Reply.TheVariants as replies
use Rattle.bay_model.specs.declared.request.Target.{Target}
use Rattle.bay_model.specs.declared.request.Target.TheVariants as targets
use Rattle.bay_model.specs.declared.request.SetName.{SetName}
use Rattle.bay_model.specs.Model.{Model, Node}
use Rattle.bay_model.specs.Lookups.{node_of}
use Rattle.bay_model.specs.Points.{Past, Change, unchanged, defined}
use Rattle.bay_model.specs.Sets.{sets, dynamic, set_named}
use Rattle.bay_model.specs.Breaks.{is_empty}
use Rattle.bay_model.specs.declared.service_errors.TheConstants.{DEFINITION, RESOURCE, ACCESS, OBJECT_EXISTS, RESOURCE_OTHER, OBJECT_NON_EXISTENT}

abbrev pub is_letter : ℕ → Bool
is_letter o = (nat_le 65 o && nat_le o 90) || (nat_le 97 o && nat_le o 122)

abbrev pub is_name_octet : ℕ → Bool
is_name_octet o = is_letter o || (nat_le 48 o && nat_le o 57) || (o == 95)

-- a letter followed by letters, digits or `_`, at most 32 octets
abbrev pub is_name : List ℕ → Bool
is_name [] = false
is_name (o ∷ os) = is_letter o && list_all is_name_octet os && nat_le (suc (length os)) 32

abbrev pub has_node : Model → List ℕ → List ℕ → Bool
has_node c domain item = list_any (λ (n : Node). bytes_eq n.domain domain && bytes_eq n.item item) c.nodes

-- the name is `LN$NAME` of a logical node that is there, and no longer than 64 octets
abbrev pub is_set_name : Model → SetName → Bool
is_set_name c n = has_node c n.domain (before_first (λ o. o == 36) n.item) && is_name (after_first (λ o. o == 36) n.item) && nat_le (length n.item) 64

-- a node that may be a member, asked for without alternate access
abbrev pub is_member : Model → Target → Bool
is_member c (targets.Node n name) = (node_of c n.0).allowed
is_member c _ = false

abbrev pub number_of : Target → ℕ
number_of (targets.Node n name) = n.0
number_of _ = 0

-- The errors of a definition in order, by class and code: a set of the name is there; no such name or member; more than
-- 256 members, or 64 dynamic sets already.
abbrev pub definition_error : Model → Past → SetName → List Target → Option (ℕ × ℕ)
definition_error c past n members =
    if is_some (set_named n (sets c past)) then Some (DEFINITION, OBJECT_EXISTS)
    else (if not (is_set_name c n) || is_empty members || not (list_all (is_member c) members) then Some (ACCESS, OBJECT_NON_EXISTENT)
    else (if nat_lt 256 (length members) || nat_le 64 (length (dynamic past)) then Some (RESOURCE, RESOURCE_OTHER) else None))

abbrev pub definition_reply : Model → Past → SetName → List Target → Reply
definition_reply c past n members = option_map_or (λ e. replies.Error e.0 e.1) (definition_error c past n members) replies.Defined

-- what comes of the data sets
abbrev pub definition_change : Model → Past → SetName → List Target → Change
definition_change c past n members = if is_some (definition_error c past n members) then unchanged else defined n (map number_of members)
