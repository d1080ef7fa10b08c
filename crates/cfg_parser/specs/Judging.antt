-- How a line is told: its length first, then its words, then its place, then limits, and then word by word.
use Rattle.std.specs.Prelude.{ℕ, ◌+◌, ◌==◌, ◌&&◌, ◌||◌, not, nat_lt, nat_le, Bool, true, false, List, [], ◌∷◌, length, codes, Option, Some, None, Result, Ok, Err, if◌then◌else◌}
use Rattle.std.specs.List.{list_all, list_any, count_by}
use Rattle.std.specs.Str.{bytes_eq}
use Rattle.cfg_parser.specs.declared.fault.Kind.{Kind}
use Rattle.cfg_parser.specs.declared.fault.Kind.TheVariants as kinds
use Rattle.cfg_lines.specs.declared.line.Line.{Line}
use Rattle.cfg_lines.specs.declared.line.Line.TheVariants as lines
use Rattle.cfg_lines.specs.declared.line.Place.{Place}
use Rattle.cfg_lines.specs.declared.line.Place.TheVariants as places
use Rattle.cfg_parser.specs.declared.keyword.Keyword.{Keyword}
use Rattle.cfg_parser.specs.declared.keyword.Keyword.TheVariants as keywords
use Rattle.text_words.specs.Words.{words_of}
use Rattle.cfg_parser.specs.Keywords.{keyword_at}
use Rattle.text_words.specs.Names.{is_dollar, item_of}
use Rattle.cfg_lines.specs.Before.{place_of, node_of, groups_of, has_settings, domains, nodes, attributes, sets, blocks, controls, members}
use Rattle.cfg_parser.specs.Contents.{config_at, domain_at, node_at, set_at, member_at, attribute_at, block_at, control_at, groups_at}
use Rattle.text_words.specs.Octets.{is_printable, is_skipped}

-- an item name of the logical node is above 64 octets: the node's name, `$`, and n octets
abbrev pub is_long_item : List Line → ℕ → Bool
is_long_item before behind = nat_lt 0 (length (node_of before)) && nat_lt 63 (length (node_of before) + behind)

-- the octets of the longest item name of a control beside its path: `CO$` and `$Oper$origin$orIdent`, or `$Cancel$origin$orIdent` under models 2 and 4
abbrev pub control_octets : List ℕ → ℕ
control_octets model = if bytes_eq model (codes "2") || bytes_eq model (codes "4") then 25 else 23

abbrev pub is_long_control : List Line → List (List ℕ) → Bool
is_long_control before [] = false
is_long_control before (path ∷ []) = is_long_item before (length path + 23)
is_long_control before (path ∷ model ∷ words) = is_long_item before (length path + control_octets model)

abbrev pub is_long_attribute : List Line → List (List ℕ) → Bool
is_long_attribute before (fc ∷ path ∷ words) = is_long_item before (length fc + 1 + length path)
is_long_attribute before _ = false

abbrev pub is_long_set : List Line → List (List ℕ) → Bool
is_long_set before [] = false
is_long_set before (name ∷ words) = is_long_item before (length name)

-- `BR$`, the name and `$TimeofEntry`
abbrev pub is_long_block : List Line → List (List ℕ) → Bool
is_long_block before [] = false
is_long_block before (name ∷ words) = is_long_item before (length name + 15)

abbrev pub is_long_member : List (List ℕ) → Bool
is_long_member [] = false
is_long_member (reference ∷ words) = nat_lt 129 (length reference) || nat_lt 64 (length (item_of reference))

-- a word, an item name or a reference is too long
unfoldable pub has_long : List Line → Option Keyword → List (List ℕ) → Bool
has_long before (Some keywords.Server) words = list_any (λ word. nat_lt 64 (length word)) words
has_long before (Some keywords.Attr) words = is_long_attribute before words
has_long before (Some keywords.Set) words = is_long_set before words
has_long before (Some keywords.Member) words = is_long_member words
has_long before (Some keywords.Brcb) words = is_long_block before words
has_long before (Some keywords.Ctl) words = is_long_control before words
has_long before _ words = false

-- how many words follow `attr`: under SG one value for each group
abbrev pub attribute_counts : ℕ → List (List ℕ) → Bool
attribute_counts groups [] = false
attribute_counts groups (fc ∷ words) = if bytes_eq fc (codes "SG") then (if groups == 0 then nat_le 4 (length words) else length words == groups + 3) else length words == 4

unfoldable pub counts : List Line → Keyword → List (List ℕ) → Bool
counts before keywords.Config words = length words == 1
counts before keywords.Server words = length words == 3
counts before keywords.Ld words = length words == 1
counts before keywords.Ln words = length words == 1
counts before keywords.Attr words = attribute_counts (groups_of before) words
counts before keywords.Set words = length words == 1
counts before keywords.Member words = length words == 1
counts before keywords.Brcb words = length words == 9
counts before keywords.Ctl words = length words == 5
counts before keywords.Sgcb words = length words == 2
counts before keywords.End words = length words == 0

-- the line may begin or go on with a logical node
abbrev pub is_in_node : Place → Bool
is_in_node places.InNode = true
is_in_node places.InMembers = true
is_in_node _ = false

abbrev pub is_open : Place → Bool
is_open places.Served = true
is_open place = is_in_node place

abbrev pub is_in_domain : Place → Bool
is_in_domain places.InDomain = true
is_in_domain place = is_in_node place

abbrev pub is_in_set : Place → Bool
is_in_set places.InSet = true
is_in_set places.InMembers = true
is_in_set _ = false

abbrev pub is_start : Place → Bool
is_start places.Start = true
is_start _ = false

abbrev pub is_configured : Place → Bool
is_configured places.Configured = true
is_configured _ = false

-- under SG only after the domain's `sgcb`
abbrev pub has_groups : ℕ → List (List ℕ) → Bool
has_groups groups [] = false
has_groups groups (fc ∷ words) = if bytes_eq fc (codes "SG") then nat_lt 0 groups else true

unfoldable pub may_stand : List Line → Keyword → List (List ℕ) → Bool
may_stand before keywords.Config words = is_start (place_of before)
may_stand before keywords.Server words = is_configured (place_of before)
may_stand before keywords.Ld words = is_open (place_of before)
may_stand before keywords.Ln words = is_in_domain (place_of before)
may_stand before keywords.Attr words = is_in_node (place_of before) && has_groups (groups_of before) words
may_stand before keywords.Set words = is_in_node (place_of before)
may_stand before keywords.Member words = is_in_set (place_of before)
may_stand before keywords.Brcb words = is_in_node (place_of before)
may_stand before keywords.Ctl words = is_in_node (place_of before)
may_stand before keywords.Sgcb words = (is_in_node (place_of before) && bytes_eq (node_of before) (codes "LLN0")) && not (has_settings before)
may_stand before keywords.End words = is_open (place_of before)

-- the first word's path has more than eight names
abbrev pub is_deep : ℕ → List (List ℕ) → Bool
is_deep most [] = false
is_deep most (path ∷ words) = nat_lt most (count_by is_dollar path)

abbrev pub is_deep_attribute : List (List ℕ) → Bool
is_deep_attribute [] = false
is_deep_attribute (fc ∷ words) = is_deep 7 words

abbrev pub is_deep_member : List (List ℕ) → Bool
is_deep_member [] = false
is_deep_member (reference ∷ words) = nat_lt 9 (count_by is_dollar (item_of reference))

-- there are as many as there may be: lines, or what the line adds to
abbrev pub is_full : List Line → Bool
is_full before = nat_le 20000 (length before)

unfoldable pub has_many : List Line → Keyword → List (List ℕ) → Bool
has_many before keywords.Ld words = nat_le 16 (domains before)
has_many before keywords.Ln words = nat_le 256 (nodes before)
has_many before keywords.Attr words = nat_le 10000 (attributes before) || is_deep_attribute words
has_many before keywords.Set words = nat_le 128 (sets before)
has_many before keywords.Member words = nat_le 256 (members before) || is_deep_member words
has_many before keywords.Brcb words = nat_le 32 (blocks before)
has_many before keywords.Ctl words = nat_le 64 (controls before) || is_deep 7 words
has_many before _ words = false

-- what the words after the first say
unfoldable pub content_at : List Line → Keyword → List (List ℕ) → Result Line Kind
content_at before keywords.Config (version ∷ []) = config_at version
content_at before keywords.Server (vendor ∷ model ∷ revision ∷ []) = Ok (lines.Server vendor model revision)
content_at before keywords.Ld (name ∷ []) = domain_at before name
content_at before keywords.Ln (name ∷ []) = node_at before name
content_at before keywords.Attr (fc ∷ path ∷ kind ∷ flags ∷ values) = attribute_at before fc path kind flags values
content_at before keywords.Set (name ∷ []) = set_at before name
content_at before keywords.Member (reference ∷ []) = member_at reference
content_at before keywords.Brcb (name ∷ rpt_id ∷ dat_set ∷ conf_rev ∷ opt_flds ∷ buf_tm ∷ trg_ops ∷ intg_pd ∷ capacity ∷ []) =
    block_at before name rpt_id dat_set conf_rev opt_flds buf_tm trg_ops intg_pd capacity
content_at before keywords.Ctl (path ∷ model ∷ timeout ∷ class ∷ kind ∷ []) = control_at before path model timeout class kind
content_at before keywords.Sgcb (count ∷ active ∷ []) = groups_at before count active
content_at before keywords.End [] = Ok lines.End
content_at before _ _ = Err kinds.Word

unfoldable pub keyed_at : List Line → Keyword → List (List ℕ) → Result Line Kind
keyed_at before keyword words =
    if counts before keyword words then (if may_stand before keyword words then (if is_full before || has_many before keyword words then Err kinds.Many
    else content_at before keyword words)
    else Err kinds.Order)
    else Err kinds.Word

abbrev pub known_at : List Line → Option Keyword → List (List ℕ) → Result Line Kind
known_at before None words = Err kinds.Word
known_at before (Some keyword) words = keyed_at before keyword words

-- a line of words: its first word, and those after it
unfoldable pub tell_at : List Line → List ℕ → List (List ℕ) → Result Line Kind
tell_at before text [] = Err kinds.Word
tell_at before text (word ∷ words) =
    if has_long before (keyword_at word) words then Err kinds.Long
    else if list_all is_printable text && not (list_any (λ w. length w == 0) words) then known_at before (keyword_at word) words
    else Err kinds.Word

unfoldable pub skip_at : List Line → List ℕ → Result Line Kind
skip_at before text = if list_all is_printable text then (if is_full before then Err kinds.Many else Ok lines.Skip) else Err kinds.Word

-- what the line after these says
unfoldable pub line_at : List Line → List ℕ → Result Line Kind
line_at before text =
    if nat_lt 1000 (length text) then Err kinds.Long
    else if is_skipped text then skip_at before text
    else tell_at before text (words_of text)
