-- For which kind the line after others is refused: its length first, then its words' form, its place, limits, and then word
-- by word. The last line is the first of the list.
use Rattle.std.specs.Prelude.{◌≡◌, ◌≤◌, ◌<◌, ◌⊎◌, ℕ, nat_lt, true, false, List, [], ◌∷◌, length, codes}
use Rattle.std.specs.List.{list_any, count_by}
use Rattle.text_words.specs.Words.{words_of}
use Rattle.text_words.specs.Names.{is_dollar, item_of}
use Rattle.sv_base.specs.ComponentTable.{comp_name}
use Rattle.sv_base.specs.declared.components.Comp.TheVariants as comps
use Rattle.cfg_lines.specs.Paths.{below}
use Rattle.cfg_lines.specs.Before.{place_of, node_of, groups_of, has_settings, domains, nodes, attributes, sets, blocks, controls, members}
use Rattle.cfg_lines.specs.declared.line.Line.{Line}
use Rattle.cfg_lines.specs.declared.line.Place.TheVariants as places
use Rattle.cfg_grammar.specs.Follows.{IsInNode, IsBetween, IsInDomain, IsInSet}
use Rattle.cfg_laws.specs.Kinds as kinds
use Rattle.cfg_laws.specs.Forms.{Form, IsText}
use Rattle.cfg_laws.specs.Forms as forms
use Rattle.cfg_laws.specs.Words.{Else, IsWrong}

-- an item name (IEC 61850-8-1, ItemID) of the logical node is above 64 octets
abbrev pub IsLongItem : List Line → List ℕ → Type 0
IsLongItem before item = (0 < length (node_of before)) × (64 < length (below (node_of before) item))

abbrev pub control_item : List ℕ → List ℕ → List ℕ
control_item path part = below (codes "CO") (below path part)

-- the longest item name that the line makes, by the words that are there
abbrev pub IsLongAttribute : List Line → List (List ℕ) → Type 0
IsLongAttribute before (fc ∷ path ∷ more) = IsLongItem before (below fc path)
IsLongAttribute before _ = ⊥

abbrev pub IsLongSet : List Line → List (List ℕ) → Type 0
IsLongSet before (name ∷ more) = IsLongItem before name
IsLongSet before _ = ⊥

abbrev pub IsLongMember : List (List ℕ) → Type 0
IsLongMember (reference ∷ more) = (129 < length reference) ⊎ (64 < length (item_of reference))
IsLongMember _ = ⊥

abbrev pub IsLongBlock : List Line → List (List ℕ) → Type 0
IsLongBlock before (name ∷ more) = IsLongItem before (below (codes "BR") (below name (comp_name comps.TimeofEntry)))
IsLongBlock before _ = ⊥

-- models 2 and 4 have a Cancel
abbrev pub HasCancel : List ℕ → Type 0
HasCancel model = (model ≡ codes "2") ⊎ (model ≡ codes "4")

abbrev pub IsLongControl : List Line → List (List ℕ) → Type 0
IsLongControl before (path ∷ []) = IsLongItem before (control_item path (codes "Oper$origin$orIdent"))
IsLongControl before (path ∷ model ∷ more) = (HasCancel model × IsLongItem before (control_item path (codes "Cancel$origin$orIdent")))
    ⊎ ((HasCancel model → ⊥) × IsLongItem before (control_item path (codes "Oper$origin$orIdent")))
IsLongControl before _ = ⊥

-- a word of `server`, an item name or a reference is too long
abbrev pub HasLong : List Line → List ℕ → List (List ℕ) → Type 0
HasLong before first more = ((first ≡ codes "server") × (list_any (λ word. nat_lt 64 (length word)) more ≡ true))
    ⊎ (((first ≡ codes "attr") × IsLongAttribute before more)
    ⊎ (((first ≡ codes "set") × IsLongSet before more)
    ⊎ (((first ≡ codes "member") × IsLongMember more)
    ⊎ (((first ≡ codes "brcb") × IsLongBlock before more)
    ⊎ ((first ≡ codes "ctl") × IsLongControl before more)))))

abbrev pub IsLong : List Line → List ℕ → Type 0
IsLong before text = (1000 < length text) ⊎ ((first : List ℕ) × (more : List (List ℕ)) × (words_of text ≡ first ∷ more) × HasLong before first more)

abbrev pub HasForm : List Line → List ℕ → Type 0
HasForm before text = (form : Form) × IsText before text form

abbrev pub Stands : List Line → Form → Type 0
Stands before forms.Skip = Unit {0}
Stands before (forms.Config version) = place_of before ≡ places.Start
Stands before (forms.Server vendor model revision) = place_of before ≡ places.Configured
Stands before (forms.Ld name) = IsBetween before
Stands before (forms.Ln name) = IsInDomain before
Stands before (forms.Attr fc path kind flags values) = IsInNode before × (fc ≡ codes "SG" → 1 ≤ groups_of before)
Stands before (forms.Set name) = IsInNode before
Stands before (forms.Member reference) = IsInSet before
Stands before (forms.Brcb name rpt_id dat_set conf_rev opt_flds buf_tm trg_ops intg_pd capacity) = IsInNode before
Stands before (forms.Ctl path model timeout class kind) = IsInNode before
Stands before (forms.Sgcb count active) = IsInNode before × (node_of before ≡ codes "LLN0") × (has_settings before ≡ false)
Stands before forms.End = IsBetween before

-- there are fewer than there may be, and a path has at most eight names
abbrev pub HasRoomFor : List Line → Form → Type 0
HasRoomFor before (forms.Ld name) = domains before < 16
HasRoomFor before (forms.Ln name) = nodes before < 256
HasRoomFor before (forms.Attr fc path kind flags values) = (attributes before < 10000) × (count_by is_dollar path ≤ 7)
HasRoomFor before (forms.Set name) = sets before < 128
HasRoomFor before (forms.Member reference) = (members before < 256) × (count_by is_dollar (item_of reference) ≤ 9)
HasRoomFor before (forms.Brcb name rpt_id dat_set conf_rev opt_flds buf_tm trg_ops intg_pd capacity) = blocks before < 32
HasRoomFor before (forms.Ctl path model timeout class kind) = (controls before < 64) × (count_by is_dollar path ≤ 7)
HasRoomFor before form = Unit {0}

-- a configuration has at most 20000 lines
abbrev pub HasRoom : List Line → Form → Type 0
HasRoom before form = (length before < 20000) × HasRoomFor before form

abbrev pub IsJudged : List Line → Form → ℕ → Type 0
IsJudged before form kind = Else kind kinds.order (Stands before form) (Else kind kinds.many (HasRoom before form) (IsWrong before form kind))

abbrev pub IsUnformed : List Line → List ℕ → ℕ → Type 0
IsUnformed before text kind = ((HasForm before text → ⊥) × (kind ≡ kinds.word)) ⊎ ((form : Form) × IsText before text form × IsJudged before form kind)

-- the line of this text, without its newline, is refused after these lines for this kind
abbrev pub IsRefusedLine : List Line → List ℕ → ℕ → Type 0
IsRefusedLine before text kind = (IsLong before text × (kind ≡ kinds.long)) ⊎ ((IsLong before text → ⊥) × IsUnformed before text kind)
