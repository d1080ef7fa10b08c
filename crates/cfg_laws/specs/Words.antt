-- What the words of a line have to be, one by one, and the kind for which the first is refused that isn't.
use Rattle.std.specs.Prelude.{◌≡◌, ◌≤◌, ◌⊎◌, ℕ, Bool, true, List, length, codes}
use Rattle.std.specs.Fmt.{decimal}
use Rattle.std.specs.List.{list_all}
use Rattle.sv_base.specs.declared.types.TypeOf.{TypeOf}
use Rattle.sv_base.specs.declared.value.Value.{Value}
use Rattle.text_words.specs.Values.{is_graphic}
use Rattle.text_words.specs.Spelled.{text_word, bits_word, flags_word}
use Rattle.text_words.specs.Grammar.{IsType, SpellsType, AreOfType, SpellValues}
use Rattle.cfg_lines.specs.Paths.{node_key, item_key}
use Rattle.cfg_lines.specs.Before.{domain_of, node_of}
use Rattle.cfg_lines.specs.Claims.{heads, sets, set_key, control_keys, group_key, claims}
use Rattle.cfg_lines.specs.declared.line.Line.{Line}
use Rattle.cfg_laws.specs.Kinds as kinds
use Rattle.cfg_laws.specs.Names.{AnyIs, IsAmong, IsName, IsPath, IsReference, IsConstraint, IsTaken}
use Rattle.cfg_laws.specs.Forms.{Form}
use Rattle.cfg_laws.specs.Forms as forms

-- This is the kind where the first isn't right; else what follows says it.
abbrev pub Else : ℕ → ℕ → Type 0 → Type 0 → Type 0
Else kind cause Right After = ((Right → ⊥) × (kind ≡ cause)) ⊎ (Right × After)

abbrev pub IsNumber : ℕ → ℕ → List ℕ → Type 0
IsNumber least most word = (n : ℕ) × (word ≡ decimal n) × (least ≤ n) × (n ≤ most)

abbrev pub IsTextValue : ℕ → List ℕ → Type 0
IsTextValue most word = (octets : List ℕ) × (word ≡ text_word octets) × (length octets ≤ most) × (list_all is_graphic octets ≡ true)

abbrev pub IsBits : ℕ → List ℕ → Type 0
IsBits count word = (bits : List Bool) × (word ≡ bits_word bits) × (length bits ≡ count)

abbrev pub IsTypeWord : List ℕ → Type 0
IsTypeWord word = (kind : TypeOf) × IsType kind × SpellsType word kind

abbrev pub IsFlags : List ℕ → Type 0
IsFlags word = (dchg qchg dupd : Bool) × (word ≡ flags_word dchg qchg dupd)

-- values of the type of this word
abbrev pub AreValues : List ℕ → List (List ℕ) → Type 0
AreValues word words = (kind : TypeOf) × (values : List Value) × IsType kind × SpellsType word kind × AreOfType kind values × SpellValues words values

abbrev pub IsControlType : List ℕ → Type 0
IsControlType word = (word ≡ codes "bool") ⊎ (word ≡ codes "int32")

-- the model of a control, and 0 where the word is none
abbrev pub IsModel : List ℕ → ℕ → Type 0
IsModel word model = ((word ≡ decimal model) × (model ≤ 4)) ⊎ ((IsNumber 0 4 word → ⊥) × (model ≡ 0))

-- no line before has what a control of this path and model has
abbrev pub IsFreeControl : List Line → List ℕ → List ℕ → Type 0
IsFreeControl before path word = (model : ℕ) × IsModel word model × (AnyIs (λ key. IsTaken (claims before) key) (control_keys (domain_of before) (node_of before) path model) → ⊥)

-- at least one setting group, and at most as many as there are is active
abbrev pub IsActive : List ℕ → List ℕ → Type 0
IsActive count active = (n : ℕ) × (count ≡ decimal n) × (n ≤ 16) × IsNumber 1 n active

-- After these lines, in a line of this form that may stand there, the first word that isn't right is of this kind.
abbrev pub IsWrong : List Line → Form → ℕ → Type 0
IsWrong before (forms.Config version) kind = Else kind kinds.number (IsNumber 1 1 version) ⊥
IsWrong before (forms.Ld name) kind =
    Else kind kinds.name (IsName name)
    (Else kind kinds.duplicate (IsAmong (heads before) name → ⊥) ⊥)
IsWrong before (forms.Ln name) kind =
    Else kind kinds.name (IsName name)
    (Else kind kinds.duplicate (IsAmong (heads before) (node_key (domain_of before) name) → ⊥) ⊥)
IsWrong before (forms.Attr fc path type_ flags values) kind =
    Else kind kinds.name (IsConstraint fc)
    (Else kind kinds.name (IsPath path)
    (Else kind kinds.duplicate (IsTaken (claims before) (item_key (domain_of before) (node_of before) fc path) → ⊥)
    (Else kind kinds.type_ (IsTypeWord type_)
    (Else kind kinds.flags (IsFlags flags)
    (Else kind kinds.value (AreValues type_ values) ⊥)))))
IsWrong before (forms.Set name) kind =
    Else kind kinds.name (IsName name)
    (Else kind kinds.duplicate (IsAmong (sets before) (set_key (domain_of before) (node_of before) name) → ⊥) ⊥)
IsWrong before (forms.Member reference) kind = Else kind kinds.name (IsReference reference) ⊥
IsWrong before (forms.Brcb name rpt_id dat_set conf_rev opt_flds buf_tm trg_ops intg_pd capacity) kind =
    Else kind kinds.name (IsName name)
    (Else kind kinds.duplicate (IsTaken (claims before) (item_key (domain_of before) (node_of before) (codes "BR") name) → ⊥)
    (Else kind kinds.value (IsTextValue 129 rpt_id)
    (Else kind kinds.value (IsTextValue 1000 dat_set)
    (Else kind kinds.number (IsNumber 1 4294967295 conf_rev)
    (Else kind kinds.value (IsBits 10 opt_flds)
    (Else kind kinds.number (IsNumber 0 4294967295 buf_tm)
    (Else kind kinds.value (IsBits 6 trg_ops)
    (Else kind kinds.number (IsNumber 0 4294967295 intg_pd)
    (Else kind kinds.number (IsNumber 1 1048576 capacity) ⊥)))))))))
IsWrong before (forms.Ctl path model timeout class type_) kind =
    Else kind kinds.name (IsPath path)
    (Else kind kinds.duplicate (IsFreeControl before path model)
    (Else kind kinds.number (IsNumber 0 4 model)
    (Else kind kinds.number (IsNumber 1 4294967295 timeout)
    (Else kind kinds.number (IsNumber 0 1 class)
    (Else kind kinds.type_ (IsControlType type_) ⊥)))))
IsWrong before (forms.Sgcb count active) kind =
    Else kind kinds.duplicate (IsTaken (claims before) (group_key (domain_of before) (codes "LLN0")) → ⊥)
    (Else kind kinds.number (IsNumber 1 16 count)
    (Else kind kinds.number (IsActive count active) ⊥))
IsWrong before form kind = ⊥
