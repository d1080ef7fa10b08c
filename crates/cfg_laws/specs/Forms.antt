-- The forms of lines: the first word, and as many words after it as the line has, whatever they are.
use Rattle.std.specs.Prelude.{◌≡◌, ◌≤◌, ◌⊎◌, ◌&&◌, nat_le, ℕ, Bool, true, List, [], ◌∷◌, length, codes}
use Rattle.std.specs.List.{list_all, join_with_byte}
use Rattle.text_words.specs.Octets.{IsSkipped}
use Rattle.text_words.specs.Values.{is_graphic}
use Rattle.cfg_lines.specs.Before.{groups_of}
use Rattle.cfg_lines.specs.declared.line.Line.{Line}

pub data Form : Type 0 where
  Skip : Form
  Config : (version : List ℕ) → Form
  Server : (vendor model revision : List ℕ) → Form
  Ld : (name : List ℕ) → Form
  Ln : (name : List ℕ) → Form
  Attr : (fc path kind flags : List ℕ) (values : List (List ℕ)) → Form
  Set : (name : List ℕ) → Form
  Member : (reference : List ℕ) → Form
  Brcb : (name rpt_id dat_set conf_rev opt_flds buf_tm trg_ops intg_pd capacity : List ℕ) → Form
  Ctl : (path model timeout class kind : List ℕ) → Form
  Sgcb : (count active : List ℕ) → Form
  End : Form

abbrev pub words : Form → List (List ℕ)
words Skip = []
words (Config version) = codes "config" ∷ version ∷ []
words (Server vendor model revision) = codes "server" ∷ vendor ∷ model ∷ revision ∷ []
words (Ld name) = codes "ld" ∷ name ∷ []
words (Ln name) = codes "ln" ∷ name ∷ []
words (Attr fc path kind flags values) = codes "attr" ∷ fc ∷ path ∷ kind ∷ flags ∷ values
words (Set name) = codes "set" ∷ name ∷ []
words (Member reference) = codes "member" ∷ reference ∷ []
words (Brcb name rpt_id dat_set conf_rev opt_flds buf_tm trg_ops intg_pd capacity) =
    codes "brcb" ∷ name ∷ rpt_id ∷ dat_set ∷ conf_rev ∷ opt_flds ∷ buf_tm ∷ trg_ops ∷ intg_pd ∷ capacity ∷ []
words (Ctl path model timeout class kind) = codes "ctl" ∷ path ∷ model ∷ timeout ∷ class ∷ kind ∷ []
words (Sgcb count active) = codes "sgcb" ∷ count ∷ active ∷ []
words End = codes "end" ∷ []

-- One value. Under SG one for each group of the domain, and one at least where it has none.
abbrev pub AreAsMany : List Line → List ℕ → List (List ℕ) → Type 0
AreAsMany before fc values = ((fc ≡ codes "SG" → ⊥) × (length values ≡ 1))
    ⊎ (((fc ≡ codes "SG") × (groups_of before ≡ 0) × (1 ≤ length values)) ⊎ ((fc ≡ codes "SG") × (1 ≤ groups_of before) × (length values ≡ groups_of before)))

abbrev pub HasCount : List Line → Form → Type 0
HasCount before (Attr fc path kind flags values) = AreAsMany before fc values
HasCount before form = Unit {0}

-- a word has octets 21 to 7E, and one at least
abbrev pub is_word : List ℕ → Bool
is_word word = nat_le 1 (length word) && list_all is_graphic word

-- words are divided by one space
abbrev pub IsText : List Line → List ℕ → Form → Type 0
IsText before text Skip = IsSkipped text
IsText before text form = (text ≡ join_with_byte 32 (words form)) × (list_all is_word (words form) ≡ true) × HasCount before form
