-- The presentation context definition list (ISO 8823-1, "Presentation-context-definition-list"), and what is chosen of it.
use Rattle.std.specs.Prelude.{◌≡◌, ◌≢◌, ℕ, zero, suc, ◌+◌, Bool, true, false, ◌||◌, ◌⊎◌, List, [], ◌∷◌, ◌==◌}
use Rattle.ber_grammar.specs.Place.{Spot, Piece, content_piece}
use Rattle.session_pres.specs.declared.codes.TheConstants.{INTEGER, OBJECT_IDENTIFIER, SEQUENCE}
use Rattle.ber_grammar.specs.Fields.{AreFields}
use Rattle.session_pres.specs.UserData.{IsContext}
use Rattle.sv_base.specs.declared.object_ids.TheConstants.{BER, ACSE, MMS}

-- a context: its number, its abstract syntax, and whether BER is one of its transfer syntaxes
pub record Context : Type 0 where
  pub number : ℕ
  pub syntax : List ℕ
  pub has_ber : Bool

-- The contents of three OBJECT IDENTIFIERs: the basic encoding rules of BER (ITU-T X.690, 12.2), the abstract syntaxes of
-- ACSE (ISO 8650-1) and of MMS (ISO 9506-2).
abbrev pub ber : List ℕ
ber = BER

abbrev pub acse : List ℕ
acse = ACSE

abbrev pub mms : List ℕ
mms = MMS

-- one of them is the OBJECT IDENTIFIER of BER
abbrev pub HasBer : List Spot → Type 0
HasBer [] = ⊥
HasBer (s ∷ ss) = ((s.element.tag ≡ OBJECT_IDENTIFIER) × (s.element.content ≡ ber)) ⊎ HasBer ss

abbrev pub SaysBer : Bool → List Spot → Type 0
SaysBer true syntaxes = HasBer syntaxes
SaysBer false syntaxes = ¬ HasBer syntaxes

-- a SEQUENCE of INTEGER, OBJECT IDENTIFIER, and a SEQUENCE of transfer syntaxes
abbrev pub AreContextFields : List Spot → Context → Type 0
AreContextFields (a ∷ b ∷ c ∷ []) d = (a.element.tag ≡ INTEGER) × IsContext a.element.content d.number × (b.element.tag ≡ OBJECT_IDENTIFIER) × (d.syntax ≡ b.element.content)
    × (c.element.tag ≡ SEQUENCE) × (syntaxes : List Spot) × AreFields (content_piece c) syntaxes × SaysBer d.has_ber syntaxes
AreContextFields _ d = ⊥

abbrev pub IsDefinition : Spot → Context → Type 0
IsDefinition s d = (s.element.tag ≡ SEQUENCE) × (fields : List Spot) × AreFields (content_piece s) fields × AreContextFields fields d

abbrev pub AreDefinitions : List Spot → List Context → Type 0
AreDefinitions [] [] = Unit {0}
AreDefinitions [] (d ∷ ds) = ⊥
AreDefinitions (s ∷ ss) [] = ⊥
AreDefinitions (s ∷ ss) (d ∷ ds) = IsDefinition s d × AreDefinitions ss ds

abbrev pub IsContextList : Piece → List Context → Type 0
IsContextList content contexts = (spots : List Spot) × AreFields content spots × AreDefinitions spots contexts

-- The context at this place is the first of this abstract syntax.
abbrev pub IsFirst : List ℕ → List Context → ℕ → Context → Type 0
IsFirst syntax [] place d = ⊥
IsFirst syntax (c ∷ cs) zero d = (c.syntax ≡ syntax) × (d ≡ c)
IsFirst syntax (c ∷ cs) (suc n) d = (c.syntax ≢ syntax) × IsFirst syntax cs n d

-- a place in the list, and the number of the context there
pub record Chosen : Type 0 where
  pub place : ℕ
  pub number : ℕ

-- The first context of this abstract syntax lists BER, and is chosen.
abbrev pub IsChosen : List ℕ → List Context → Chosen → Type 0
IsChosen syntax contexts chosen = (d : Context) × IsFirst syntax contexts chosen.place d × (d.has_ber ≡ true) × (chosen.number ≡ d.number)

-- whether each of n contexts, from this place on, is one of the two
abbrev pub flags_from : ℕ → ℕ → ℕ → ℕ → List Bool
flags_from place zero a b = []
flags_from place (suc n) a b = (place == a || place == b) ∷ flags_from (place + 1) n a b
