-- The PPDUs that make a connection: CP, the request, and CPA, the acceptance (ISO 8823-1, "CP-type" and "CPA-PPDU").
use Rattle.std.specs.Prelude.{◌≡◌, ℕ, Bool, List, [], ◌∷◌, length, Option, Some, None}
use Rattle.ber_grammar.specs.Place.{Spot, Piece, content_piece}
use Rattle.session_pres.specs.declared.codes.TheConstants.{ACCEPT, MODE_SELECTOR, MODE_VALUE, NORMAL_MODE_PARAMETERS, CONTEXT_DEFINITION_LIST, CONTEXT_RESULT_LIST, RESULT, TRANSFER_SYNTAX, FULLY_ENCODED_DATA, SEQUENCE, SET}
use Rattle.session_pres.specs.declared.fault.SpFault.{SpFault}
use Rattle.session_pres.specs.declared.fault.SpFault.TheVariants as faults
use Rattle.ber_grammar.specs.Steps.{Then, Or, Else, IsLacking}
use Rattle.ber_grammar.specs.Fields.{AreFields, IsField, IsOnly, first_with}
use Rattle.session_pres.specs.Units.{HasData, IsDataRefused}
use Rattle.session_pres.specs.UserData.{IsPdvList}
use Rattle.session_pres.specs.ContextList.{Context, Chosen, IsContextList, IsChosen, ber, acse, mms, flags_from}

-- the content of the first element of this tag
abbrev pub IsTagged : ℕ → List Spot → Piece → Type 0
IsTagged tag fields content = first_with tag fields ≡ Some content

-- The mode-selector, [0], is a SET. The first [0] in it, the mode-value, has the one octet 1: the normal mode.
abbrev pub IsNormal : List Spot → Piece → Type 0
IsNormal fields mode = (selector : Piece) × IsTagged MODE_SELECTOR fields selector × IsField MODE_VALUE selector mode × (mode.octets ≡ 1 ∷ [])

-- the user data in this context
abbrev pub IsUser : List Spot → ℕ → Piece → Type 0
IsUser fields number user = (values : Piece) × IsTagged FULLY_ENCODED_DATA fields values × IsPdvList values (number, user)

-- what a request gives: the contexts of ACSE and of MMS, which of the list are accepted, and the APDU
pub record Request : Type 0 where
  pub acse : ℕ
  pub mms : ℕ
  pub list : List Bool
  pub user : Piece

abbrev pub request : List Context → Chosen → Chosen → Piece → Request
request contexts a m user = record { acse = a.number; mms = m.number; list = flags_from 0 (length contexts) a.place m.place; user = user }

-- One SET has the normal mode, and its parameters in [2]. Other elements are passed over.
abbrev pub HasParameters : Piece → Piece → Type 0
HasParameters input = Then (IsOnly SET input) (λ content. Then (AreFields content) (λ set. Then (IsNormal set) (λ mode. IsTagged NORMAL_MODE_PARAMETERS set)))

-- the refusals of each step, in their order
abbrev pub AreParametersRefused : Piece → SpFault → Type 0
AreParametersRefused input = Else faults.Parameter (IsOnly SET input) (λ content. Else faults.Parameter (AreFields content) (λ set.
    Else faults.Mode (IsNormal set) (λ mode. IsLacking faults.NoAcseContext (IsTagged NORMAL_MODE_PARAMETERS set))))

-- A CP has the context definition list in [4], and the user data in the context of ACSE.
abbrev pub IsCp : Piece → Request → Type 0
IsCp input = Then (HasParameters input) (λ parameters. Then (AreFields parameters) (λ fields. Then (IsTagged CONTEXT_DEFINITION_LIST fields) (λ content. Then (IsContextList content) (λ contexts.
    Then (IsChosen acse contexts) (λ a. Then (IsChosen mms contexts) (λ m. Then (IsUser fields a.number) (λ user cp. cp ≡ request contexts a m user)))))))

abbrev pub IsCpRefused : Piece → SpFault → Type 0
IsCpRefused input = Or (AreParametersRefused input) (HasParameters input) (λ parameters. Else faults.Parameter (AreFields parameters) (λ fields.
    Else faults.NoAcseContext (IsTagged CONTEXT_DEFINITION_LIST fields) (λ content. Else faults.Parameter (IsContextList content) (λ contexts.
    Else faults.NoAcseContext (IsChosen acse contexts) (λ a. Else faults.NoMmsContext (IsChosen mms contexts) (λ m. IsLacking faults.Pdv (IsUser fields a.number)))))))

-- ---- CPA

-- A result: a SEQUENCE that says acceptance, 0 in [0], and BER as the transfer syntax, in [1].
abbrev pub IsAcceptance : Spot → Type 0
IsAcceptance s = (s.element.tag ≡ SEQUENCE) × (fields : List Spot) × AreFields (content_piece s) fields
    × (result syntax : Piece) × IsTagged RESULT fields result × (result.octets ≡ 0 ∷ []) × IsTagged TRANSFER_SYNTAX fields syntax × (syntax.octets ≡ ber)

abbrev pub first_in : List Spot → Option Spot
first_in [] = None
first_in (s ∷ ss) = Some s

abbrev pub second_in : List Spot → Option Spot
second_in [] = None
second_in (s ∷ []) = None
second_in (s ∷ t ∷ ss) = Some t

abbrev pub IsAccepted : Option Spot → Spot → Type 0
IsAccepted found s = (found ≡ Some s) × IsAcceptance s

-- A CPA has the results in [5]: the first of the context of ACSE, whose number is 1, and the second of that of MMS.
-- What further results say is disregarded.
abbrev pub IsCpa : Piece → Piece → Type 0
IsCpa input = Then (HasParameters input) (λ parameters. Then (AreFields parameters) (λ fields. Then (IsTagged CONTEXT_RESULT_LIST fields) (λ content. Then (AreFields content) (λ results.
    Then (IsAccepted (first_in results)) (λ a. Then (IsAccepted (second_in results)) (λ m. IsUser fields 1))))))

abbrev pub IsCpaRefused : Piece → SpFault → Type 0
IsCpaRefused input = Or (AreParametersRefused input) (HasParameters input) (λ parameters. Else faults.Parameter (AreFields parameters) (λ fields.
    Else faults.NoAcseContext (IsTagged CONTEXT_RESULT_LIST fields) (λ content. Else faults.Parameter (AreFields content) (λ results.
    Else faults.NoAcseContext (IsAccepted (first_in results)) (λ a. Else faults.NoMmsContext (IsAccepted (second_in results)) (λ m. IsLacking faults.Pdv (IsUser fields 1)))))))

-- an ACCEPT whose user data are a CPA
abbrev pub IsAc : Piece → Piece → Type 0
IsAc input = Then (HasData ACCEPT input) IsCpa

abbrev pub IsAcRefused : Piece → SpFault → Type 0
IsAcRefused input = Or (IsDataRefused ACCEPT input) (HasData ACCEPT input) IsCpaRefused
