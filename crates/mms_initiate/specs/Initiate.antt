-- Initiate-RequestPDU and Initiate-ResponsePDU (ISO 9506-2), by their tags.
use Rattle.std.specs.Prelude.{◌≡◌, ℕ, ◌<◌, ◌≤◌, List, [], ◌∷◌, ◌++◌}
use Rattle.ber_grammar.specs.Element.{Element, Spells, IsRow}
use Rattle.mms_elements.specs.declared.fault.PduFault.{PduFault}
use Rattle.mms_elements.specs.declared.fault.PduFault.TheVariants.{UnknownPdu, UnknownService, Argument, Invalid, SmallSize}
use Rattle.mms_initiate.specs.declared.initiate.Initiate.{Initiate}
use Rattle.mms_elements.specs.Tagged.{IsNumber}
use Rattle.mms_elements.specs.declared.tags.TheConstants.{INIT_DETAIL, LOCAL_DETAIL, NESTING_LEVEL, OUTSTANDING_CALLED, OUTSTANDING_CALLING, PARAMETER_CBB, SERVICES_SUPPORTED, VERSION_NUMBER}

-- a number that may be left out, and what it counts as then
abbrev pub IsOptional : ℕ → ℕ → List Element → ℕ → Type 0
IsOptional tag absent [] n = n ≡ absent
IsOptional tag absent (e ∷ []) n = IsNumber tag e n
IsOptional tag absent (e ∷ d ∷ es) n = ⊥

-- initRequestDetail and initResponseDetail: version, parameters and services, which are whole and no more is said of them
abbrev pub AreDetails : List Element → Type 0
AreDetails [] = ⊥
AreDetails (a ∷ []) = ⊥
AreDetails (a ∷ b ∷ []) = ⊥
AreDetails (a ∷ b ∷ c ∷ []) = (a.tag ≡ VERSION_NUMBER) × (b.tag ≡ PARAMETER_CBB) × (c.tag ≡ SERVICES_SUPPORTED)
AreDetails (a ∷ b ∷ c ∷ d ∷ es) = ⊥

-- the fields, in their order
pub record AreFields (es : List Element) (i : Initiate) : Type 0 where
  pub size : List Element
  pub calling : Element
  pub called : Element
  pub nesting : List Element
  pub detail : Element
  pub details : List Element
  pub whole : es ≡ size ++ (calling ∷ called ∷ (nesting ++ detail ∷ []))
  pub is_size : IsOptional LOCAL_DETAIL 65000 size i.size
  pub is_calling : IsNumber OUTSTANDING_CALLING calling i.calling
  pub is_called : IsNumber OUTSTANDING_CALLED called i.called
  pub is_nesting : IsOptional NESTING_LEVEL 10 nesting i.nesting
  pub is_detail : detail.tag ≡ INIT_DETAIL
  pub row : IsRow detail.content details
  pub are_details : AreDetails details

-- the octets are one element with this tag and these fields
abbrev pub IsInitiate : ℕ → List ℕ → Initiate → Type 0
IsInitiate tag input i = (e : Element) × (es : List Element) × Spells input e × (e.tag ≡ tag) × IsRow e.content es × AreFields es i

-- and the size is one that is accepted
abbrev pub IsAccepted : ℕ → List ℕ → Initiate → Type 0
IsAccepted tag input i = IsInitiate tag input i × (1024 ≤ i.size)

abbrev pub IsInitiateRefused : ℕ → List ℕ → PduFault → Type 0
IsInitiateRefused tag input (SmallSize size) = (i : Initiate) × IsInitiate tag input i × (i.size ≡ size) × (size < 1024)
IsInitiateRefused tag input Invalid = (i : Initiate) → ¬ IsInitiate tag input i
IsInitiateRefused tag input UnknownPdu = ⊥
IsInitiateRefused tag input (UnknownService invoke) = ⊥
IsInitiateRefused tag input (Argument invoke) = ⊥
