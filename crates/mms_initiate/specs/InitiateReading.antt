-- Reading an initiate from left to right.
use Rattle.std.specs.Prelude.{ℕ, ◌==◌, ◌&&◌, nat_lt, Bool, false, List, [], ◌∷◌, Option, Some, None, Result, Ok, Err, if◌then◌else◌}
use Rattle.ber_grammar.specs.Element.{Element}
use Rattle.ber_grammar.specs.Reader.{and_then, kept}
use Rattle.ber_grammar.specs.Rows.{parts_at}
use Rattle.mms_elements.specs.declared.fault.PduFault.{PduFault}
use Rattle.mms_elements.specs.declared.fault.PduFault.TheVariants.{Invalid, SmallSize}
use Rattle.mms_initiate.specs.declared.initiate.Initiate.{Initiate}
use Rattle.ber_grammar.specs.Fields.{whole_at}
use Rattle.mms_elements.specs.Tagged.{number_at}
use Rattle.mms_elements.specs.declared.tags.TheConstants.{INIT_DETAIL, LOCAL_DETAIL, NESTING_LEVEL, OUTSTANDING_CALLED, OUTSTANDING_CALLING, PARAMETER_CBB, SERVICES_SUPPORTED, VERSION_NUMBER}

abbrev pub are_details : List Element → Bool
are_details [] = false
are_details (a ∷ []) = false
are_details (a ∷ b ∷ []) = false
are_details (a ∷ b ∷ c ∷ []) = a.tag == VERSION_NUMBER && b.tag == PARAMETER_CBB && c.tag == SERVICES_SUPPORTED
are_details (a ∷ b ∷ c ∷ d ∷ es) = false

-- the last field
unfoldable pub detail_at : Initiate → List Element → Option Initiate
detail_at i [] = None
detail_at i (d ∷ []) = if d.tag == INIT_DETAIL then and_then (kept (parts_at d.content)) (λ ds. if are_details ds then Some i else None) else None
detail_at i (d ∷ e ∷ es) = None

unfoldable pub nesting_at : ℕ → ℕ → ℕ → List Element → Option Initiate
nesting_at size calling called [] = None
nesting_at size calling called (e ∷ es) =
    if e.tag == NESTING_LEVEL then and_then (number_at NESTING_LEVEL e) (λ nesting. detail_at (record { size = size; calling = calling; called = called; nesting = nesting }) es)
    else detail_at (record { size = size; calling = calling; called = called; nesting = 10 }) (e ∷ es)

unfoldable pub calls_at : ℕ → List Element → Option Initiate
calls_at size [] = None
calls_at size (a ∷ []) = None
calls_at size (a ∷ b ∷ es) = and_then (number_at OUTSTANDING_CALLING a) (λ calling. and_then (number_at OUTSTANDING_CALLED b) (λ called. nesting_at size calling called es))

unfoldable pub fields_at : List Element → Option Initiate
fields_at [] = None
fields_at (e ∷ es) = if e.tag == LOCAL_DETAIL then and_then (number_at LOCAL_DETAIL e) (λ size. calls_at size es) else calls_at 65000 (e ∷ es)

-- the fields of an element with this tag
abbrev pub tagged_at : ℕ → Element → Option Initiate
tagged_at tag e = if e.tag == tag then and_then (kept (parts_at e.content)) fields_at else None

abbrev pub proposal_at : ℕ → List ℕ → Option Initiate
proposal_at tag input = and_then (whole_at input) (tagged_at tag)

abbrev pub judged : Option Initiate → Result Initiate PduFault
judged None = Err Invalid
judged (Some i) = if nat_lt i.size 1024 then Err (SmallSize i.size) else Ok i

unfoldable pub initiate_at : ℕ → List ℕ → Result Initiate PduFault
initiate_at tag input = judged (proposal_at tag input)
