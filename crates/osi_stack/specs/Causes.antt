-- A layer and the number of its refusal, in the order of the layer's tests.
use Rattle.std.specs.Prelude.{◌≡◌, ℕ, Result, Ok, Err}
use Rattle.tpkt_cotp.specs.declared.fault.TpFault.{TpFault}
use Rattle.tpkt_cotp.specs.declared.fault.TpFault.TheVariants as transport
use Rattle.session_pres.specs.declared.fault.SpFault.{SpFault}
use Rattle.session_pres.specs.declared.fault.SpFault.TheVariants as session
use Rattle.acse_apdu.specs.declared.fault.AcFault.{AcFault}
use Rattle.acse_apdu.specs.declared.fault.AcFault.TheVariants as association
use Rattle.mms_elements.specs.declared.fault.PduFault.{PduFault}
use Rattle.mms_elements.specs.declared.fault.PduFault.TheVariants as pdu
use Rattle.osi_stack.specs.declared.cause.Cause.{Cause}
use Rattle.osi_stack.specs.declared.cause.LayerFault.{LayerFault}
use Rattle.osi_stack.specs.declared.cause.LayerFault.TheVariants.{Transport, Session, Association, Initiate}
use Rattle.osi_stack.specs.declared.cause.Stop.{Stop}
use Rattle.osi_stack.specs.declared.cause.Stop.TheVariants.{Memory, Refused}

-- session and presentation are one layer
abbrev pub layer_at : LayerFault → ℕ
layer_at (Transport f) = 1
layer_at (Session f) = 2
layer_at (Association f) = 3
layer_at (Initiate f) = 4

abbrev pub number_at : LayerFault → ℕ
number_at (Transport transport.Version) = 1
number_at (Transport transport.Length) = 2
number_at (Transport transport.Tpdu) = 3
number_at (Transport transport.Class) = 4
number_at (Transport transport.Sequence) = 5
number_at (Transport transport.TsduLimit) = 6
number_at (Transport transport.Memory) = 0
number_at (Session session.Spdu) = 1
number_at (Session session.Parameter) = 2
number_at (Session session.Mode) = 3
number_at (Session session.NoAcseContext) = 4
number_at (Session session.NoMmsContext) = 5
number_at (Session session.Pdv) = 6
number_at (Association association.Apdu) = 1
number_at (Association association.ContextName) = 2
number_at (Association association.NoUserInformation) = 3
number_at (Initiate pdu.UnknownPdu) = 1
number_at (Initiate (pdu.UnknownService invoke)) = 2
number_at (Initiate (pdu.Argument invoke)) = 3
number_at (Initiate pdu.Invalid) = 4
number_at (Initiate (pdu.SmallSize size)) = 5

abbrev pub refused_at : LayerFault → Cause
refused_at f = record { layer = layer_at f; code = number_at f }

abbrev pub of_transport : TpFault → Cause
of_transport f = refused_at (Transport f)

abbrev pub of_session : SpFault → Cause
of_session f = refused_at (Session f)

abbrev pub of_association : AcFault → Cause
of_association f = refused_at (Association f)

abbrev pub of_initiate : PduFault → Cause
of_initiate f = refused_at (Initiate f)

-- ---- what the program says of them

abbrev pub transport_stop : TpFault → Stop
transport_stop transport.Memory = Memory
transport_stop f = Refused (of_transport f)

-- what a function stopped at is what the definition refuses, unless there was no memory
abbrev pub IsStop : {Y : Type 0} → Stop → Result Y Cause → Type 0
IsStop Memory read = Unit {0}
IsStop (Refused cause) read = read ≡ Err cause

-- what a function returned, seen by view, is what the definition has
abbrev pub Comes : {X Y : Type 0} → (X → Y) → Result X Stop → Result Y Cause → Type 0
Comes view (Ok x) read = read ≡ Ok (view x)
Comes view (Err s) read = IsStop s read
