-- Why a client goes on no more.
use Rattle.std.specs.Prelude.{ℕ}
use Rattle.mms_elements.specs.declared.fault.PduFault.{PduFault}
use Rattle.mms_elements.specs.declared.fault.PduFault.TheVariants as pdu
use Rattle.osi_stack.specs.declared.fault.StackFault.{StackFault}
use Rattle.osi_stack.specs.declared.fault.StackFault.TheVariants as stack
use Rattle.mms_client.specs.declared.fault.ClientFault.{ClientFault}
use Rattle.mms_client.specs.declared.fault.ClientFault.TheVariants.{Peer, Memory}

abbrev pub of_stack : StackFault → ClientFault
of_stack stack.Memory = Memory
of_stack (stack.Refused layer code octets) = Peer layer code

-- the number of a refusal of a PDU, in the order of the tests
abbrev pub code_of : PduFault → ℕ
code_of pdu.UnknownPdu = 1
code_of (pdu.UnknownService invoke) = 2
code_of (pdu.Argument invoke) = 3
code_of pdu.Invalid = 4
code_of (pdu.SmallSize size) = 5

abbrev pub of_pdu : PduFault → ClientFault
of_pdu f = Peer 5 (code_of f)
