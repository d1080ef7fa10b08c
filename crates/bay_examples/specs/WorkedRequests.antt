-- Worked histories: requests, their replies, data sets that a client defines, and steps that are refused (ISO 9506-2, the
-- confirmed services; that 16 replies of an association may wait is this profile's own).
use Rattle.std.specs.Prelude.{false, ◌≡◌, ℕ, zero, suc, true, List, [], ◌∷◌, ◌++◌, reverse, Some, None, codes}
use Rattle.sv_base.specs.declared.value.Value.TheVariants as kinds
use Rattle.bay_model.specs.declared.answer.Answer.TheVariants.{Empty, Closed}
use Rattle.bay_model.specs.declared.reply.Reply.TheVariants as replies
use Rattle.bay_model.specs.declared.request.Scope.TheVariants as scopes
use Rattle.bay_model.specs.declared.request.Service.{Service}
use Rattle.bay_model.specs.declared.request.Service.TheVariants as services
use Rattle.sv_base.specs.declared.components.Comp.TheVariants as comps
use Rattle.bay_model.specs.Sizes.{within}
use Rattle.bay_model.specs.Answers.{Turn}
use Rattle.bay_model.specs.Acceptance.{IsOpen, NotOpen, NotYours, QueueFull, fault}
use Rattle.bay_examples.specs.ExampleNodes.{domain}
use Rattle.bay_examples.specs.Example.{example}
use Rattle.bay_examples.specs.ExampleTurns.{at, open_direct, lost, take, enable, write, set_power, Answered}
use Rattle.bay_examples.specs.ExampleAnswers.{refused, report, unmarked, changed, power}
use Rattle.bay_examples.specs.ExampleControl.{example_control}
use Rattle.bay_examples.specs.ExampleCommands.{select_with, operate_with, done}
use Rattle.bay_examples.specs.ExampleRequests.{ask, target, write_to, replied, wrote}

-- Replies wait, and are taken in their order.
abbrev pub RepliesInOrder : Type 0
RepliesInOrder = Answered (example 200) (open_direct 1 ∷ ask 1 1 services.Status ∷ ask 1 2 (services.Reject 2) ∷ ask 1 0 services.Conclude ∷ [])
    (take 1 ∷ take 1 ∷ take 1 ∷ take 1 ∷ [])
    (replied 1 replies.Status ∷ replied 2 (replies.Reject 2) ∷ replied 0 replies.Conclude ∷ Empty ∷ [])

-- A block that is enabled by a request: the reply comes first, and then the report.
abbrev pub EnabledByRequest : Type 0
EnabledByRequest = Answered (example 200) (open_direct 1 ∷ at 10 (set_power 5) ∷ at 10 (write_to 1 1 (target 4 (codes "LLN0$BR$brcbEv01$RptEna")) (kinds.Bool true)) ∷ [])
    (at 10 (take 1) ∷ at 10 (take 1) ∷ [])
    (wrote 1 ∷ report 0 1 10 unmarked (power 5 changed ∷ []) ∷ [])

abbrev pub define : Service
define = services.Define domain (codes "LLN0$Alarms") (target 34 (codes "MMXU1$MX$TotW$mag$i") ∷ [])

abbrev pub delete : Service
delete = services.Delete 0 (record { domain = domain; item = codes "LLN0$Alarms" } ∷ [])

-- A data set that was defined can be defined once, is listed, and isn't deleted while the block names it.
abbrev pub DefinedSet : Type 0
DefinedSet = Answered (example 200) (open_direct 1 ∷ ask 1 1 define ∷ ask 1 2 define ∷ ask 1 3 (services.Names 2 (scopes.Domain domain) None) ∷ write 1 comps.DatSet (kinds.Text (codes "BAY1/LLN0$Alarms")) ∷ ask 1 4 delete ∷ write 1 comps.DatSet (kinds.Text []) ∷ ask 1 5 delete ∷ [])
    (take 1 ∷ take 1 ∷ take 1 ∷ take 1 ∷ take 1 ∷ enable 1 ∷ [])
    (replied 1 replies.Defined ∷ replied 2 (replies.Error 2 5) ∷ replied 3 (replies.Names (codes "LLN0$Alarms" ∷ codes "LLN0$Events" ∷ [])) ∷ replied 4 (replies.Deleted 1 0) ∷ replied 5 (replies.Deleted 1 1) ∷ refused 8 ∷ [])

-- Names come in the order of their octets, those after a name that need not be there; a configured set isn't
-- deleted though no block names it, and a domain that isn't there has none.
abbrev pub NamesAndDeletions : Type 0
NamesAndDeletions = Answered (example 200) (open_direct 1 ∷ write 1 comps.DatSet (kinds.Text []) ∷ ask 1 1 define ∷ ask 1 2 (services.Names 2 (scopes.Domain domain) (Some (codes "LLN0$Alarms"))) ∷ ask 1 3 (services.Names 2 (scopes.Domain domain) (Some (codes "LLN0$A")))
    ∷ ask 1 4 (services.Names 9 scopes.Vmd None) ∷ ask 1 5 (services.Names 9 (scopes.Domain (codes "BAY2")) None) ∷ ask 1 6 (services.Delete 0 (record { domain = domain; item = codes "LLN0$Events" } ∷ record { domain = domain; item = codes "LLN0$Alarms" } ∷ record { domain = domain; item = codes "LLN0$Alarms" } ∷ []))
    ∷ ask 1 7 (services.Delete 1 []) ∷ ask 1 8 (services.Define domain (codes "LLN0$9") (target 34 (codes "MMXU1$MX$TotW$mag$i") ∷ [])) ∷ [])
    (take 1 ∷ take 1 ∷ take 1 ∷ take 1 ∷ take 1 ∷ take 1 ∷ take 1 ∷ take 1 ∷ [])
    (replied 1 replies.Defined ∷ replied 2 (replies.Names (codes "LLN0$Events" ∷ [])) ∷ replied 3 (replies.Names (codes "LLN0$Alarms" ∷ codes "LLN0$Events" ∷ [])) ∷ replied 4 (replies.Names (domain ∷ []))
    ∷ replied 5 (replies.Error 7 2) ∷ replied 6 (replies.Deleted 2 1) ∷ replied 7 (replies.Error 7 3) ∷ replied 8 (replies.Error 7 2) ∷ [])

-- Names go on while those before them are no more octets than the size; each of these is eight octets with its tag and length.
abbrev pub NamesOfSize : Type 0
NamesOfSize = (within 7 (codes "Alarms" ∷ codes "Events" ∷ codes "States" ∷ []) ≡ codes "Alarms" ∷ [])
    × (within 8 (codes "Alarms" ∷ codes "Events" ∷ codes "States" ∷ []) ≡ codes "Alarms" ∷ codes "Events" ∷ [])
    × (within 16 (codes "Alarms" ∷ codes "Events" ∷ codes "States" ∷ []) ≡ codes "Alarms" ∷ codes "Events" ∷ codes "States" ∷ [])

-- requests of a, one after another
abbrev pub asks : ℕ → ℕ → List Turn
asks a zero = []
asks a (suc count) = ask a count services.Status ∷ asks a count

-- A request is refused while 16 replies wait, and accepted once one of them was taken.
abbrev pub WaitingRepliesFull : Type 0
WaitingRepliesFull = (fault (example 200) (reverse (open_direct 1 ∷ asks 1 16)) (ask 1 16 services.Status) ≡ Some (QueueFull 1))
    × (fault (example 200) (reverse (open_direct 1 ∷ (asks 1 16 ++ take 1 ∷ []))) (ask 1 16 services.Status) ≡ None)

-- Of 15 replies and a termination that wait only the replies count.
abbrev pub TerminationsNotCounted : Type 0
TerminationsNotCounted = fault example_control (reverse (open_direct 1 ∷ select_with 1 1 1 false ∷ operate_with 1 2 1 false ∷ done true ∷ asks 1 13)) (ask 1 16 services.Status) ≡ None

-- Refused steps: an association that is open, one that isn't, and another's; a Take where none is open is Closed.
abbrev pub RefusedSteps : Type 0
RefusedSteps = (fault (example 200) (open_direct 1 ∷ []) (open_direct 1) ≡ Some (IsOpen 1))
    × (fault (example 200) (lost 1 ∷ open_direct 1 ∷ []) (enable 1) ≡ Some (NotOpen 1))
    × (fault (example 200) (open_direct 1 ∷ []) (record (take 1) { actor = 2 }) ≡ Some (NotYours 1))
    × (fault (example 200) (open_direct 1 ∷ []) (record (enable 1) { actor = 2 }) ≡ Some (NotYours 1))
    × (fault (example 200) (open_direct 1 ∷ []) (record (ask 1 1 services.Status) { actor = 2 }) ≡ Some (NotYours 1))
    × (fault (example 200) (open_direct 1 ∷ []) (record (lost 1) { actor = 2 }) ≡ Some (NotYours 1))
    × (Answered (example 200) [] (record (take 1) { actor = 2 } ∷ []) (Closed ∷ []))
