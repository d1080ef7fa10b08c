-- The fault that a refusal names.
use Rattle.std.specs.Prelude.{Option, None, Some}
use Rattle.bay_model.specs.Acceptance.{Fault, IsOpen, NotOpen, NotYours, QueueFull}
use Rattle.bay_histories.specs.declared.fault.StepFault.{StepFault}
use Rattle.bay_histories.specs.declared.fault.StepFault.TheVariants as faults

-- the fault that a refusal names; out of memory is no fault of the step
abbrev pub named : StepFault → Option Fault
named (faults.IsOpen a) = Some (IsOpen a.0)
named (faults.NotOpen a) = Some (NotOpen a.0)
named (faults.NotYours a) = Some (NotYours a.0)
named (faults.QueueFull a) = Some (QueueFull a.0)
named faults.Memory = None
