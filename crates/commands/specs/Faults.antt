-- Number, layer and place of the faults of a line.
use Rattle.machine.specs.Faults.{register_refusal}
use Rattle.names.specs.Faults.{template_refusal}
use Rattle.names.specs.declared.fault.Layer.TheVariants as layer
use Rattle.names.specs.declared.fault.Refusal.{Refusal}
use Rattle.commands.specs.declared.fault.CommandFault.{CommandFault}
use Rattle.commands.specs.declared.fault.CommandFault.TheVariants.{Template, Register, Line, Lines, Output, Input}

abbrev pub command_refusal : CommandFault → Refusal
command_refusal (Template fault) = template_refusal fault
command_refusal (Register fault) = register_refusal fault
command_refusal (Line at) = record { number = 27; layer = layer.Command; place = at }
command_refusal Lines = record { number = 28; layer = layer.Command; place = 0 }
command_refusal Output = record { number = 29; layer = layer.Command; place = 0 }
command_refusal Input = record { number = 30; layer = layer.Program; place = 0 }
