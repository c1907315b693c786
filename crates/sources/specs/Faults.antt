-- Number, layer and place of a source's faults.
use Rattle.names.specs.declared.fault.Layer.TheVariants as layer
use Rattle.names.specs.declared.fault.Refusal.{Refusal}
use Rattle.sources.specs.declared.fault.SourceFault.{SourceFault}
use Rattle.sources.specs.declared.fault.SourceFault.TheVariants.{Foreign, Roll}

abbrev pub source_refusal : SourceFault → Refusal
source_refusal Foreign = record { number = 9; layer = layer.Source; place = 0 }
source_refusal (Roll at) = record { number = 26; layer = layer.Source; place = at }
