-- Number, layer and place of a store's faults.
use Rattle.names.specs.declared.fault.Layer.TheVariants as layer
use Rattle.names.specs.declared.fault.Refusal.{Refusal}
use Rattle.stores.specs.declared.fault.StoreFault.{StoreFault}
use Rattle.stores.specs.declared.fault.StoreFault.TheVariants.{Full, Length}

abbrev pub store_refusal : StoreFault → Refusal
store_refusal Full = record { number = 24; layer = layer.Store; place = 0 }
store_refusal Length = record { number = 25; layer = layer.Store; place = 0 }
