-- Number, layer and place of the register's faults.
use Rattle.names.specs.Faults.{name_refusal}
use Rattle.names.specs.declared.fault.Layer.TheVariants as layer
use Rattle.names.specs.declared.fault.Refusal.{Refusal}
use Rattle.sources.specs.Faults.{source_refusal}
use Rattle.stores.specs.Faults.{store_refusal}
use Rattle.machine.specs.declared.fault.RegisterFault.{RegisterFault}
use Rattle.machine.specs.declared.fault.RegisterFault.TheVariants.{Name, Source, Store, HeldAlready, NotHeld, HoldPlaces, Waits, IsHeld, HasText, QueuePlaces, Delay, Clock, ElementWord, LongText, NoText, NothingWaits, AllStopped}

abbrev pub register_refusal : RegisterFault → Refusal
register_refusal (Name f) = name_refusal f
register_refusal (Source f) = source_refusal f
register_refusal (Store f) = store_refusal f
register_refusal HeldAlready = record { number = 10; layer = layer.Register; place = 0 }
register_refusal NotHeld = record { number = 11; layer = layer.Register; place = 0 }
register_refusal HoldPlaces = record { number = 12; layer = layer.Register; place = 0 }
register_refusal Waits = record { number = 13; layer = layer.Register; place = 0 }
register_refusal IsHeld = record { number = 14; layer = layer.Register; place = 0 }
register_refusal HasText = record { number = 15; layer = layer.Register; place = 0 }
register_refusal QueuePlaces = record { number = 16; layer = layer.Register; place = 0 }
register_refusal Delay = record { number = 17; layer = layer.Register; place = 0 }
register_refusal Clock = record { number = 18; layer = layer.Register; place = 0 }
register_refusal ElementWord = record { number = 19; layer = layer.Register; place = 0 }
register_refusal LongText = record { number = 20; layer = layer.Register; place = 0 }
register_refusal NoText = record { number = 21; layer = layer.Register; place = 0 }
register_refusal NothingWaits = record { number = 22; layer = layer.Register; place = 0 }
register_refusal AllStopped = record { number = 23; layer = layer.Register; place = 0 }
