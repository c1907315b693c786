-- Number, layer and place of the faults of templates and names, and how a refusal is told.
-- layer_word: the layer's name; refusal_text: number, layer and place in words
use Rattle.std.specs.Prelude.{ℕ, List, ◌++◌, codes, decimal}
use Rattle.names.specs.declared.fault.Layer.{Layer}
use Rattle.names.specs.declared.fault.Layer.TheVariants as layer
use Rattle.names.specs.declared.fault.Refusal.{Refusal}
use Rattle.names.specs.declared.fault.TemplateFault.{TemplateFault}
use Rattle.names.specs.declared.fault.TemplateFault.TheVariants.{Naan, Shoulder, Letter, Mask, Early}
use Rattle.names.specs.declared.fault.NameFault.{NameFault}
use Rattle.names.specs.declared.fault.NameFault.TheVariants.{Length, Byte, Check}

abbrev pub template_refusal : TemplateFault → Refusal
template_refusal (Naan at) = record { number = 1; layer = layer.Template; place = at }
template_refusal (Shoulder at) = record { number = 2; layer = layer.Template; place = at }
template_refusal (Letter at) = record { number = 3; layer = layer.Template; place = at }
template_refusal (Mask at) = record { number = 4; layer = layer.Template; place = at }
template_refusal (Early at) = record { number = 5; layer = layer.Template; place = at }

abbrev pub name_refusal : NameFault → Refusal
name_refusal (Length at) = record { number = 6; layer = layer.Name; place = at }
name_refusal (Byte at) = record { number = 7; layer = layer.Name; place = at }
name_refusal (Check at) = record { number = 8; layer = layer.Name; place = at }

abbrev pub layer_word : Layer → List ℕ
layer_word layer.Template = codes "template"
layer_word layer.Name = codes "name"
layer_word layer.Source = codes "source"
layer_word layer.Register = codes "register"
layer_word layer.Store = codes "store"
layer_word layer.Command = codes "command"
layer_word layer.Program = codes "program"

abbrev pub refusal_text : Refusal → List ℕ
refusal_text x = codes "refused " ++ decimal x.number ++ codes ", " ++ layer_word x.layer ++ codes ", place " ++ decimal x.place
