-- What a template means.
-- form: its parts; told: what a reading answers
use Rattle.std.specs.Prelude.{Ok, Err, Result}
use Rattle.names.specs.declared.fault.TemplateFault.{TemplateFault}
use Rattle.names.specs.declared.template.Template.{Template}
use Rattle.names.specs.Forms.{Form}
use Rattle.names.specs.Reader.{form_of}

abbrev pub form : Template → Form
form t = form_of t.text t.shape

abbrev pub told : Result Template TemplateFault → Result Form TemplateFault
told (Ok t) = Ok (form t)
told (Err e) = Err e
