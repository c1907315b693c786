use Rattle.std.proofs.Common.{rules}
use Rattle.names.specs.Templates.{form}
use Rattle.names.proofs.Guarded.{guard}
use Rattle.names.proofs.Templates.{good}
use Rattle.names.proofs.template.Template.validate.Goals as goal

pub returns : goal.returns
returns c = record { value = search rules; guard = guard (form c.args.self.now) (good c.args.self.now) }
