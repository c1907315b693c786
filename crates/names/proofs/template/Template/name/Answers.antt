use Rattle.std.proofs.Common.{rules}
use Rattle.names.specs.Templates.{form}
use Rattle.names.proofs.Guarded.{undo}
use Rattle.names.proofs.Templates.{good}
use Rattle.names.proofs.template.Template.name.Goals as goal

pub returns : goal.returns
returns c = record { value = search rules; undo = undo (form c.args.self.now) (good c.args.self.now) }
