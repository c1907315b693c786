use Rattle.std.proofs.Common.{rules}
use Rattle.names.proofs.Templates.{form_own}
use Rattle.names.proofs.template.Template.text.Goals as goal

pub returns : goal.returns
returns c = let own = (form_own c.args.self.now).0 in search rules
