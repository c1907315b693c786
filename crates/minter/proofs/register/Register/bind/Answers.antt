-- What a call leaves sound. Assumes nothing.
use Rattle.std.proofs.Common.{rules}
use Rattle.machine.specs.Calls.{Bind}
use Rattle.machine.proofs.Keeps.{kept_by}
use Rattle.minter.proofs.register.Register.bind.Goals as goal

pub returns-clause-sound : goal.returns-clause-sound
returns-clause-sound g c = λ s t. kept_by (Bind c.args.name.now c.args.element c.args.text.now) _ _ (search rules) s
