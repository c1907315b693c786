-- What the call leaves is sound. Assumes nothing.
use Rattle.std.proofs.Common.{rules}
use Rattle.machine.specs.Calls.{Hold}
use Rattle.machine.proofs.Keeps.{kept_by}
use Rattle.minter.proofs.register.Register.hold.Goals as goal

pub returns-clause-sound : goal.returns-clause-sound
returns-clause-sound g c = λ s. kept_by (Hold c.args.name.now) _ _ (search rules) s
