-- What the call leaves is sound. Assumes nothing.
use Rattle.std.proofs.Common.{rules}
use Rattle.machine.specs.Calls.{Tick}
use Rattle.machine.proofs.Keeps.{kept_by}
use Rattle.minter.proofs.register.Register.tick.Goals as goal

pub returns-clause-sound : goal.returns-clause-sound
returns-clause-sound g c = λ s. kept_by (Tick c.args.to) _ _ (search rules) s
