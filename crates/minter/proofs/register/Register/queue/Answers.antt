-- What a call leaves sound. Assumes nothing.
use Rattle.std.proofs.Common.{rules}
use Rattle.machine.specs.Calls.{Queue}
use Rattle.machine.proofs.Keeps.{kept_by}
use Rattle.minter.proofs.register.Register.queue.Goals as goal

pub returns-then-delay-eq0-clause-sound : goal.returns-then-delay-eq0-clause-sound
returns-then-delay-eq0-clause-sound g c = λ s t. kept_by (Queue c.args.name.now c.args.delay) _ _ (search rules) s

pub returns-else-delay-eq0-clause-sound : goal.returns-else-delay-eq0-clause-sound
returns-else-delay-eq0-clause-sound g c = λ s t. kept_by (Queue c.args.name.now c.args.delay) _ _ (search rules) s
