-- What a call leaves sound. Assumes nothing.
use Rattle.std.proofs.Common.{rules}
use Rattle.machine.specs.Calls.{Purge}
use Rattle.machine.proofs.Keeps.{kept_by}
use Rattle.minter.proofs.register.Register.purge.Goals as goal

pub returns-then-drop_text-clause-sound : goal.returns-then-drop_text-clause-sound
returns-then-drop_text-clause-sound g c = λ s t. kept_by (Purge c.args.name.now c.args.element) _ _ (search rules) s
