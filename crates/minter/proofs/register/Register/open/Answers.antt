-- A new register is sound. Assumes nothing.
use Rattle.std.proofs.Common.{sym, subst, rules}
use Rattle.machine.specs.Runs.{Sound}
use Rattle.machine.proofs.Runs.{fresh_sound}
use Rattle.minter.proofs.register.Register.open.Goals as goal

pub returns-clause-sound : goal.returns-clause-sound
returns-clause-sound g c = λ e. let s = fresh_sound (g.S.Source.stock c.args.source) (g.T.Store.capacity c.args.texts) (g.S.Source.lawful c.args.source) in subst Sound (sym (search rules)) s
