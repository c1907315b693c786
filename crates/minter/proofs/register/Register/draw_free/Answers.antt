-- One draw more of a number that is held. Assumes nothing.
use Rattle.std.proofs.Common.{rules}
use Rattle.machine.specs.Machine.{with_lists}
use Rattle.minter.specs.Meaning.{meaning}
use Rattle.minter.proofs.register.Register.draw_free.Goals as goal

pub loop-n-preserved : goal.loop-n-preserved
loop-n-preserved g c =
    let m = meaning g.S.Source.stock g.T.Store.pairs g.T.Store.capacity c.loop-n.self in
    let after = c.set_aside.ensures.after (with_lists m (g.S.Source.stock c.draw.new.self) m.aside m.returned) in
    search rules
