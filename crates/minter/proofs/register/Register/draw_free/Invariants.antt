use Rattle.std.proofs.Common.{◌≡◌, length}
use Rattle.minter.specs.Meaning.{meaning}
use Rattle.minter.specs.Passes.{drawn_free}
use Rattle.minter.proofs.register.Register.draw_free.Given as goal

abbrev pub invariant-loop-n : goal.invariant-loop-n
invariant-loop-n g l =
    let m = meaning g.S.Source.stock g.T.Store.pairs g.T.Store.capacity in
    (drawn_free (g.S.Source.stock l.self.source).ahead (m l.self) ≡ drawn_free (g.S.Source.stock l.initial.self.source).ahead (m l.initial.self))
    × (l.self.texts ≡ l.initial.self.texts)

abbrev pub decreases-loop-n : goal.decreases-loop-n
decreases-loop-n g l = length (g.S.Source.stock l.self.source).ahead
