use Rattle.std.proofs.Common.{◌≡◌}
use Rattle.minter.specs.Meaning.{meaning}
use Rattle.machine.specs.Runs.{Sound}
use Rattle.sessions.proofs.Performs.{Minting}
use Rattle.sessions.specs.Lends.{Lends}
use Rattle.sessions.proofs.perform.mint_names.Given as goal

abbrev pub invariant-loop-i : goal.invariant-loop-i
invariant-loop-i g l =
    let m = meaning g.S.Source.stock g.T.Store.pairs g.T.Store.capacity in
    record {
      minting : Sound (m l.initial.register) → g.T.Store.sound l.initial.register.texts → Minting (g.T.Store.sound l.register.texts) (m l.initial.register) (m l.register) l.count l.i l.initial.out l.out;
      untouched : l.i ≡ 0 → l.register ≡ l.initial.register;
      lends : Lends l.initial.out l.out;
      store : g.T.Store.sound l.initial.register.texts → g.T.Store.sound l.register.texts;
    }
