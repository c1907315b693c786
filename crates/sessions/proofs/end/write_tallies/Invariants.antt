use Rattle.sessions.proofs.Ending.{Tallying}
use Rattle.sessions.specs.Lends.{Lends}
use Rattle.sessions.specs.Tallies.{tallies_in}
use Rattle.sessions.proofs.end.write_tallies.Given as goal

abbrev pub invariant-loop-number : goal.invariant-loop-number
invariant-loop-number g l =
    record {
      tallying : g.U.Store.sound l.tallies → Tallying (tallies_in (g.U.Store.pairs l.tallies) (g.U.Store.capacity l.tallies)) l.number l.initial.out l.out;
      lends : Lends l.initial.out l.out;
    }
