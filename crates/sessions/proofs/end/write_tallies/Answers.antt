use Rattle.std.proofs.Common.{arith}
use Rattle.sessions.proofs.Ending.{begins, goes_on, ends, ends_few}
use Rattle.sessions.proofs.Lending.{lends_same, lends_join}
use Rattle.sessions.proofs.end.write_tallies.Goals as goal

pub loop-number-init : goal.loop-number-init
loop-number-init g c = record { tallying = λ k. begins; lends = lends_same }

pub loop-number-preserved : goal.loop-number-preserved
loop-number-preserved g c =
    let inv = c.loop-number.invariant in
    let one = c.write_tally.ensures in
    record {
      tallying = λ k. goes_on c.loop-number-test.true (inv.tallying k) c.loop-number.auto.number (one.text k) (one.brief k);
      lends = lends_join inv.lends one.lends;
    }

pub returns : goal.returns
returns g c =
    let inv = c.loop-number.invariant in
    record { text = λ k. ends (omega arith) (inv.tallying k); brief = λ k. ends_few (omega arith) (inv.tallying k); lends = inv.lends }
