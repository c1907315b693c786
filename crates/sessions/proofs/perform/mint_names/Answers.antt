use Rattle.std.proofs.Common.{sym, refl, ◌∙◌, arith}
use Rattle.sessions.proofs.Lending.{lends_join}
use Rattle.sessions.proofs.Performs.{goes_on, ends_refused}
use Rattle.sessions.proofs.perform.mint_names.Goals as goal

pub returns-then-is_some-clause-did : goal.returns-then-is_some-clause-did
returns-then-is_some-clause-did g c = λ s k.
    let going = c.loop-i.invariant.minting s k in
    ends_refused c.loop-i-test.true going (c.ask-one.ensures.did going.sound going.store) (sym c.is_some.ensures ∙ c.if-is_some.true) refl refl

pub loop-i-preserved : goal.loop-i-preserved
loop-i-preserved g c =
    let inv = c.loop-i.invariant in
    let one = c.ask-one.ensures in
    record {
      minting = λ s k. let going = inv.minting s k in
          goes_on c.loop-i-test.true going (one.did going.sound going.store) (sym c.is_some.ensures ∙ c.if-is_some.false) (one.sound going.sound going.store) (one.store going.store);
      untouched = λ z. absurd (omega (arith, z));
      lends = lends_join inv.lends one.lends;
      store = λ k. one.store (inv.store k);
    }
