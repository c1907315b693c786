use Rattle.std.proofs.Common.{refl}
use Rattle.sessions.proofs.Framing.{wrapped, refused_by_register}
use Rattle.sessions.specs.Frames.{desk}
use Rattle.sessions.proofs.line.hear.Goals as goal

pub returns-in-Some-clause-replied : goal.returns-in-Some-clause-replied
returns-in-Some-clause-replied g c = λ s k u.
    let d = desk g.S.Source.stock g.T.Store.pairs g.T.Store.capacity g.U.Store.pairs g.U.Store.capacity c.args.register.now c.args.tallies.now c.args.session in
    refused_by_register d _ (c.perform-done.ensures.did s k) (wrapped _ _ c.map-fault.ensures.cases c.in-Some.is) c.refuse.ensures.text (c.refuse.ensures.after u) refl c.saturating_add.ensures refl
