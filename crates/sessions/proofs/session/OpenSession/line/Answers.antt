use Rattle.std.proofs.Common.{◌-◌, ◌≤◌, length, Result, refl, subst}
use Rattle.commands.specs.Forms.{Said}
use Rattle.commands.specs.declared.fault.CommandFault.{CommandFault}
use Rattle.sessions.proofs.Lengths.{read_short}
use Rattle.sessions.specs.Frames.{desk, framed}
use Rattle.sessions.proofs.session.OpenSession.line.Goals as goal

pub returns-clause-brief : goal.returns-clause-brief
returns-clause-brief g c = λ s k.
    let free = length c.args.out.now.bytes.now - c.args.out.now.fill in
    let d = desk g.S.Source.stock g.T.Store.pairs g.T.Store.capacity g.U.Store.pairs g.U.Store.capacity c.args.register.now c.args.tallies.now c.args.self in
    subst (λ (x : Result Said CommandFault). length (framed free d x).text ≤ 4096) c.read_command.ensures.value
    (c.frame.ensures.brief s k (read_short c.args.text.now d.machine c.read_command.result c.read_command.ensures.reading s.lawful.short (g.T.Store.pairs c.args.register.now.texts) refl))
