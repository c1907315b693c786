use Rattle.sessions.specs.Frames.{desk}
use Rattle.serving.proofs.Answering.{Answering}
use Rattle.serving.proofs.lines.answer_lines.Given as goal

abbrev pub invariant-loop-line : goal.invariant-loop-line
invariant-loop-line g l =
    let at = desk g.S.Source.stock g.T.Store.pairs g.T.Store.capacity g.U.Store.pairs g.U.Store.capacity in
    Answering (g.T.Store.sound l.register.texts) (g.U.Store.sound l.tallies) (at l.initial.register l.initial.tallies l.initial.session) (at l.register l.tallies l.session) l.initial.line-iterator l.line-iterator l.initial.out l.out
