use Rattle.std.proofs.Common.{length}
use Rattle.sessions.specs.Opening.{new_desk}
use Rattle.texts.specs.Pieces.{pieces}
use Rattle.serving.proofs.Awaiting.{Awaiting}
use Rattle.serving.proofs.opening.find_opening.Given as goal

abbrev pub invariant-loop-line : goal.invariant-loop-line
invariant-loop-line g l =
    let at = new_desk g.U.Store.pairs g.U.Store.capacity in
    Awaiting (g.U.Store.sound l.tallies) (at l.initial.tallies 0) (at l.tallies l.session.lines) (pieces 10 l.input) l.lines l.initial.out l.out

abbrev pub decreases-loop-line : goal.decreases-loop-line
decreases-loop-line g l = length l.lines
