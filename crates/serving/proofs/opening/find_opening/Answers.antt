use Rattle.std.proofs.Common.{ℕ, List, sym, subst}
use Rattle.sessions.specs.Opening.{new_desk}
use Rattle.texts.specs.Pieces.{pieces}
use Rattle.serving.proofs.Awaiting.{Awaiting, begins, goes_on, opens_here}
use Rattle.serving.proofs.opening.find_opening.Goals as goal

pub loop-line-init : goal.loop-line-init
loop-line-init g c =
    let at = new_desk g.U.Store.pairs g.U.Store.capacity c.args.tallies.now in
    let u = g.U.Store.sound c.args.tallies.now in
    let lines = pieces 10 c.args.input.now in
    subst (λ (n : ℕ). Awaiting u (at 0) (at n) lines c.of-lines.result c.args.out.now c.args.out.now) (sym c.start-session.ensures)
    (subst (λ (left : List (List ℕ)). Awaiting u (at 0) (at 0) lines left c.args.out.now c.args.out.now) (sym c.of-lines.ensures.value) (begins c.requires.tallies c.requires.room))

pub returns-in-Ok-clause-found : goal.returns-in-Ok-clause-found
returns-in-Ok-clause-found g c =
    let going = c.loop-line.invariant in
    opens_here going c.in-Some.ensures.steps c.in-Ok.ensures.brief (c.in-Ok.ensures.led going.tallied)

pub loop-line-preserved : goal.loop-line-preserved
loop-line-preserved g c =
    let going = c.loop-line.invariant in
    let told = c.in-Err.ensures in
    goes_on going c.in-Some.ensures.steps told.brief (told.led going.tallied) (told.sound going.tallied)
