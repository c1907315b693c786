use Rattle.serving.proofs.Answering.{goes_on}
use Rattle.serving.proofs.lines.answer_lines.Goals as goal

pub loop-line-preserved : goal.loop-line-preserved
loop-line-preserved g c =
    let going = c.loop-line.invariant in
    let line = c.line.ensures in
    goes_on going c.in-Some.ensures.steps (line.replied going.sound going.stored going.tallied) (line.brief going.sound going.stored) (line.sound going.sound going.stored) (line.store going.stored) (line.tallies going.tallied) search
