use Rattle.std.proofs.Common.{arith}
use Rattle.std.proofs.lemmas.Grind.{common_steps}
use Rattle.logs.proofs.Parts.{stays_step, goes_step}
use Rattle.logs.proofs.write.squeeze.Goals as goal
use Rattle.logs.proofs.write.squeeze.Goals.{then-stays, else-stays}

pub loop-i-preserved : goal.loop-i-preserved
loop-i-preserved g c =
    elim c.if-stays.branch [
      | then-stays w ↦ let s = stays_step g.K.Key.alike c.loop-i.entries c.loop-i.w c.loop-i.i c.index-entries-i.result in grind (arith, common_steps, s)
      | else-stays w ↦ let s = goes_step g.K.Key.alike c.loop-i.entries c.loop-i.w c.loop-i.i c.index-entries-i.result in grind (arith, common_steps, s)
    ]
