use Rattle.std.proofs.Common.{◌≡◌, length, take, drop}
use Rattle.minter.specs.Meaning.{meaning}
use Rattle.machine.specs.Runs.{Sound}
use Rattle.runs.proofs.Going.{Going}
use Rattle.runs.proofs.run.run_in.Given as goal

abbrev pub invariant-loop-i : goal.invariant-loop-i
invariant-loop-i g l =
    let m = meaning g.S.Source.stock g.T.Store.pairs g.T.Store.capacity in
    (length l.out ≡ length l.initial.out)
    × (drop l.i l.out ≡ drop l.i l.initial.out)
    × (Sound (m l.initial.reg) → g.T.Store.sound l.initial.reg.texts → Going (g.T.Store.sound l.reg.texts) (m l.initial.reg) (m l.reg) (take l.served l.calls) l.i (take l.i l.out))
