use Rattle.std.proofs.Common.{◌≡◌, ◌≤◌, length, vec_items, vec_len, vec_capacity}
use Rattle.minter.specs.Meaning.{meaning}
use Rattle.machine.specs.Runs.{Sound}
use Rattle.runs.proofs.Going.{Going}
use Rattle.runs.proofs.run.run.Given as goal

abbrev pub invariant-loop-call : goal.invariant-loop-call
invariant-loop-call g l =
    let m = meaning g.S.Source.stock g.T.Store.pairs g.T.Store.capacity in
    (vec_len l.out ≡ l.call-index)
    × (length l.calls ≤ vec_capacity l.out)
    × (Sound (m l.initial.reg) → g.T.Store.sound l.initial.reg.texts → Going (g.T.Store.sound l.reg.texts) (m l.initial.reg) (m l.reg) l.calls l.call-index (vec_items l.out))
