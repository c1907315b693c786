use Rattle.std.proofs.Common.{◌≡◌, ◌*◌, ◌^◌, ◌≤◌, drop}
use Rattle.names.specs.Naming.{total}
use Rattle.names.proofs.parts.Parts.total.Given as goal

abbrev pub invariant-loop-m : goal.invariant-loop-m
invariant-loop-m l = (l.total * total (drop l.m-index l.self.mask.now) ≡ total l.self.mask.now) × (l.total ≤ 29 ^ l.m-index)
