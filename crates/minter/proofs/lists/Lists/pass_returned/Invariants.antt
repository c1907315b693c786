use Rattle.std.proofs.Common.{◌≡◌, ◌-◌, drop, vec_items}
use Rattle.machine.specs.Machine.{Machine}
use Rattle.minter.specs.Meaning.{over}
use Rattle.minter.specs.Passes.{passed}
use Rattle.minter.proofs.lists.Lists.pass_returned.Given as goal

abbrev pub invariant-loop : goal.invariant-loop
invariant-loop l =
    ((m : Machine) → passed (over m l.self) (l.many - l.counter) ≡ passed (over m l.initial.self) l.many)
    × (vec_items l.self.returned ≡ drop l.counter (vec_items l.initial.self.returned))
