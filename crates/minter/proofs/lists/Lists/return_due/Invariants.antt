use Rattle.std.proofs.Common.{◌≡◌, ◌++◌, vec_items, vec_len}
use Rattle.machine.specs.Machine.{numbers, by, later_than, in_order}
use Rattle.minter.proofs.lists.Lists.return_due.Given as goal

abbrev pub invariant-loop-n : goal.invariant-loop-n
invariant-loop-n l = record {
  returned : vec_items l.self.returned ++ numbers (in_order (by l.until (vec_items l.self.delayed))) ≡ vec_items l.initial.self.returned ++ numbers (in_order (by l.until (vec_items l.initial.self.delayed)));
  delayed : later_than l.until (vec_items l.self.delayed) ≡ later_than l.until (vec_items l.initial.self.delayed);
  aside : l.self.aside ≡ l.initial.self.aside;
  held : l.self.held ≡ l.initial.self.held;
}

abbrev pub decreases-loop-n : goal.decreases-loop-n
decreases-loop-n l = vec_len l.self.delayed
