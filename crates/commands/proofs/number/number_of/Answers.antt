use Rattle.std.proofs.Common.{arith}
use Rattle.commands.proofs.Digits.{below_all}
use Rattle.commands.proofs.number.number_of.Goals as goal

pub overflow_mul-n : goal.overflow_mul-n
overflow_mul-n c = let b = below_all c.loop-b.n c.loop-b.b-index c.loop-b.invariant.small (omega arith) in omega arith

pub overflow_add-n : goal.overflow_add-n
overflow_add-n c = let b = below_all c.loop-b.n c.loop-b.b-index c.loop-b.invariant.small (omega arith) in omega arith
