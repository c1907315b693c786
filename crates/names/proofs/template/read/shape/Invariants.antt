use Rattle.std.proofs.Common.{◌≡◌, drop}
use Rattle.names.specs.Reader.{walk, read_shape}
use Rattle.names.proofs.template.read.shape.Given as goal

-- what is left, read from here on, gives what the whole text gives
abbrev pub invariant-loop-i : goal.invariant-loop-i
invariant-loop-i l = walk l.s l.i (drop l.i l.text) ≡ read_shape l.text
