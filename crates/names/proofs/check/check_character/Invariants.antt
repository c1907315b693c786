use Rattle.std.proofs.Common.{◌≡◌, ◌+◌, ◌%◌, ◌<◌, drop}
use Rattle.names.specs.Check.{weighted}
use Rattle.names.proofs.check.check_character.Given as goal

abbrev pub invariant-loop-i : goal.invariant-loop-i
invariant-loop-i l = ((l.sum + weighted (l.i + 1) (drop l.i l.text)) % 29 ≡ weighted 1 l.text % 29) × (l.sum < 29)
