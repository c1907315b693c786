use Rattle.std.proofs.Common.{◌≡◌, ◌^◌, ◌<◌, ◌≤◌, length, drop}
use Rattle.commands.specs.Numbers.{digits_on, number}
use Rattle.commands.proofs.number.number_of.Given as goal

abbrev pub invariant-loop-b : goal.invariant-loop-b
invariant-loop-b l = record { read : digits_on l.n (drop l.b-index l.word) ≡ number l.word; small : l.n < 10 ^ l.b-index; short : length l.word ≤ 13 }
