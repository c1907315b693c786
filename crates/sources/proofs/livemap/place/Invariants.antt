use Rattle.std.proofs.Common.{◌≡◌, ◌^◌, ◌<◌, drop}
use Rattle.sources.specs.Maps.{bits_from}
use Rattle.sources.proofs.livemap.place.Given as goal

abbrev pub invariant-loop : goal.invariant-loop
invariant-loop l = (l.left < 2 ^ 64) × (drop l.counter (bits_from 64 l.base l.word) ≡ bits_from 64 l.base l.left)
