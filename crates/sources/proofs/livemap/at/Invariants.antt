use Rattle.std.proofs.Common.{◌≡◌, ◌*◌, ◌<◌, length, get_or, drop}
use Rattle.sources.specs.Maps.{live_in}
use Rattle.sources.proofs.livemap.at.Given as goal

abbrev pub invariant-loop-i : goal.invariant-loop-i
invariant-loop-i l = (l.left < length (live_in (64 * l.i) (drop l.i l.map))) × (get_or (live_in (64 * l.i) (drop l.i l.map)) l.left 0 ≡ get_or (live_in 0 l.map) l.index 0)
