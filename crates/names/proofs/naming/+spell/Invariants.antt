use Rattle.std.proofs.Common.{length}
use Rattle.names.proofs.naming.+spell.Given as goal

abbrev pub decreases-spell : goal.decreases-spell
decreases-spell l = length l.mask.now
