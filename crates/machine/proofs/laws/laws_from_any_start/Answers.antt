use Rattle.std.proofs.Common.{refl}
use Rattle.machine.proofs.Limits.{passed_once}
use Rattle.machine.proofs.Runs.{from_any_start, stays_sound, stays_matched, same_naming}
use Rattle.machine.proofs.laws.laws_from_any_start.Goals as goal

pub returns : goal.returns
returns c = record { count = refl; law = from_any_start; sound = stays_sound; matched = stays_matched; naming = same_naming; once = passed_once }
