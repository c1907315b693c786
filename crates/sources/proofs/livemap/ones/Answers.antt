-- A word's count of ones. Assumes nothing.
use Rattle.std.proofs.Common.{sym}
use lib.Count.{ones-le}
use Rattle.sources.proofs.Words.{count}
use Rattle.sources.proofs.livemap.ones.Goals as goal

pub returns : goal.returns
returns c = record { counted = λ b. sym (count 64 b c.args.word c.ranges.word.fits); few = ones-le 64 c.args.word c.ranges.word.fits }
