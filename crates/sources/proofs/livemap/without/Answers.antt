-- A bit cleared. Assumes nothing.
use Rattle.std.proofs.Common.{ℕ, ◌-◌, ap, ◌∙◌}
use lib.Bits.{bit_and}
use Rattle.std.proofs.lemmas.Nat.{one_shl}
use Rattle.sources.specs.Maps.{bits_from}
use Rattle.sources.proofs.Words.{cleared_bit}
use Rattle.sources.proofs.livemap.without.Goals as goal

pub returns : goal.returns
returns c = λ b.
    ap (λ (m : ℕ). bits_from 64 b (bit_and c.args.word (18446744073709551615 - m))) (one_shl c.args.bit 64 c.requires)
    ∙ cleared_bit 64 b c.args.word c.args.bit c.ranges.word.fits c.requires
