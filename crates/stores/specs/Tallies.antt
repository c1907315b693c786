-- Tallies: the keys that they lie under, and the next count.
-- same_tally, tally_hash: keys of refusal numbers
-- raised: one more than the count that there was, as far as 64 bits go
use Rattle.std.specs.Prelude.{ℕ, ◌+◌, ◌%◌, min, Bool, Option, ◌==◌}
use Rattle.std.specs.Option.{unwrap_or}
use Rattle.stores.specs.declared.tally.TallyKey.{TallyKey}

abbrev pub same_tally : TallyKey → TallyKey → Bool
same_tally a b = a.number == b.number

abbrev pub tally_hash : TallyKey → ℕ
tally_hash a = a.number % 16

abbrev pub raised : Option ℕ → ℕ
raised o = min (unwrap_or o 0 + 1) 18446744073709551615
