use Rattle.std.proofs.Common.{◌≡◌, ◌-◌, ◌^◌, ◌<◌, true, length, drop}
use Rattle.names.specs.Naming.{with_parts}
use Rattle.names.specs.Validate.{slots, walked}
use Rattle.names.proofs.parts.Parts.walk.Given as goal

abbrev pub invariant-loop-i : goal.invariant-loop-i
invariant-loop-i l =
    (walked l.i l.number (drop l.i (slots (with_parts l.self.prefix.now l.self.mask.now true))) (drop l.i l.text) ≡ walked 0 0 (slots (with_parts l.self.prefix.now l.self.mask.now true)) l.text)
    × (l.number < 29 ^ (l.i - length l.self.prefix.now))
