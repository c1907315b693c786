-- A list with no wrong number is sound, and so is the empty one. Assumes nothing.
use Rattle.std.proofs.Common.{[], sym, ap, ◌∙◌, zero-le}
use Rattle.sources.specs.Named.{total_of}
use Rattle.sources.specs.RollLaws.{Sound, accepted_sound, sound_none}
use Rattle.sources.specs.Rolls.{first_wrong}
use Rattle.sources.proofs.roll.Roll.new.Goals as goal
use Rattle.sources.proofs.roll.Roll.new.Goals.{in-None, in-Some}

pub invariant_of-roll : goal.invariant_of-roll
invariant_of-roll c =
    let t = total_of c.args.template in
    let xs = c.args.numbers.now in
    let sound : Sound t c.match-wrong.numbers.now = elim c.match-wrong.branch [
      | in-None w ↦ rw w.numbers-is (accepted_sound t xs (sym (w.in-None.ensures ∙ ap (λ k. first_wrong k [] xs) c.total.ensures.value)))
      | in-Some w ↦ rw w.numbers-is (sound_none t)
    ] in
    record { within = zero-le; once = sound.once; below = sound.below }
