-- The words of a command that is read, and the template of an opening line, have no more bytes than a line. Assumes nothing.
use Rattle.std.proofs.Common.{ℕ, ◌+◌, ◌≤◌, List, length, ap, inl, inr, arith, length-append}
use Rattle.commands.specs.Forms.{Said, mint, hold_set, hold_release, queue, tick, bind_set, bind_purge, fetch, validate}
use Rattle.commands.specs.Spelling.{Reading, Opened}

-- the bytes of a command's words, and of what is typed beside them
abbrev pub Brief : Said → Type 0
Brief (mint n) = Unit {0}
Brief (hold_set name) = length name + 9 ≤ 120
Brief (hold_release name) = length name + 13 ≤ 120
Brief (queue name seconds) = length name + 7 ≤ 120
Brief (tick second) = Unit {0}
Brief (bind_set name word element text) = length name + length word + length text + 11 ≤ 120
Brief (bind_purge name word element) = length name + length word + 12 ≤ 120
Brief (fetch name word element) = length name + length word + 7 ≤ 120
Brief (validate name) = length name + 9 ≤ 120

pub brief : (line : List ℕ) (x : Said) → Reading line x → Brief x
brief line (mint n) r = tt
brief line (hold_set name) r = omega (arith, simp length-append at (ap length r.spelt), r.short)
brief line (hold_release name) r = omega (arith, simp length-append at (ap length r.spelt), r.short)
brief line (queue name seconds) r =
    elim r.spelt [
      | inl e ↦ omega (arith, simp length-append at (ap length e), r.short)
      | inr e ↦ omega (arith, simp length-append at (ap length e.1), r.short)
    ]
brief line (tick second) r = tt
brief line (bind_set name word element text) r = omega (arith, simp length-append at (ap length r.spelt.0), r.short)
brief line (bind_purge name word element) r = omega (arith, simp length-append at (ap length r.spelt.0), r.short)
brief line (fetch name word element) r = omega (arith, simp length-append at (ap length r.spelt.0), r.short)
brief line (validate name) r = omega (arith, simp length-append at (ap length r.spelt), r.short)

pub brief_template : (line template : List ℕ) → Opened line template → length template + 9 ≤ 120
brief_template line template r = omega (arith, simp length-append at (ap length r.spelt), r.short)
