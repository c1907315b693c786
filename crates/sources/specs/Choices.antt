-- What choosers choose.
-- bits48: the 48 bits that drand48 makes of a draw number.
-- drand48: the index that these bits choose, among so many live subcounters.
-- by_letter: the index under a template's letter; serving: the chooser that serves a template's letter.
use Rattle.std.specs.Prelude.{ℕ, ◌+◌, ◌*◌, ◌/◌, ◌%◌, ◌^◌, cond, ◌==◌}
use Rattle.names.specs.Forms.{Form}
use Rattle.sources.specs.declared.chooser.ByLetter.{ByLetter}
use Rattle.sources.specs.declared.chooser.ByLetter.TheVariants.{Ordered, Scrambled}

-- seeded with the low 32 bits of the draw number; the constants are those of POSIX
abbrev pub bits48 : ℕ → ℕ
bits48 draw = (0x5DEECE66D * ((draw % 2 ^ 32) * 65536 + 13070) + 0xB) % 2 ^ 48

-- the bits as a fraction of 2^48, scaled to the count of live subcounters and rounded down
abbrev pub drand48 : ℕ → ℕ → ℕ
drand48 draw live = bits48 draw * live / 2 ^ 48

abbrev pub by_letter : ByLetter → ℕ → ℕ → ℕ
by_letter Ordered draw live = 0
by_letter Scrambled draw live = drand48 draw live

-- Scrambled for r, byte 114; Ordered for s
abbrev pub serving : Form → ByLetter
serving f = cond (f.letter == 114) Scrambled Ordered
