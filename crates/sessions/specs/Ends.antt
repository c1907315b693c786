-- What the end of a session writes.
-- tally_line: the line of a refusal number that was met; tally_lines: those of so many numbers, from one on, rising
-- closing: the lines of the end
-- Closes: of the code, an end was answered so
use Rattle.std.specs.Prelude.{◌≡◌, ℕ, zero, suc, ◌+◌, true, false, List, [], ◌++◌, Some, None, Ok, Err, Option, Result, nat_lt}
use Rattle.commands.specs.declared.fault.CommandFault.TheVariants.{Output}
use Rattle.reports.specs.Reports.{line, tally, total}
use Rattle.texts.specs.Output.{Puts}
use Rattle.texts.specs.declared.output.Output as output
use Rattle.sessions.specs.Tallies.{Tallies, under}
use Rattle.sessions.specs.declared.end.StillOpen.{StillOpen}
use Rattle.sessions.specs.declared.session.EndedSession.{EndedSession}
use Rattle.sessions.specs.declared.session.OpenSession.{OpenSession}

abbrev pub tally_line : ℕ → Option ℕ → List ℕ
tally_line n None = []
tally_line n (Some many) = line (tally n many)

unfoldable pub tally_lines : Tallies → ℕ → ℕ → List ℕ
tally_lines t zero n = []
tally_lines t (suc k) n = tally_line n (t.counts (under n)) ++ tally_lines t k (n + 1)

-- the refusal numbers are 1 to 30
abbrev pub closing : Tallies → ℕ → List ℕ
closing t minted = tally_lines t 30 1 ++ line (total minted)

-- the session has ended with its lines written, or is open still for want of 4,096 free bytes, and nothing was written
abbrev pub Closes : ℕ → Tallies → OpenSession → output.Output → output.Output → Result EndedSession StillOpen → Type 0
Closes free t s old new (Ok e) = (nat_lt free 4096 ≡ false) × (e ≡ record { lines = s.lines; minted = s.minted }) × Puts old (closing t s.minted) new
Closes free t s old new (Err o) = (nat_lt free 4096 ≡ true) × (o.session ≡ s) × (o.fault ≡ Output) × (new ≡ old)
