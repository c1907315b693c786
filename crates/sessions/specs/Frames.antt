-- What a line of an open session does.
-- Desk: an open session with what it works on; desk: the same of the code's values
-- Answered: what a line leaves, what it writes, and why it was refused, if it was
-- refusing: a line that is refused; concluded: one whose command was performed; heard: one that was read, or was not
-- counted: one line more; unheard: a line that is not even counted; framed: every line; answered: every line by its bytes
-- roomy: that an output has room for a line or an end; admitted: that one line more is counted
-- Within: a bound on what a command reports
-- Replied: of the code, a line was answered so
use Rattle.std.specs.Prelude.{◌≡◌, ℕ, ◌+◌, ◌≤◌, min, cond, List, [], ◌++◌, length, Some, None, Ok, Err, Option, Result, nat_le, nat_lt}
use Rattle.commands.specs.Faults.{command_refusal}
use Rattle.commands.specs.Forms.{Said, reads}
use Rattle.commands.specs.declared.fault.CommandFault.{CommandFault}
use Rattle.commands.specs.declared.fault.CommandFault.TheVariants.{Register, Lines, Output}
use Rattle.machine.specs.Machine.{Machine}
use Rattle.minter.specs.Meaning.{meaning}
use Rattle.minter.specs.declared.register.Register as register
use Rattle.machine.specs.declared.text.Text.{Text}
use Rattle.reports.specs.Reports.{line, refused}
use Rattle.sources.specs.Stock.{Stock}
use Rattle.stores.specs.declared.tally.TallyKey.{TallyKey}
use Rattle.stores.specs.declared.text.TextKey.{TextKey}
use Rattle.texts.specs.Output.{Puts}
use Rattle.texts.specs.declared.output.Output as output
use Rattle.sessions.specs.Performing.{Performed, performed}
use Rattle.sessions.specs.Tallies.{Tallies, tallies_in, tallied}
use Rattle.sessions.specs.declared.session.OpenSession.{OpenSession}
use Rattle.sessions.specs.declared.line.Reply.{Reply}

pub record Desk : Type 0 where
  pub machine : Machine
  pub tallies : Tallies
  -- the lines counted, and the names minted, as far as 64 bits go
  pub lines : ℕ
  pub minted : ℕ

-- of a register, the store of its tallies and a session
abbrev pub desk : {S T U : Type 0} → (S → Stock) → (T → List (TextKey × Text)) → (T → ℕ) → (U → List (TallyKey × ℕ)) → (U → ℕ) → register.Register S T → U → OpenSession → Desk
desk stock pairs capacity counts room r u s = record { machine = meaning stock pairs capacity r; tallies = tallies_in (counts u) (room u); lines = s.lines; minted = s.minted }

pub record Answered : Type 0 where
  pub desk : Desk
  pub text : List ℕ
  pub fault : Option CommandFault

-- the report says which line, and why; the refusal is tallied
abbrev pub refusing : Desk → List ℕ → CommandFault → Answered
refusing d text f = record {
  desk = record { machine = d.machine; tallies = tallied (command_refusal f).number d.tallies; lines = d.lines; minted = d.minted };
  text = text ++ line (refused d.lines (command_refusal f).number (command_refusal f).place);
  fault = Some f;
}

-- with the register and the names of a command that was performed
abbrev pub with_command : Desk → Performed → Desk
with_command d p = record { machine = p.machine; tallies = d.tallies; lines = d.lines; minted = min (d.minted + p.minted) 18446744073709551615 }

abbrev pub concluded : Desk → Performed → Answered
concluded d p = elim p.fault [ None ↦ record { desk = with_command d p; text = p.text; fault = None } | Some f ↦ refusing (with_command d p) p.text (Register f) ]

abbrev pub heard : Desk → Result Said CommandFault → Answered
heard d (Err f) = refusing d [] f
heard d (Ok s) = concluded d (performed d.machine s)

abbrev pub counted : Desk → Desk
counted d = record { machine = d.machine; tallies = d.tallies; lines = d.lines + 1; minted = d.minted }

abbrev pub unheard : Desk → CommandFault → Answered
unheard d f = record { desk = d; text = []; fault = Some f }

-- with so many bytes free for output, and so many lines counted
abbrev pub roomy : ℕ → Result (Unit {0}) CommandFault
roomy free = cond (nat_lt free 4096) (Err Output) (Ok tt)

abbrev pub admitted : ℕ → ℕ → Result (Unit {0}) CommandFault
admitted free lines = cond (nat_le 65535 lines) (Err Lines) (roomy free)

-- with so many bytes free for output: 28 for line 65,536, then 29 under 4,096 free bytes, then what the line says
abbrev pub framed : ℕ → Desk → Result Said CommandFault → Answered
framed free d read = cond (nat_le 65535 d.lines) (unheard d Lines) (cond (nat_lt free 4096) (unheard d Output) (heard (counted d) read))

abbrev pub answered : ℕ → Desk → List ℕ → Answered
answered free d text = framed free d (reads text)

-- of a command that was read: its report has at most 4,000 bytes
abbrev pub Within : Machine → Result Said CommandFault → Type 0
Within m (Ok s) = length (performed m s).text ≤ 4000
Within m (Err f) = Unit {0}

pub record Replied (a : Answered) (after : Desk) (old new : output.Output) (reply : Reply) : Type 0 where
  pub desk : after ≡ a.desk
  pub text : Puts old a.text new
  pub fault : reply.fault ≡ a.fault
