-- What a whole input is answered with.
-- lines_text, lines_desk: what the lines of an open session write, and what they leave
-- open_text: those lines and the end
-- Awaited: the lines until one opens the session: what they write and leave, the form of the template, if one did, and the lines after it
-- awaited: of some lines; session_text: of a whole session; report: of an input
-- needed: how many bytes a buffer must have; served_answer, served_buffer: an input answered in a buffer
use Rattle.std.specs.Prelude.{ℕ, ◌+◌, ◌*◌, Bool, cond, List, [], ◌∷◌, ◌++◌, length, drop, Some, None, Ok, Err, Option, Result, nat_lt}
use Rattle.commands.specs.Faults.{command_refusal}
use Rattle.commands.specs.declared.fault.CommandFault.{CommandFault}
use Rattle.commands.specs.declared.fault.CommandFault.TheVariants.{Input, Output}
use Rattle.machine.specs.Machine.{fresh}
use Rattle.names.specs.Forms.{Form}
use Rattle.names.specs.Naming.{total, name_of}
use Rattle.names.specs.Validate.{reads}
use Rattle.reports.specs.Reports.{line, refused}
use Rattle.sessions.specs.Ends.{closing}
use Rattle.sessions.specs.Frames.{Desk, answered}
use Rattle.sessions.specs.Opening.{NewDesk, opened}
use Rattle.sessions.specs.Tallies.{untallied}
use Rattle.sources.specs.Choices.{by_letter, serving}
use Rattle.sources.specs.Lists.{has}
use Rattle.sources.specs.Stock.{Stock}
use Rattle.sources.specs.Subcounters.{new_ahead}
use Rattle.sources.specs.declared.source.Stand.TheVariants.{Ahead, Foreign}
use Rattle.texts.specs.Pieces.{pieces}

-- ---- an open session; each line finds 4,096 bytes free

abbrev pub lines_text : Desk → List (List ℕ) → List ℕ
lines_text d [] = []
lines_text d (l ∷ ls) = (answered 4096 d l).text ++ lines_text (answered 4096 d l).desk ls

abbrev pub lines_desk : Desk → List (List ℕ) → Desk
lines_desk d [] = d
lines_desk d (l ∷ ls) = lines_desk (answered 4096 d l).desk ls

abbrev pub open_text : Desk → List (List ℕ) → List ℕ
open_text d ls = lines_text d ls ++ closing (lines_desk d ls).tallies (lines_desk d ls).minted

-- ---- a session that is new

pub record Awaited : Type 0 where
  pub desk : NewDesk
  pub text : List ℕ
  pub form : Option Form
  pub rest : List (List ℕ)

abbrev pub after_text : List ℕ → Awaited → Awaited
after_text t a = record { desk = a.desk; text = t ++ a.text; form = a.form; rest = a.rest }

abbrev pub awaited : NewDesk → List (List ℕ) → Awaited
awaited d [] = record { desk = d; text = []; form = None; rest = [] }
awaited d (l ∷ ls) = elim (opened 4096 d l).outcome [
  | Ok f ↦ record { desk = (opened 4096 d l).desk; text = (opened 4096 d l).text; form = Some f; rest = ls }
  | Err e ↦ after_text (opened 4096 d l).text (awaited (opened 4096 d l).desk ls)
]

-- all numbers of a template's form, in the order that its letter asks for
abbrev pub source_of : Form → Stock
source_of f = record {
  ahead = new_ahead (total f.mask) (by_letter (serving f));
  stands = λ n. cond (has n (new_ahead (total f.mask) (by_letter (serving f)))) Ahead Foreign;
  reach = total f.mask;
  named = name_of f;
  reads = reads f;
  checked = f.check;
}

-- a new register over them and a chain table of 529 records
abbrev pub open_desk : NewDesk → Form → Desk
open_desk d f = record { machine = fresh (source_of f) 512; tallies = d.tallies; lines = d.lines; minted = 0 }

abbrev pub by_form : Awaited → Option Form → List ℕ
by_form a None = a.text
by_form a (Some f) = a.text ++ open_text (open_desk a.desk f) a.rest

abbrev pub session_text : NewDesk → List (List ℕ) → List ℕ
session_text d ls = by_form (awaited d ls) (awaited d ls).form

-- ---- an input

-- nothing was read yet, and the log of 64 records has no tally
abbrev pub unread : NewDesk
unread = record { tallies = untallied 63; lines = 0 }

abbrev pub too_long : List ℕ
too_long = line (refused 0 (command_refusal Input).number (command_refusal Input).place)

abbrev pub report : List ℕ → List ℕ
report input = cond (nat_lt 32768 (length input)) too_long (session_text unread (pieces 10 input))

-- ---- an input answered in a buffer

-- 4,096 bytes for each line and the end; an input that is too long has no line
abbrev pub needed : List ℕ → ℕ
needed input = 4096 * (cond (nat_lt 32768 (length input)) 0 (length (pieces 10 input)) + 1)

-- a buffer that is too short is refused and stays as it was; else the report fills its front, and what lies past it stays
abbrev pub short_of : List ℕ → List ℕ → Bool
short_of input out = nat_lt (length out) (needed input)

abbrev pub served_answer : List ℕ → List ℕ → Result ℕ CommandFault
served_answer input out = cond (short_of input out) (Err Output) (Ok (length (report input)))

abbrev pub served_buffer : List ℕ → List ℕ → List ℕ
served_buffer input out = cond (short_of input out) out (report input ++ drop (length (report input)) out)
