-- The law over runs, for the calls of an input's lines.
-- line_calls, open_calls: the calls that a line, and the lines of an open session, put to the register
-- Ruled: of an open session, the law over runs holds of its calls; RuledInput: of an input
use Rattle.std.specs.Prelude.{◌≡◌, ℕ, cond, List, [], ◌∷◌, ◌++◌, is_ok, Some, None, Ok, Err, Option, Result, nat_le}
use Rattle.commands.specs.Forms as forms
use Rattle.commands.specs.Forms.{Said}
use Rattle.commands.specs.declared.fault.CommandFault.{CommandFault}
use Rattle.machine.specs.Calls.{Asked}
use Rattle.machine.specs.History.{told}
use Rattle.machine.specs.Law.{Law, is_name_of, new}
use Rattle.machine.specs.Machine.{Machine, fresh, final, answers}
use Rattle.machine.specs.Names.{Name}
use Rattle.names.specs.Forms.{Form}
use Rattle.names.specs.Naming.{name_of}
use Rattle.names.specs.Validate.{reads}
use Rattle.sessions.specs.Frames.{Desk, answered}
use Rattle.sessions.specs.Opening.{NewDesk}
use Rattle.sessions.specs.Performing.{calls}
use Rattle.serving.specs.Serving.{lines_desk, Awaited, awaited, source_of, open_desk, unread}
use Rattle.texts.specs.Pieces.{pieces}

-- a line that was not read puts none
abbrev pub read_calls : Machine → Result Said CommandFault → List Asked
read_calls m (Ok s) = calls m s
read_calls m (Err f) = []

-- nor does line 65,536
abbrev pub line_calls : Desk → List ℕ → List Asked
line_calls d l = cond (nat_le 65535 d.lines) [] (read_calls d.machine (forms.reads l))

abbrev pub open_calls : Desk → List (List ℕ) → List Asked
open_calls d [] = []
open_calls d (l ∷ ls) = line_calls d l ++ open_calls (answered 4096 d l).desk ls

-- of a session over the names of f, with these lines after its opening
pub record Ruled (d : NewDesk) (f : Form) (ls : List (List ℕ)) : Type 0 where
  -- the source's names are exactly those that the template reads, and each waits for its first turn
  pub names : (t : Name) → is_name_of (source_of f) t ≡ is_ok (reads f t)
  pub turns : (t : Name) → (new (source_of f)).waiting t ≡ is_ok (reads f t)
  -- the law over runs, whole, of the calls of the lines and their answers
  pub law : Law (source_of f) (new (source_of f)) (told (name_of f) (open_calls (open_desk d f) ls) (answers (fresh (source_of f) 512) (open_calls (open_desk d f) ls)))
  -- and these calls make the register that the session ends with
  pub after : (lines_desk (open_desk d f) ls).machine ≡ final (fresh (source_of f) 512) (open_calls (open_desk d f) ls)

abbrev pub RuledBy : Awaited → Option Form → Type 0
RuledBy a None = Unit {0}
RuledBy a (Some f) = Ruled a.desk f a.rest

-- an input that never opens a session puts no call
abbrev pub RuledInput : List ℕ → Type 0
RuledInput input = RuledBy (awaited unread (pieces 10 input)) (awaited unread (pieces 10 input)).form
