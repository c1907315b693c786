-- What a command does to the register, and what it reports.
-- mints: so many mints, and none after a refused one; calls: the calls that a command puts to the register
-- told_of, tells: the report lines of an answer and of answers, one after another
-- minted_by, names_minted: how many names an answer and answers mint; fault_of, first_fault: why a call, and why the first refused one, was refused
-- Performed: what a command leaves and reports; by_calls, by_look: of a command that is calls, and of one that only looks; performed: of every command
use Rattle.std.specs.Prelude.{◌≡◌, ℕ, zero, suc, ◌+◌, cond, List, [], ◌∷◌, ◌++◌, is_ok, Some, None, Ok, Err, Option, Result}
use Rattle.commands.specs.Forms.{Said, mint, hold_set, hold_release, queue, tick, bind_set, bind_purge, fetch, validate}
use Rattle.machine.specs.Calls.{Asked, Mint, Hold, Release, Queue, Tick, Bind, Purge}
use Rattle.machine.specs.Machine as machine
use Rattle.machine.specs.Machine.{Machine, final, answers}
use Rattle.machine.specs.Names.{Name}
use Rattle.machine.specs.declared.call.Answer.{Answer}
use Rattle.machine.specs.declared.call.Answer.TheVariants.{Minted, Held, Released, Queued, Ticked, Bound, Purged, Refused}
use Rattle.machine.specs.declared.fault.RegisterFault.{RegisterFault}
use Rattle.reports.specs.Reports.{line, minted, clock, held, released, queued, valid, bound, purged, fetched}
use Rattle.texts.specs.Output.{Puts}
use Rattle.texts.specs.declared.output.Output.{Output}
use Rattle.std.specs.Option.{unwrap_or}
use Rattle.sessions.specs.declared.perform.Done.{Done}

-- ---- what is asked

abbrev pub mints : ℕ → Machine → List Asked
mints zero m = []
mints (suc n) m = Mint ∷ cond (is_ok (machine.mint m).1) (mints n (machine.mint m).0) []

-- fetch and validate only look
abbrev pub calls : Machine → Said → List Asked
calls m (mint n) = mints n m
calls m (hold_set t) = Hold t ∷ []
calls m (hold_release t) = Release t ∷ []
calls m (queue t d) = Queue t d ∷ []
calls m (tick s) = Tick s ∷ []
calls m (bind_set t w e x) = Bind t e x ∷ []
calls m (bind_purge t w e) = Purge t e ∷ []
calls m (fetch t w e) = []
calls m (validate t) = []

-- ---- what is reported

-- an accepted call gives one line, with the name of its number; a refused one none
abbrev pub told_of : (ℕ → Name) → List ℕ → Answer → List ℕ
told_of named word (Minted n) = line (minted (named n))
told_of named word (Held n) = line (held (named n))
told_of named word (Released n) = line (released (named n))
told_of named word (Queued n) = line (queued (named n))
told_of named word (Ticked s) = line (clock s)
told_of named word (Bound n) = line (bound (named n) word)
told_of named word (Purged n) = line (purged (named n) word)
told_of named word (Refused f) = []

abbrev pub tells : (ℕ → Name) → List ℕ → List Answer → List ℕ
tells named word [] = []
tells named word (a ∷ bs) = told_of named word a ++ tells named word bs

abbrev pub minted_by : Answer → ℕ
minted_by (Minted n) = 1
minted_by (Held n) = 0
minted_by (Released n) = 0
minted_by (Queued n) = 0
minted_by (Ticked s) = 0
minted_by (Bound n) = 0
minted_by (Purged n) = 0
minted_by (Refused f) = 0

abbrev pub names_minted : List Answer → ℕ
names_minted [] = 0
names_minted (a ∷ bs) = minted_by a + names_minted bs

abbrev pub fault_of : Answer → Option RegisterFault
fault_of (Minted n) = None
fault_of (Held n) = None
fault_of (Released n) = None
fault_of (Queued n) = None
fault_of (Ticked s) = None
fault_of (Bound n) = None
fault_of (Purged n) = None
fault_of (Refused f) = Some f

abbrev pub or_else : Option RegisterFault → Option RegisterFault → Option RegisterFault
or_else (Some f) other = Some f
or_else None other = other

abbrev pub first_fault : List Answer → Option RegisterFault
first_fault [] = None
first_fault (a ∷ bs) = or_else (fault_of a) (first_fault bs)

-- ---- what a command does

pub record Performed : Type 0 where
  -- the register's machine afterwards
  pub machine : Machine
  -- the report lines
  pub text : List ℕ
  -- how many names were minted
  pub minted : ℕ
  -- why the command was refused, if it was
  pub fault : Option RegisterFault

-- the calls are put to the register, and their answers reported
abbrev pub by_calls : Machine → List ℕ → List Asked → Performed
by_calls m word cs = record {
  machine = final m cs;
  text = tells m.source.named word (answers m cs);
  minted = names_minted (answers m cs);
  fault = first_fault (answers m cs);
}

-- nothing changes; what is found is reported
abbrev pub by_look : Machine → (ℕ → List ℕ) → Result ℕ RegisterFault → Performed
by_look m text (Ok n) = record { machine = m; text = text n; minted = 0; fault = None }
by_look m text (Err f) = record { machine = m; text = []; minted = 0; fault = Some f }

abbrev pub performed : Machine → Said → Performed
performed m (mint n) = by_calls m [] (mints n m)
performed m (hold_set t) = by_calls m [] (Hold t ∷ [])
performed m (hold_release t) = by_calls m [] (Release t ∷ [])
performed m (queue t d) = by_calls m [] (Queue t d ∷ [])
performed m (tick s) = by_calls m [] (Tick s ∷ [])
performed m (bind_set t w e x) = by_calls m w (Bind t e x ∷ [])
performed m (bind_purge t w e) = by_calls m w (Purge t e ∷ [])
performed m (fetch t w e) = by_look m (λ n. line (fetched (m.source.named n) w (unwrap_or (machine.fetched m t e) []))) (machine.fetch m t e).1
performed m (validate t) = by_look m (λ n. line (valid (m.source.named n))) (machine.validate m t)

-- of the code: a command did what p says, from a register's machine on, with its lines put into the output
pub record Did (p : Performed) (after : Machine) (old new : Output) (done : Done) : Type 0 where
  pub machine : after ≡ p.machine
  pub text : Puts old p.text new
  pub minted : done.minted ≡ p.minted
  pub fault : done.fault ≡ p.fault
