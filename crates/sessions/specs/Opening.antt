-- What an opening line does to a session that is new.
-- NewDesk: a new session and its tallies; new_desk: the same of the code's values
-- Opened: what an opening line leaves, what it writes, and the form of its template or why it was refused
-- turned_away: a line that is refused; entered: one that says a template, or does not; opened: every line
-- Led: of the code, an opening line was answered so
use Rattle.std.specs.Prelude.{◌≡◌, ℕ, ◌+◌, cond, List, [], Ok, Err, Result, nat_le, nat_lt}
use Rattle.commands.specs.Faults.{command_refusal}
use Rattle.commands.specs.Forms.{opens}
use Rattle.commands.specs.declared.fault.CommandFault.{CommandFault}
use Rattle.commands.specs.declared.fault.CommandFault.TheVariants.{Template, Lines, Output}
use Rattle.names.specs.Forms.{Form}
use Rattle.names.specs.Naming.{total}
use Rattle.names.specs.Reader.{read_template}
use Rattle.names.specs.Templates.{form}
use Rattle.names.specs.declared.fault.TemplateFault.{TemplateFault}
use Rattle.reports.specs.Reports.{line, template, refused}
use Rattle.stores.specs.declared.tally.TallyKey.{TallyKey}
use Rattle.texts.specs.Output.{Puts}
use Rattle.texts.specs.declared.output.Output as output
use Rattle.sessions.specs.Tallies.{Tallies, tallies_in, tallied}
use Rattle.sessions.specs.declared.opening.Entered.{Entered}
use Rattle.sessions.specs.declared.opening.TurnedAway.{TurnedAway}

pub record NewDesk : Type 0 where
  pub tallies : Tallies
  pub lines : ℕ

abbrev pub new_desk : {U : Type 0} → (U → List (TallyKey × ℕ)) → (U → ℕ) → U → ℕ → NewDesk
new_desk counts room u n = record { tallies = tallies_in (counts u) (room u); lines = n }

pub record Opened : Type 0 where
  pub desk : NewDesk
  pub text : List ℕ
  pub outcome : Result Form CommandFault

abbrev pub turned_away : NewDesk → CommandFault → Opened
turned_away d f = record {
  desk = record { tallies = tallied (command_refusal f).number d.tallies; lines = d.lines };
  text = line (refused d.lines (command_refusal f).number (command_refusal f).place);
  outcome = Err f;
}

-- a text that is a template opens the session; its report has the text and the total
abbrev pub by_template : NewDesk → List ℕ → Result Form TemplateFault → Opened
by_template d t (Ok f) = record { desk = d; text = line (template t (total f.mask)); outcome = Ok f }
by_template d t (Err e) = turned_away d (Template e)

abbrev pub entered : NewDesk → Result (List ℕ) CommandFault → Opened
entered d (Ok t) = by_template d t (read_template t)
entered d (Err f) = turned_away d f

abbrev pub unopened : NewDesk → CommandFault → Opened
unopened d f = record { desk = d; text = []; outcome = Err f }

abbrev pub opened : ℕ → NewDesk → List ℕ → Opened
opened free d text = cond (nat_le 65535 d.lines) (unopened d Lines) (cond (nat_lt free 4096) (unopened d Output) (entered (record { tallies = d.tallies; lines = d.lines + 1 }) (opens text)))

-- the session is open, with no name minted, or it stays new
abbrev pub Led : Opened → Tallies → output.Output → output.Output → Result Entered TurnedAway → Type 0
Led o after old new (Ok e) = (o.outcome ≡ Ok (form e.template)) × (o.desk ≡ record { tallies = after; lines = e.session.lines }) × (e.session.minted ≡ 0) × Puts old o.text new
Led o after old new (Err t) = (o.outcome ≡ Err t.fault) × (o.desk ≡ record { tallies = after; lines = t.session.lines }) × Puts old o.text new
