-- Opens: of the code, the first lines of an input opened a session, with this template and with these lines left; what room they leave
-- Finds: of the code, the first lines of an input opened a session, or none of them did
use Rattle.std.specs.Prelude.{◌≡◌, ℕ, ◌+◌, ◌*◌, ◌<◌, ◌≤◌, List, length, Some, None, Ok, Err, Result}
use Rattle.names.specs.Templates.{form}
use Rattle.sessions.specs.Tallies.{Tallies}
use Rattle.sessions.specs.declared.opening.Entered.{Entered}
use Rattle.sessions.specs.declared.session.NewSession.{NewSession}
use Rattle.texts.specs.Output.{Puts}
use Rattle.texts.specs.declared.output.Output.{Output}
use Rattle.serving.specs.Serving.{Awaited}

pub record Opens (a : Awaited) (after : Tallies) (old new : Output) (e : Entered) (lines : List (List ℕ)) : Type 0 where
  pub form : a.form ≡ Some (form e.template)
  pub desk : a.desk ≡ record { tallies = after; lines = e.session.lines }
  pub minted : e.session.minted ≡ 0
  pub rest : a.rest ≡ lines
  pub text : Puts old a.text new
  pub room : new.fill + 4096 * (length lines + 1) ≤ length new.bytes.now

abbrev pub Finds : Awaited → Tallies → Output → Output → Result (Entered × List (List ℕ)) NewSession → Type 0
Finds a after old new (Ok found) = Opens a after old new found.0 found.1
Finds a after old new (Err s) = (a.form ≡ None) × Puts old a.text new × (new.fill < length new.bytes.now)
