-- Opening lines that are counted. Assumes nothing.
use Rattle.std.proofs.Common.{◌≡◌, ℕ, ◌+◌, ◌≤◌, Bool, true, false, cond, leb, ltb, List, length, Ok, Err, Result, sym, refl, ap, ◌∙◌, subst, arith}
use Rattle.commands.specs.Faults.{command_refusal}
use Rattle.commands.specs.Forms.{opens}
use Rattle.commands.specs.declared.fault.CommandFault.{CommandFault}
use Rattle.commands.specs.declared.fault.CommandFault.TheVariants.{Lines, Output}
use Rattle.reports.specs.Reports.{line, refused}
use Rattle.sessions.specs.Frames.{admitted}
use Rattle.sessions.specs.Opening.{NewDesk, Opened, turned_away, entered, unopened, opened, Led}
use Rattle.sessions.specs.Tallies.{Tallies}
use Rattle.texts.specs.Output.{Puts}
use Rattle.texts.specs.declared.output.Output as output

-- a line that is admitted
pub opened_counted : (free : ℕ) (d : NewDesk) (text : List ℕ) → Ok tt ≡ admitted free d.lines → opened free d text ≡ entered (record { tallies = d.tallies; lines = d.lines + 1 }) (opens text)
opened_counted free d text = go (leb 65535 d.lines) (ltb free 4096)
  where
    go : (late short : Bool) → ◌≡◌ {A = Result (Unit {0}) CommandFault} (Ok tt) (cond late (Err Lines) (cond short (Err Output) (Ok tt)))
        → cond late (unopened d Lines) (cond short (unopened d Output) (entered (record { tallies = d.tallies; lines = d.lines + 1 }) (opens text))) ≡ entered (record { tallies = d.tallies; lines = d.lines + 1 }) (opens text)
    go true short e = cc
    go false true e = cc
    go false false e = refl

-- a line that was counted as the n-th, and turned away
module _ (free : ℕ) (d : NewDesk) (text : List ℕ) (counted : opened free d text ≡ entered (record { tallies = d.tallies; lines = d.lines + 1 }) (opens text)) where
  turned : {n : ℕ} {fault : CommandFault} → ((e : NewDesk) → entered e (opens text) ≡ turned_away e fault) → n ≡ d.lines + 1 → opened free d text ≡ turned_away (record { tallies = d.tallies; lines = n }) fault
  turned {n} away same = counted ∙ ap (λ m. entered (record { tallies = d.tallies; lines = m }) (opens text)) (sym same) ∙ away (record { tallies = d.tallies; lines = n })

  pub turned_led : {n : ℕ} {fault : CommandFault} {after : Tallies} {old new : output.Output} → ((e : NewDesk) → entered e (opens text) ≡ turned_away e fault)
      → after ≡ (turned_away (record { tallies = d.tallies; lines = n }) fault).desk.tallies → Puts old (turned_away (record { tallies = d.tallies; lines = n }) fault).text new → n ≡ d.lines + 1
      → Led (opened free d text) after old new (Err (record { session = record { lines = n }; fault = fault }))
  turned_led {n} {fault} {after} {old} {new} away tallied put same =
      subst (λ (o : Opened). Led o after old new (Err (record { session = record { lines = n }; fault = fault }))) (sym (turned away same)) (refl, ap (λ (t : Tallies). record { tallies = t; lines = n }) (sym tallied), put)

  pub turned_brief : {n : ℕ} {fault : CommandFault} → ((e : NewDesk) → entered e (opens text) ≡ turned_away e fault) → length (line (refused n (command_refusal fault).number (command_refusal fault).place)) ≤ 71 → n ≡ d.lines + 1
      → length (opened free d text).text ≤ 4096
  turned_brief away short same = omega (arith, ap (λ (o : Opened). length o.text) (turned away same), short)
