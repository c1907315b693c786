-- Lines that are counted. Assumes nothing.
use Rattle.std.proofs.Common.{◌≡◌, ℕ, ◌+◌, ◌≤◌, min, length, Some, None, Ok, MatchOption, Option, refl, sym, ap, ◌∙◌, subst, arith, length-append}
use Rattle.commands.specs.Faults.{command_refusal}
use Rattle.commands.specs.Forms.{Said}
use Rattle.commands.specs.declared.fault.CommandFault.{CommandFault}
use Rattle.commands.specs.declared.fault.CommandFault.TheVariants.{Register}
use Rattle.std.specs.Option.{IsSomeAnd}
use Rattle.machine.specs.declared.fault.RegisterFault.{RegisterFault}
use Rattle.reports.specs.Reports.{line, refused}
use Rattle.texts.proofs.Fill.{puts_join}
use Rattle.texts.specs.Output.{Puts}
use Rattle.texts.specs.declared.output.Output.{Output}
use Rattle.sessions.specs.Frames.{Desk, Answered, refusing, with_command, heard, Replied}
use Rattle.sessions.specs.Performing.{Performed, performed, Did}
use Rattle.sessions.specs.Tallies.{tallied}
use Rattle.sessions.specs.declared.line.Reply.{Reply}
use Rattle.sessions.specs.declared.perform.Done.{Done}

-- what a command that was performed comes to, by its fault
abbrev pub by_fault : Desk → Performed → Option RegisterFault → Answered
by_fault d p None = record { desk = with_command d p; text = p.text; fault = None }
by_fault d p (Some f) = refusing (with_command d p) p.text (Register f)

-- why a command is refused: the register refused it
pub wrapped : (o : Option RegisterFault) (r : Option CommandFault) {f : CommandFault} → MatchOption o (r ≡ None) (λ x. IsSomeAnd r (λ y. y ≡ Register x)) → r ≡ Some f → (x : RegisterFault) × ((o ≡ Some x) × (f ≡ Register x))
wrapped None r cases e = cc
wrapped (Some x) None cases e = cc
wrapped (Some x) (Some y) {f} cases e = let same : f ≡ Register x = cc in (x, (refl, same))

-- a command that the register refused
pub refused_by_register : (d : Desk) {after : Desk} (s : Said) {f : CommandFault} {old between new : Output} {done : Done} {reply : Reply}
    → Did (performed d.machine s) after.machine old between done → ((x : RegisterFault) × ((done.fault ≡ Some x) × (f ≡ Register x)))
    → Puts between (line (refused d.lines (command_refusal f).number (command_refusal f).place)) new
    → after.tallies ≡ tallied (command_refusal f).number d.tallies → after.lines ≡ d.lines → after.minted ≡ min (d.minted + done.minted) 18446744073709551615 → reply.fault ≡ Some f
    → Replied (heard d (Ok s)) after old new reply
refused_by_register d {after} s {f} {old} {between} {new} {done} {reply} did why wrote tallies lines minted fault =
    let p = performed d.machine s in
    let so : heard d (Ok s) ≡ refusing (with_command d p) p.text f = ap (by_fault d p) (sym did.fault ∙ why.1.0) ∙ ap (refusing (with_command d p) p.text) (sym why.1.1) in
    subst (λ (a : Answered). Replied a after old new reply) (sym so) (record {
      desk = λ j. record { machine = did.machine j; tallies = tallies j; lines = lines j; minted = (minted ∙ ap (λ (k : ℕ). min (d.minted + k) 18446744073709551615) did.minted) j };
      text = puts_join did.text wrote;
      fault = fault;
    })

-- ---- how long a report is

pub brief_stopped : (d : Desk) (s : Said) (why : RegisterFault) → (performed d.machine s).fault ≡ Some why → length (performed d.machine s).text ≤ 4000
    → length (line (refused d.lines (command_refusal (Register why)).number (command_refusal (Register why)).place)) ≤ 71 → length (heard d (Ok s)).text ≤ 4096
brief_stopped d s why bad most short =
    let p = performed d.machine s in
    let more = line (refused d.lines (command_refusal (Register why)).number (command_refusal (Register why)).place) in
    let so : heard d (Ok s) ≡ by_fault d p (Some why) = ap (by_fault d p) bad in
    omega (arith, ap (λ (a : Answered). length a.text) so, length-append p.text more)
