use Rattle.std.proofs.Common.{◌≤◌, length, subst, arith}
use Rattle.names.specs.declared.fault.Refusal.{Refusal}
use Rattle.reports.specs.Reports.{line, refused}
use Rattle.sessions.proofs.Lengths.{refused_short}
use Rattle.sessions.proofs.line.write_fault.Goals as goal

pub returns-clause-brief : goal.returns-clause-brief
returns-clause-brief c =
    let told = c.from.result in
    let fits = c.from.type_inv in
    subst (λ (r : Refusal). length (line (refused c.args.lines r.number r.place)) ≤ 71) c.from.ensures (refused_short c.args.lines told.number told.place c.ranges.lines.fits (omega arith) (omega arith))
