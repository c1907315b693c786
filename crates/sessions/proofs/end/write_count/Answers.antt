use Rattle.std.proofs.Common.{arith}
use Rattle.reports.proofs.Lengths.{decimal_20, line_tally}
use Rattle.sessions.proofs.end.write_count.Goals as goal

pub returns-clause-brief : goal.returns-clause-brief
returns-clause-brief c = omega (arith, line_tally c.args.number c.args.count, decimal_20 c.args.number (omega (arith, c.ranges.number.fits)), decimal_20 c.args.count c.ranges.count.fits)
