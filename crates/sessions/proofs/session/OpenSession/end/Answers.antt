use Rattle.std.proofs.Common.{refl, arith, length-append, rules}
use Rattle.reports.proofs.Lengths.{decimal_20, line_total}
use Rattle.reports.specs.Reports.{line, total}
use Rattle.texts.proofs.Fill.{puts_join}
use Rattle.sessions.proofs.Lending.{puts_lends, lends_join}
use Rattle.sessions.specs.Ends.{tally_lines}
use Rattle.sessions.specs.Tallies.{tallies_in}
use Rattle.sessions.proofs.session.OpenSession.end.Goals as goal

pub returns-clause-closes : goal.returns-clause-closes
returns-clause-closes g c = λ k. (search rules, refl, puts_join (c.write_tallies.ensures.text k) c.write_report.ensures)

pub returns-clause-brief : goal.returns-clause-brief
returns-clause-brief g c = λ k e.
    let t = tallies_in (g.U.Store.pairs c.args.tallies.now) (g.U.Store.capacity c.args.tallies.now) in
    let minted = c.args.self.minted in
    omega (arith, c.write_tallies.ensures.brief k, line_total minted, decimal_20 minted (let fits = c.well_formed in omega arith), length-append (tally_lines t 30 1) (line (total minted)))

pub returns-clause-lends : goal.returns-clause-lends
returns-clause-lends g c = lends_join c.write_tallies.ensures.lends (puts_lends c.write_report.ensures)
