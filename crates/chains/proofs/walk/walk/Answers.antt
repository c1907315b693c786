use Rattle.std.proofs.Common.{◌<◌, length, arith}
use lib.ListN.{length-map}
use Rattle.std.proofs.lemmas.Grind.{common_steps}
use Rattle.chains.specs.Tables.{table, marks}
use Rattle.chains.proofs.Walks.{turn}
use Rattle.chains.proofs.walk.walk.Goals as goal

pub returns-then-has_key : goal.returns-then-has_key
returns-then-has_key g c =
    let ls = (table c.args.nodes.now).links in
    let l : c.loop.index < length ls = simp length-map c.loop-test.true in
    let u = turn (length ls) c.loop.index ls (marks g.K.Key.alike c.args.k.now (table c.args.nodes.now).keys) c.loop.before c.in_ok-at.at l in
    grind (arith, common_steps, u, c.in_ok-at.ensures)

pub loop-preserved : goal.loop-preserved
loop-preserved g c =
    let ls = (table c.args.nodes.now).links in
    let l : c.loop.index < length ls = simp length-map c.loop-test.true in
    let u = turn (length ls) c.loop.index ls (marks g.K.Key.alike c.args.k.now (table c.args.nodes.now).keys) c.loop.before c.in_ok-at.at l in
    record { at = grind (arith, common_steps, u, c.in_ok-at.ensures); before = grind (arith, common_steps, u, c.in_ok-at.ensures) }
