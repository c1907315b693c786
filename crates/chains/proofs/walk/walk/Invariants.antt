use Rattle.std.proofs.Common.{◌≡◌, ◌-◌, length, get_or}
use Rattle.chains.specs.Chains.{run, seek, before}
use Rattle.chains.specs.Tables.{table, marks, spot, spot_before}
use Rattle.chains.proofs.walk.walk.Given as goal

-- what is left of the chain has the answer
abbrev pub invariant-loop : goal.invariant-loop
invariant-loop g l =
    let t = table l.nodes in
    let ms = marks g.K.Key.alike l.k t.keys in
    let rest = run (length t.links - l.index) t.links (get_or t.links l.before 0) in
    record {
      at : spot g.K.Key.alike g.K.Key.bucket t l.k ≡ seek ms rest;
      before : spot_before g.K.Key.alike g.K.Key.bucket t l.k ≡ before l.before ms rest;
    }
