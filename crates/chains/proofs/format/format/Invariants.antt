use Rattle.std.proofs.Common.{◌≡◌, ℕ, ◌<◌, get_or}
use Rattle.chains.specs.Chains.{laid}
use Rattle.chains.specs.Tables.{table}
use Rattle.chains.proofs.format.format.Given as goal

abbrev pub invariant-loop-i : goal.invariant-loop-i
invariant-loop-i g l = record {
  links : (k : ℕ) → k < l.i → get_or (table l.nodes).links k 0 ≡ laid l.n k;
  keys : (table l.nodes).keys ≡ (table l.initial.nodes).keys;
  values : (table l.nodes).values ≡ (table l.initial.nodes).values;
}
