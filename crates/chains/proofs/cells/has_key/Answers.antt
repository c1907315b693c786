use Rattle.std.proofs.Common.{rules}
use Rattle.chains.proofs.Columns.{mark_is, mark_out}
use Rattle.chains.proofs.cells.has_key.Goals as goal

pub returns : goal.returns
returns g c = search (rules, mark_is, mark_out)
