use Rattle.std.proofs.Common.{refl}
use Rattle.sources.specs.Table.{table}
use Rattle.sources.proofs.Tabled.{table_holds}
use Rattle.sources.proofs.table.worked_examples.Goals as goal

pub returns : goal.returns
unfolding table
returns c = record { count = refl; holds = table_holds }
