use Rattle.std.proofs.Common.{rules}
use Rattle.std.proofs.lemmas.Result.{IfOk-from_err}
use Rattle.serving.proofs.memory.Memory.new.Goals as goal

pub returns-in_err-entries : goal.returns-in_err-entries
returns-in_err-entries c = search (rules, IfOk-from_err)
