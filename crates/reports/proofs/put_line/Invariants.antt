use Rattle.std.proofs.Common.{◌++◌, take}
use Rattle.texts.specs.Output.{Puts}
use Rattle.reports.proofs.Fields.{spaced_fields}
use Rattle.reports.proofs.put_line.Given as goal

abbrev pub invariant-loop-field : goal.invariant-loop-field
invariant-loop-field l = Puts l.fn.out (l.head ++ spaced_fields (take l.field-index l.fields)) l.out
