use Rattle.std.proofs.Common.{◌≡◌, ◌+◌, ◌≤◌, length}
use Rattle.checklist.specs.Sheet.{counts_of}
use Rattle.names.specs.Templates.{form}
use Rattle.texts.specs.Pieces.{pieces}
use Rattle.checklist.proofs.sheet.count_names.Given as goal

abbrev pub invariant-loop-line : goal.invariant-loop-line
invariant-loop-line l = record {
  good : l.counts.good + (counts_of (form l.template) l.line-iterator).good ≡ (counts_of (form l.template) (pieces 10 l.text)).good;
  refused : l.counts.refused + (counts_of (form l.template) l.line-iterator).refused ≡ (counts_of (form l.template) (pieces 10 l.text)).refused;
  few : l.counts.good + l.counts.refused + length l.line-iterator ≤ length l.text;
}
