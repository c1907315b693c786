-- field_text: a field's bytes: the word, or the count in decimal
use Rattle.std.specs.Prelude.{ℕ, List, decimal}
use Rattle.reports.specs.declared.Field.{Field}
use Rattle.reports.specs.declared.Field.TheVariants.{Word, Count}

abbrev pub field_text : Field → List ℕ
field_text (Word word) = word.now
field_text (Count n) = decimal n
