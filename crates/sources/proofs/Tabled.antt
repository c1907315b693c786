-- Every row of the table of worked examples holds, by one test of the whole table. Assumes nothing.
use Rattle.std.proofs.Common.{◌≡◌, Bool, true, ◌&&◌, List, [], ◌∷◌, refl}
use Rattle.std.specs.Str.{bytes_eq}
use Rattle.std.proofs.lemmas.Slice.Eq.{bytes_eq-Decides}
use Rattle.std.proofs.lemmas.Bool.{and_parts}
use Rattle.sources.specs.Subcounters.{none_given}
use Rattle.sources.specs.Table.{Row, table, Holds}

-- the test of a list of rows
abbrev right : List Row → Bool
right [] = true
right (r ∷ rs) = bytes_eq r.computed r.stated && right rs

each : (rs : List Row) → right rs ≡ true → Holds rs
each [] e = tt
each (r ∷ rs) e = let h = and_parts (bytes_eq r.computed r.stated) (right rs) e in ((bytes_eq-Decides r.computed r.stated).0 h.0, each rs h.1)

passed : right table ≡ true
unfolding table none_given
passed = refl

pub table_holds : Holds table
table_holds = each table passed
