-- A source that is named by a template is lawful where its list and stands are. Assumes nothing.
use Rattle.std.specs.Prelude.{◌≡◌, ℕ, ◌<◌, ◌≤◌, false, List}
use Rattle.names.proofs.Guarded.{undo, guard}
use Rattle.names.proofs.Templates.{good}
use Rattle.names.specs.Templates.{form}
use Rattle.names.specs.declared.template.Template.{Template}
use Rattle.sources.specs.Lists.{count, has}
use Rattle.sources.specs.Named.{total_of, stock_of}
use Rattle.sources.specs.Stock.{Lawful, is_ahead, is_foreign}
use Rattle.sources.specs.declared.source.Stand.{Stand}

pub named_lawful : (t : Template) (xs : List ℕ) (f : ℕ → Stand) → ((n : ℕ) → count n xs ≤ 1) → ((n : ℕ) → is_ahead (f n) ≡ has n xs) → ((n : ℕ) → is_foreign (f n) ≡ false → n < total_of t) → Lawful (stock_of t xs f)
named_lawful t xs f once listed within =
    let names = undo (form t) (good t) in
    let check = guard (form t) (good t) in
    record {
      once = once;
      listed = listed;
      within = within;
      small = names.small;
      names = names.names;
      nameless = names.nameless;
      short = names.short;
      readings = names.readings;
      changes = check.changes;
      exchanges = check.exchanges;
    }
