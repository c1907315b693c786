-- Once: no number of a list stands there twice.
use Rattle.std.specs.Prelude.{ℕ, ◌≤◌, List}
use Rattle.sources.specs.Lists.{count}

abbrev pub Once : List ℕ → Type 0
Once xs = (n : ℕ) → count n xs ≤ 1
