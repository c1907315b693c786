-- roll_stock: what a roll means.
use Rattle.std.specs.Prelude.{drop}
use Rattle.sources.specs.Named.{stock_of}
use Rattle.sources.specs.Rolls.{roll_standing}
use Rattle.sources.specs.Stock.{Stock}
use Rattle.sources.specs.declared.roll.Roll.{Roll}

abbrev pub roll_stock : Roll → Stock
roll_stock s = stock_of s.template (drop s.used s.numbers.now) (roll_standing s.used s.numbers.now)
