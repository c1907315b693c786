-- gen_stock: what a generator means, by the index that its chooser picks.
use Rattle.std.specs.Prelude.{ℕ}
use Rattle.sources.specs.Named.{stock_of}
use Rattle.sources.specs.Stock.{Stock}
use Rattle.sources.specs.Subcounters.{gen_ahead, standing}
use Rattle.sources.specs.declared.generator.Generator.{Generator}

abbrev pub gen_stock : {C : Type 0} → (C → ℕ → ℕ → ℕ) → Generator C → Stock
gen_stock pick s =
    stock_of s.template
    (gen_ahead s.subcounters.total s.subcounters.share (pick s.chooser) s.subcounters.draws s.subcounters.counts)
    (standing s.subcounters.total s.subcounters.share s.subcounters.counts)
