-- Sources that are named by a template.
-- total_of: how many names a template has.
-- stock_of: a source's meaning, by its template, its list and where numbers stand.
-- new_stock: the meaning of a source that gave nothing.
use Rattle.std.specs.Prelude.{ℕ, cond, List}
use Rattle.names.specs.Naming.{total, name_of}
use Rattle.names.specs.Templates.{form}
use Rattle.names.specs.Validate.{reads}
use Rattle.names.specs.declared.template.Template.{Template}
use Rattle.sources.specs.Lists.{has}
use Rattle.sources.specs.Stock.{Stock}
use Rattle.sources.specs.declared.source.Stand.{Stand}
use Rattle.sources.specs.declared.source.Stand.TheVariants.{Ahead, Foreign}

abbrev pub total_of : Template → ℕ
total_of t = total (form t).mask

abbrev pub stock_of : Template → List ℕ → (ℕ → Stand) → Stock
stock_of t xs f = record { ahead = xs; stands = f; reach = total_of t; named = name_of (form t); reads = reads (form t); checked = (form t).check }

-- every number of the list is ahead, every other one foreign
abbrev pub new_stock : Template → List ℕ → Stock
new_stock t xs = stock_of t xs (λ n. cond (has n xs) Ahead Foreign)
