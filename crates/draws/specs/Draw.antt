-- next: what a source draws next, with its name
-- shown: a drawn number and the bytes of its name
use Rattle.std.specs.Prelude.{ℕ, List, Some, None, Option}
use Rattle.names.specs.Texts.{text_of}
use Rattle.names.specs.declared.name.Name.{Name}
use Rattle.sources.specs.Lists.{first}
use Rattle.sources.specs.Stock.{Stock}

abbrev pub shown : Option (ℕ × Name) → Option (ℕ × List ℕ)
shown None = None
shown (Some p) = Some (p.0, text_of p.1)

abbrev pub next : Stock → Option (ℕ × List ℕ)
next s = elim (first s.ahead) [ None ↦ None | Some n ↦ Some (n, s.named n) ]
