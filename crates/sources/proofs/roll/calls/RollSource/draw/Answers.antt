-- A draw from a roll. Assumes nothing.
use Rattle.std.proofs.lemmas.List.{drop_more}
use Rattle.sources.proofs.Rolling.{roll_drawn}
use Rattle.sources.proofs.Stocks.{drawn_first}
use Rattle.sources.proofs.roll.calls.RollSource.draw.Goals as goal

pub returns-clause-after : goal.returns-clause-after
returns-clause-after c =
    let s = c.args.self.now in
    let xs = s.numbers.now in
    let inside = c.in_ok-n.ensures.lookup.3.0 in
    drawn_first s.template _ _ _ _ _ (drop_more xs s.used 0 inside) (λ n. roll_drawn xs s.used n inside (s.once n))
