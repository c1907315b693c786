-- Looking through a roll's numbers by their indices. Assumes nothing.
use Rattle.std.proofs.Common.{◌≡◌, true, false, sym, rules}
use Rattle.std.proofs.lemmas.Iterator.{first_from_Range}
use Rattle.sources.proofs.Looks.{wrong, found_wrong}
use Rattle.sources.proofs.roll.look.first_wrong.Goals as goal

pub returns : goal.returns
returns c =
    let t = c.args.total in
    let xs = c.args.numbers.now in
    sym (found_wrong t xs c.find.result (first_from_Range _ _ _ c.find.result (λ i. wrong t xs i ≡ true) (λ i. wrong t xs i ≡ false) c.find.ensures.ran (λ x q k. search rules) (λ x q k. search rules)))
