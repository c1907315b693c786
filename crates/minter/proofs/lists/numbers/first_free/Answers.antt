-- The first number that is not held. Assumes nothing.
use Rattle.std.proofs.Common.{not, nat_eq, position, ap, sym, ◌∙◌, rules, tests}
use mathlib.Core.Path.{fun_ext}
use Rattle.std.specs.List.{list_any}
use Rattle.std.proofs.lemmas.Iterator.{YieldsList-from_slice}
use Rattle.std.proofs.lemmas.Iterator.Search.{position_from_yields_List}
use Rattle.sources.proofs.Looks.{has_any}
use Rattle.minter.proofs.lists.numbers.first_free.Goals as goal

pub returns : goal.returns
returns c =
    let xs = c.args.xs.now in
    let held = c.args.held.now in
    position_from_yields_List (λ x. not (list_any (λ y. nat_eq y x) held)) _ _ c.position.result c.position.ensures.ran (YieldsList-from_slice xs cc) (λ x b q k. search (rules, tests))
    ∙ ap (λ p. position p xs) (fun_ext (λ x. ap not (sym (has_any x held))))
