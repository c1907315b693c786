-- Where a number is put into an ascending list. Assumes nothing.
use Rattle.std.proofs.Common.{nat_lt, vec_items, unwrap_or, ap, ap₂, sym, ◌∙◌, rules, tests}
use Rattle.std.specs.List.{insert}
use Rattle.std.proofs.lemmas.Iterator.{YieldsList-from_slice}
use Rattle.std.proofs.lemmas.Iterator.Search.{position_from_yields_List}
use Rattle.std.proofs.lemmas.Bool.{cond-true}
use Rattle.minter.proofs.Found.{added_is, found_or_len}
use Rattle.minter.proofs.lists.numbers.add.Goals as goal

pub returns-clause-items : goal.returns-clause-items
returns-clause-items c =
    let xs = vec_items c.args.xs.now in
    let n = c.args.n in
    let found = position_from_yields_List (λ x. nat_lt n x) _ _ c.position.result c.position.ensures.ran (YieldsList-from_slice xs cc) (λ x b q k. search (rules, tests)) in
    let at = c.unwrap_or-at.ensures ∙ ap₂ unwrap_or found (c.len.ensures ∙ c.args.xs.now.ok.0) ∙ found_or_len (λ x. nat_lt n x) xs in
    c.insert.ensures.items ∙ cond-true _ _ _ (c.insert.ensures.succeeds c.requires) ∙ ap (λ i. insert xs i n) at ∙ sym (added_is n xs)
