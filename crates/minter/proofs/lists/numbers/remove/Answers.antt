-- Where a number is taken out of a list. Assumes nothing.
use Rattle.std.proofs.Common.{◌≡◌, true, false, nat_eq, vec_items, sym, ◌∙◌, rules, tests}
use Rattle.std.proofs.lemmas.Iterator.{YieldsList-from_slice, IsFirst-from_position}
use Rattle.minter.proofs.Found.{without_found}
use Rattle.minter.proofs.lists.numbers.remove.Goals as goal

pub returns-in-Some-clause-items : goal.returns-in-Some-clause-items
returns-in-Some-clause-items c =
    let xs = vec_items c.args.xs.now in
    let n = c.args.n in
    let found = IsFirst-from_position _ _ c.position.result (λ x. nat_eq x n ≡ true) (λ x. nat_eq x n ≡ false) c.position.ensures.ran (YieldsList-from_slice xs cc) (λ x q k. search (rules, tests)) (λ x q k. search (rules, tests)) in
    c.remove.ensures.items ∙ sym (rw c.in-Some.is at (without_found n xs c.position.result found))

pub returns-in_default-clause-items : goal.returns-in_default-clause-items
returns-in_default-clause-items c =
    let xs = vec_items c.args.xs.now in
    let n = c.args.n in
    let found = IsFirst-from_position _ _ c.position.result (λ x. nat_eq x n ≡ true) (λ x. nat_eq x n ≡ false) c.position.ensures.ran (YieldsList-from_slice xs cc) (λ x q k. search (rules, tests)) (λ x q k. search (rules, tests)) in
    sym (rw c.in_default.is at (without_found n xs c.position.result found))
