-- Whether a number is queued. Assumes nothing.
use Rattle.std.proofs.Common.{nat_eq, sym, ◌∙◌, rules, tests}
use Rattle.machine.specs.declared.call.Due.{Due}
use Rattle.std.proofs.lemmas.Iterator.{YieldsList-from_slice}
use Rattle.std.proofs.lemmas.Iterator.Search.{any_from_yields_List}
use Rattle.minter.proofs.Found.{has_queued}
use Rattle.minter.proofs.lists.dues.queued.Goals as goal

pub returns : goal.returns
returns c =
    any_from_yields_List (λ (d : Due). nat_eq d.number c.args.n) _ _ _ c.any.ensures.ran (YieldsList-from_slice c.args.dues.now cc) (λ x b q k. search (rules, tests))
    ∙ sym (has_queued c.args.n c.args.dues.now)
