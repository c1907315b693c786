-- Each word has the lowest bits that are left for it. Assumes nothing.
use Rattle.std.proofs.Common.{arith, rules}
use Rattle.sources.proofs.Words.{all_filled}
use Rattle.sources.proofs.livemap.fresh.Goals as goal

pub returns : goal.returns
returns c =
    let made = c.from_fn.ensures.items in
    let long = made.long in
    all_filled 0 c.args.live c.from_fn.result (omega arith) (λ i d l. let call = (made.at i 0 (omega arith)).2 in search rules)
