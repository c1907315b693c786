use Rattle.std.proofs.Common.{sym, ◌∙◌, arith, rules}
use Rattle.names.proofs.Walks.{one_on, ended}
use Rattle.names.proofs.template.read.shape.Goals as goal

pub returns-in_err-s : goal.returns-in_err-s
returns-in_err-s c =
    let refused = sym (one_on c.loop-i.s c.loop-i.i c.args.text.now _ (omega arith) c.in_err-s.ensures) ∙ c.loop-i.invariant in
    search rules

pub loop-i-preserved : goal.loop-i-preserved
loop-i-preserved c = sym (one_on c.loop-i.s c.loop-i.i c.args.text.now _ (omega arith) c.in_ok-s.ensures) ∙ c.loop-i.invariant

pub returns : goal.returns
returns c =
    ended c.loop-i.s c.loop-i.i c.args.text.now _ (omega arith) (omega arith) c.finished.ensures ∙ c.loop-i.invariant
