use Rattle.std.proofs.Common.{◌≡◌, ◌≤◌, true, Bool, cond, length, sym, ap, ◌∙◌, arith, Ok, Err}
use Rattle.std.proofs.lemmas.Bool.Decides.{nat_tests}
use Rattle.stores.specs.declared.fault.StoreFault.TheVariants.{Length}
use Rattle.chains.specs.Chains.{laid}
use Rattle.chains.specs.Tables.{table, fits_table, fresh_table}
use Rattle.chains.proofs.Columns.{writes}
use Rattle.chains.proofs.Fresh.{laid_more, formatted}
use Rattle.chains.proofs.format.format.Goals as goal

pub loop-i-preserved : goal.loop-i-preserved
loop-i-preserved g c = record {
  links = laid_more (laid (length c.args.nodes.now)) c.loop-i.nodes c.loop-i.i _ (omega arith) c.laid_next-node.ensures c.loop-i.invariant.links;
  keys = grind (arith, writes);
  values = grind (arith, writes);
}

pub returns : goal.returns
returns g c =
    let old = c.args.nodes.now in
    let long : 18 ≤ length old = grind (arith, nat_tests) in
    let short : length old ≤ 65536 = grind (arith, nat_tests) in
    let fits : fits_table (length old) ≡ true = grind (arith, nat_tests) in
    let F = formatted g.K.Key.alike g.K.Key.bucket g.met.K.Key.small old c.loop-i.nodes c.loop-i.auto.nodes long short (λ k h. c.loop-i.invariant.links k (omega arith)) c.loop-i.invariant.keys c.loop-i.invariant.values in
    record {
      answer = sym (ap (λ (b : Bool). cond b (Ok tt) (Err Length)) fits);
      after = F.after ∙ sym (ap (λ (b : Bool). cond b (fresh_table (table old)) (table old)) fits);
      same = λ e. cc e;
      size = c.loop-i.auto.nodes;
      sound = λ _. F.sound;
      empty = λ _. F.empty;
    }
