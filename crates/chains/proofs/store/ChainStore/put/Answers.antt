use Rattle.std.proofs.Common.{arith, rules}
use Rattle.chains.proofs.Chainputs.{put_room, put_stays, put_refused, put_found, put_many}
use Rattle.chains.proofs.Gathers.{full_is}
use Rattle.stores.proofs.Laws.{Lawful}
use Rattle.chains.proofs.store.ChainStore.put.Goals as goal

pub returns : goal.returns
returns g c =
    let m = g.met.K.Key in
    let al = g.K.Key.alike in
    let bk = g.K.Key.bucket in
    let L : Lawful al bk = search rules in
    let ns = c.args.self.now.nodes.now in
    let ns' = c.put_in.new.nodes in
    let k = c.args.k in
    let v = c.args.v in
    let e = c.put_in.ensures.after in
    record {
      sound = put_stays al bk L ns ns' k v e;
      capacity = put_room al bk L ns ns' k v e;
      answer = λ s. let l = full_is al bk L ns s k in cc;
      refusal = λ s f. grind (arith, put_refused al bk L ns ns' k v e s f);
      found = put_found al bk L ns ns' k v e;
      many = put_many al bk L ns ns' k v e;
    }
