use Rattle.std.proofs.Common.{arith, rules}
use Rattle.chains.proofs.Chaindrops.{drop_room, drop_refused, drop_answer, drop_stays, drop_found, drop_many}
use Rattle.stores.proofs.Laws.{Lawful}
use Rattle.chains.proofs.store.ChainStore.drop_pair.Goals as goal

pub returns : goal.returns
returns g c =
    let m = g.met.K.Key in
    let al = g.K.Key.alike in
    let bk = g.K.Key.bucket in
    let L : Lawful al bk = search rules in
    let ns = c.args.self.now.nodes.now in
    let ns' = c.drop_in.new.nodes in
    let k = c.args.k.now in
    let b = c.drop_in.result in
    let a = c.drop_in.ensures.answer in
    let e = c.drop_in.ensures.after in
    record {
      sound = drop_stays al bk L ns ns' k b a e;
      capacity = drop_room al bk L ns ns' k b a e;
      answer = drop_answer al bk L ns ns' k b a e;
      refusal = λ _ f. grind (arith, drop_refused al bk L ns ns' k b a e f);
      found = drop_found al bk L ns ns' k b a e;
      many = drop_many al bk L ns ns' k b a e;
    }
