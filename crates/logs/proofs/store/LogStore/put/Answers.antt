use Rattle.std.proofs.Common.{arith, rules}
use Rattle.logs.specs.Logs.{book}
use Rattle.logs.proofs.Books.{full_is, put_stays, put_refused, put_room, put_found, put_many}
use Rattle.stores.proofs.Laws.{Lawful}
use Rattle.logs.proofs.store.LogStore.put.Goals as goal

pub returns : goal.returns
returns g c =
    let m = g.met.K.Key in
    let al = g.K.Key.alike in
    let bk = g.K.Key.bucket in
    let L : Lawful al bk = search rules in
    let b = book c.args.self.now.entries.now c.args.self.now.fill in
    let b' = book c.put_in.new.entries c.put_in.new.fill in
    let k = c.args.k in
    let v = c.args.v in
    let e = c.put_in.ensures.after in
    record {
      sound = put_stays al bk L b b' k v e;
      capacity = put_room al bk L b b' k v e;
      answer = λ s. let l = full_is al bk L b s k in cc;
      refusal = λ s f. grind (arith, put_refused al bk L b b' k v e s f);
      found = put_found al bk L b b' k v e;
      many = put_many al bk L b b' k v e;
    }
