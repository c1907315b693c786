use Rattle.std.proofs.Common.{arith, rules}
use Rattle.logs.specs.Logs.{book}
use Rattle.logs.proofs.Books.{drop_room, drop_refused, drop_answer, drop_stays, drop_found, drop_many}
use Rattle.stores.proofs.Laws.{Lawful}
use Rattle.logs.proofs.store.LogStore.drop_pair.Goals as goal

pub returns : goal.returns
returns g c =
    let m = g.met.K.Key in
    let al = g.K.Key.alike in
    let bk = g.K.Key.bucket in
    let L : Lawful al bk = search rules in
    let b = book c.args.self.now.entries.now c.args.self.now.fill in
    let b' = book c.drop_in.new.entries c.drop_in.new.fill in
    let k = c.args.k.now in
    let t = c.drop_in.result in
    let a = c.drop_in.ensures.answer in
    let e = c.drop_in.ensures.after in
    record {
      sound = drop_stays al bk L b b' k t a e;
      capacity = drop_room al bk L b b' k t a e;
      answer = drop_answer al bk L b b' k t a e;
      refusal = λ _ f. grind (arith, drop_refused al bk L b b' k t a e f);
      found = drop_found al bk L b b' k t a e;
      many = drop_many al bk L b b' k t a e;
    }
