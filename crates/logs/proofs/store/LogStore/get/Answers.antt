use Rattle.std.proofs.Common.{rules}
use Rattle.logs.specs.Logs.{book}
use Rattle.logs.proofs.Books.{kept, look_pairs}
use Rattle.stores.proofs.Laws.{Lawful}
use Rattle.logs.proofs.store.LogStore.get.Goals as goal

pub returns : goal.returns
returns g c =
    let m = g.met.K.Key in
    let L : Lawful g.K.Key.alike g.K.Key.bucket = search rules in
    let b = book c.args.self.now.entries.now c.args.self.now.fill in
    record {
      kept = kept g.K.Key.alike g.K.Key.bucket L b;
      answer = λ s. let l = look_pairs g.K.Key.alike g.K.Key.bucket L b s c.args.k.now in cc;
      place = λ s. let l = look_pairs g.K.Key.alike g.K.Key.bucket L b s c.args.k.now in cc;
    }
