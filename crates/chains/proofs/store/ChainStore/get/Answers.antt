use Rattle.std.proofs.Common.{rules}
use Rattle.chains.proofs.Gathers.{kept, look_pairs}
use Rattle.stores.proofs.Laws.{Lawful}
use Rattle.chains.proofs.store.ChainStore.get.Goals as goal

pub returns : goal.returns
returns g c =
    let m = g.met.K.Key in
    let al = g.K.Key.alike in
    let bk = g.K.Key.bucket in
    let L : Lawful al bk = search rules in
    let ns = c.args.self.now.nodes.now in
    let k = c.args.k.now in
    record {
      kept = kept al bk L ns;
      answer = λ s. let l = look_pairs al bk L ns s k in cc;
      place = λ s. let l = look_pairs al bk L ns s k in cc;
    }
