-- A draw moves the first number of the list. Assumes nothing.
use Rattle.std.proofs.Common.{◌≡◌, ℕ, ◌+◌, ◌<◌, List, get_or, Some, sym, refl, ap, ◌∙◌, subst, ap₂, arith}
use Rattle.sources.specs.Counted.{lives}
use Rattle.sources.specs.Lists.{first}
use Rattle.sources.specs.Named.{stock_of}
use Rattle.sources.specs.SubcounterLaws.{few_live}
use Rattle.sources.specs.Subcounters.{given, standing}
use Rattle.sources.specs.declared.source.Stand.{Stand}
use Rattle.sources.proofs.Generating.{none_ahead, cons_ahead, drawn_one, same_ahead, same_standing}
use Rattle.sources.proofs.Stocks.{drawn_none}
use Rattle.sources.proofs.generator.calls.GeneratorSource.draw.Goals as goal

pub returns-then-live-eq0 : goal.returns-then-live-eq0
returns-then-live-eq0 g c =
    let s = c.args.self.now in
    let u = s.subcounters in
    let e = none_ahead u.total u.share (g.C.Chooser.pick s.chooser) u.draws u.counts (omega arith) in
    record { answer = sym (ap first e); after = drawn_none s.template _ (standing u.total u.share u.counts) e }

pub give-requires : goal.give-requires
give-requires g c =
    let s = c.args.self.now in
    let u = s.subcounters in
    let few = few_live u.total u.share 0 u.counts in
    let long = u.long in
    let live = c.live-live.ensures in
    let below : c.choose-index.result < c.live-live.result = subst (λ (i : ℕ). i < c.live-live.result) (sym c.choose-index.ensures) (g.C.Chooser.under s.chooser _ c.live-live.result (omega arith) (omega arith)) in
    omega arith

pub returns : goal.returns
returns g c =
    let s = c.args.self.now in
    let u = s.subcounters in
    let pick = g.C.Chooser.pick s.chooser in
    let few = few_live u.total u.share 0 u.counts in
    let long = u.long in
    let shared = u.shared in
    let live = c.live-live.ensures in
    let below = g.C.Chooser.under s.chooser c.draws-draws.result c.live-live.result (omega arith) (omega arith) in
    let picked : c.choose-index.result ≡ pick u.draws c.live-live.result = c.choose-index.ensures ∙ ap (λ (d : ℕ). pick d c.live-live.result) c.draws-draws.ensures in
    let inside : c.choose-index.result < c.live-live.result = subst (λ (i : ℕ). i < c.live-live.result) (sym c.choose-index.ensures) below in
    let k : ℕ = get_or (lives u) c.choose-index.result 0 in
    let cons = cons_ahead u.total u.share (omega arith) pick u.draws u.counts c.live-live.result c.choose-index.result k live picked inside refl in
    let one = drawn_one u.total u.share (omega arith) pick u.draws u.counts c.live-live.result c.choose-index.result k live picked inside refl s.template in
    let v = c.give.new.self in
    let e = c.give.ensures.after in
    let a = same_ahead pick u.total v.total u.share v.share (u.draws + 1) v.draws (given u.counts k) v.counts e.total e.share e.draws e.counts in
    let f = same_standing u.total v.total u.share v.share (given u.counts k) v.counts e.total e.share e.counts in
    record {
      answer = ap Some c.give.ensures.number ∙ sym (ap first cons);
      after = ap₂ (λ (xs : List ℕ) (h : ℕ → Stand). stock_of s.template xs h) a f ∙ one;
    }
