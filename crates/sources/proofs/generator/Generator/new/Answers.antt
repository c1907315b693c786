-- A new generator. Assumes nothing.
use Rattle.std.proofs.Common.{◌≡◌, ℕ, List, ap, ◌∙◌, ap₂}
use mathlib.Core.Path.{fun_ext}
use Rattle.sources.specs.Lists.{count}
use Rattle.sources.specs.Named.{total_of, stock_of}
use Rattle.sources.specs.Stock.{is_given}
use Rattle.sources.specs.Subcounters.{share_of, none_given}
use Rattle.sources.specs.declared.source.Stand.{Stand}
use Rattle.sources.proofs.Generating.{same_ahead, same_standing, new_counted, new_standing, new_fresh}
use Rattle.sources.proofs.generator.Generator.new.Goals as goal

pub returns : goal.returns
returns g c =
    let t : ℕ = total_of c.args.template in
    let pick = g.C.Chooser.pick c.args.chooser in
    let ok = g.C.Chooser.under c.args.chooser in
    let u = c.new-subcounters.result in
    let e = c.new-subcounters.ensures in
    let v : c.total-total.result ≡ t = c.total-total.ensures.value in
    let share : u.share ≡ share_of t = e.share ∙ ap share_of v in
    let a = same_ahead pick t u.total (share_of t) u.share 0 u.draws none_given u.counts (e.total ∙ v) share e.draws e.counts in
    let f = same_standing t u.total (share_of t) u.share none_given u.counts (e.total ∙ v) share e.counts in
    record {
      made = ap₂ (λ (xs : List ℕ) (h : ℕ → Stand). stock_of c.args.template xs h) a (f ∙ fun_ext (new_standing t pick ok));
      each = λ n. ap (count n) a ∙ new_counted t pick ok n;
      fresh = λ n. ap (λ (h : ℕ → Stand). is_given (h n)) f ∙ new_fresh t pick ok n;
    }
