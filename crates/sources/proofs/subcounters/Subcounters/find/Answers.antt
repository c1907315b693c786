-- What stands at a place of the live ones. Assumes nothing.
use Rattle.std.proofs.Common.{◌≡◌, ℕ, List, get_or, sym, ap, ◌∙◌, subst, arith}
use Rattle.sources.specs.Counted.{lives}
use Rattle.sources.specs.SubcounterLaws.{Chosen, live_chosen}
use Rattle.sources.proofs.subcounters.Subcounters.find.Goals as goal

pub returns : goal.returns
returns c =
    let s = c.args.self.now in
    let e : c.at.result ≡ get_or (lives s) c.args.index 0 = c.at.ensures ∙ ap (λ (l : List ℕ). get_or l c.args.index 0) s.mapped in
    let q = subst (λ (i : ℕ). Chosen s.total s.share s.counts i) (sym e) (live_chosen s.total s.share c.args.index s.counts c.requires) in
    let l = s.long in
    record { found = e; inside = omega (arith, q.inside); some = q.live }
