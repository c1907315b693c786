-- As many held numbers are ahead as are left exactly where all are held. Assumes nothing.
use Rattle.std.proofs.Common.{ℕ, eqb, vec_items, ◌∙◌, ap₂}
use Rattle.sources.specs.Stock.{is_ahead}
use Rattle.minter.proofs.Stops.{all_stopped}
use Rattle.minter.proofs.register.Register.all_ahead_held.Goals as goal

pub returns : goal.returns
returns g c =
    let s = c.args.self.now in
    let k = g.S.Source.stock s.source in
    let l = g.S.Source.lawful s.source in
    ap₂ (λ (a b : ℕ). eqb a b) c.held_ahead.ensures c.left.ensures
    ∙ all_stopped (λ x. is_ahead (k.stands x)) (vec_items s.lists.held) k.ahead l.listed s.lists.held_once l.once
