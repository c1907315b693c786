-- What stands past the text are the zeros that the list began with.
use Rattle.std.proofs.Common.{◌≡◌, ◌++◌, length, take, sym, refl, ap, ◌∙◌}
use Rattle.std.proofs.lemmas.List.{take_at, drop-replicate}
use Rattle.texts.specs.Short.{padded}
use Rattle.texts.proofs.short.Short.front.Goals as goal

pub invariant_of-result : goal.invariant_of-result
invariant_of-result g c =
    let t = take c.min.result c.args.text.now in
    let e = c.fill.ensures in
    let front : take (length t) c.fill.new.out ≡ t = ap (take (length t)) e ∙ take_at t _ (length t) refl in
    (ap length front, ap (padded g.row.N) front ∙ sym (e ∙ ap (λ z. t ++ z) (drop-replicate (length t) g.row.N 0)))
