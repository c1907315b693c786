-- One word written anew. Assumes nothing.
use Rattle.std.proofs.Common.{◌≡◌, ℕ, ◌+◌, ◌*◌, ◌/◌, ◌%◌, ◌<◌, length, ap, ◌∙◌, arith}
use Rattle.sources.specs.Maps.{live_in, lacks}
use Rattle.sources.proofs.Words.{live_set}
use Rattle.sources.proofs.livemap.clear.Goals as goal

pub returns : goal.returns
returns c =
    let inside : c.args.c / 64 < length c.args.map.now = omega arith in
    let z : 0 + (64 * (c.args.c / 64) + c.args.c % 64) ≡ c.args.c = omega arith in
    live_set 0 (c.args.c / 64) (c.args.c % 64) c.without.result c.args.map.now inside (omega arith) c.without.ensures
    ∙ ap (λ (x : ℕ). lacks x (live_in 0 c.args.map.now)) z
