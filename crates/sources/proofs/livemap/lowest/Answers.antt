-- The lowest bits of a word. Assumes nothing.
use Rattle.std.proofs.Common.{◌≡◌, ℕ, ◌-◌, min, ap, ◌∙◌, arith}
use Rattle.std.proofs.lemmas.Nat.{one_shl}
use Rattle.sources.specs.Maps.{bits_from, run}
use Rattle.sources.proofs.Words.{bits_lowest}
use Rattle.sources.proofs.livemap.lowest.Goals as goal

pub returns-then-bits-ge64 : goal.returns-then-bits-ge64
returns-then-bits-ge64 c = λ b. let k : 64 ≡ min c.args.bits 64 = omega arith in bits_lowest 64 b 64 (omega arith) ∙ ap (run b) k

pub returns-else-bits-ge64 : goal.returns-else-bits-ge64
returns-else-bits-ge64 c = λ b.
    let k : c.args.bits ≡ min c.args.bits 64 = omega arith in
    ap (λ (m : ℕ). bits_from 64 b (m - 1)) (one_shl c.args.bits 64 (omega arith)) ∙ bits_lowest 64 b c.args.bits (omega arith) ∙ ap (run b) k
