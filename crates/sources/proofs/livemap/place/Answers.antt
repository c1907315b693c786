-- Clearing the lowest set bit `index` times leaves the bit that is asked for as the lowest. Assumes nothing.
use Rattle.std.proofs.Common.{◌≡◌, ℕ, ◌-◌, ◌^◌, ◌<◌, length, get_or, sym, ap, ◌∙◌, arith}
use lib.Bits.{and_le_l}
use Rattle.sources.specs.Maps.{bits_from}
use Rattle.sources.proofs.Words.{cleared}
use Rattle.sources.proofs.livemap.place.Goals as goal

pub overflow_sub-left : goal.overflow_sub-left
overflow_sub-left c =
    let l : c.loop.counter < length (bits_from 64 c.args.base c.args.word) = omega arith in
    (cleared c.args.base c.loop.left c.loop.counter (bits_from 64 c.args.base c.args.word) c.loop.invariant.0 l c.loop.invariant.1).0

pub loop-preserved : goal.loop-preserved
loop-preserved c =
    let l : c.loop.counter < length (bits_from 64 c.args.base c.args.word) = omega arith in
    let f : c.loop.left < 2 ^ 64 = c.loop.invariant.0 in
    (omega (arith, and_le_l c.loop.left (c.loop.left - 1)), (cleared c.args.base c.loop.left c.loop.counter (bits_from 64 c.args.base c.args.word) f l c.loop.invariant.1).1)

pub returns : goal.returns
returns c =
    let e : c.loop.counter ≡ c.args.index = omega arith in
    let l : c.loop.counter < length (bits_from 64 c.args.base c.args.word) = omega arith in
    let g = (cleared c.args.base c.loop.left c.loop.counter (bits_from 64 c.args.base c.args.word) c.loop.invariant.0 l c.loop.invariant.1).2 in
    sym g ∙ ap (λ (k : ℕ). get_or (bits_from 64 c.args.base c.args.word) k 0) e
