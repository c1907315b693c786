use Rattle.std.proofs.Common.{◌≡◌, ℕ, ◌*◌, ◌/◌, ◌<◌, ◌≤◌, ◌++◌, take, ap, ◌∙◌, div-lt_iff_lt-mul, length-append, arith}
use Rattle.std.proofs.lemmas.List.{take_all}
use Rattle.names.specs.Naming.{total, digits}
use Rattle.names.proofs.Numbers.{total_some, length_digits}
use Rattle.names.proofs.parts.Parts.body.Goals as goal

-- a number with nothing left above the positions
small : (t n : ℕ) → 0 < t → n / t ≤ 0 → n < t
small t n some none = let h : n < 1 * t = (div-lt_iff_lt-mul some).0 (omega (arith, none)) in omega (arith, h)

pub returns : goal.returns
returns c =
    let p = c.args.self.now.prefix.now in
    let m = c.args.self.now.mask.now in
    let n = c.args.n in
    let low : n < total m = small (total m) n (total_some m) (omega (arith, c.write_body-above.ensures.above, c.if-above-gt0.false)) in
    let fits : take 28 (p ++ digits m n) ≡ p ++ digits m n = take_all 28 (p ++ digits m n) (omega (arith, length-append p (digits m n), length_digits m n, c.args.self.now.prefix_few, c.args.self.now.mask_few)) in
    let text : c.front.result ≡ p ++ digits m n = c.front.ensures ∙ (ap (take 28) (c.write_body-above.ensures.text low) ∙ fits) in
    (low, text)
