use Rattle.std.proofs.Common.{◌≡◌, ℕ, ◌+◌, ◌*◌, ◌/◌, ◌%◌, get_or, drop, sym, ap, ◌∙◌, mul_assoc, add-mul, arith}
use Rattle.std.proofs.lemmas.List.{at_drop_more, at_drop_all}
use Rattle.names.specs.Alphabet.{char_of, value_of}
use Rattle.names.specs.Check.{weighted}
use Rattle.names.proofs.check.check_character.Goals as goal

-- a factor modulo 29 leaves the sum modulo 29 as it was
reduced : (s p v w : ℕ) → ((s + p % 29 * v) % 29 + w) % 29 ≡ (s + (p * v + w)) % 29
reduced s p v w =
    let q = p / 29 in
    let r = p % 29 in
    let whole : 29 * q + r ≡ p = omega arith in
    let spread : p * v ≡ 29 * q * v + r * v = ap (λ n. n * v) (sym whole) ∙ add-mul (29 * q) r v in
    let whole_part : 29 * q * v ≡ 29 * (q * v) = mul_assoc 29 q v in
    omega arith

pub loop-i-preserved : goal.loop-i-preserved
loop-i-preserved c =
    let i = c.loop-i.i in
    let sum = c.loop-i.sum in
    let text = c.args.text.now in
    let v = c.weight.result in
    let rest = weighted (i + 1 + 1) (drop (i + 1) text) in
    let step : weighted (i + 1) (drop i text) ≡ (i + 1) * value_of (get_or text i 0) + rest = at_drop_more (weighted (i + 1)) text i 0 (omega arith) in
    let same : (i + 1) * value_of (get_or text i 0) ≡ (i + 1) * v = ap (λ n. (i + 1) * n) (sym c.weight.ensures.value) in
    let whole : (sum + ((i + 1) * v + rest)) % 29 ≡ weighted 1 text % 29 = ap (λ n. (sum + n) % 29) (sym (step ∙ ap (λ n. n + rest) same)) ∙ c.loop-i.invariant.0 in
    (omega (arith, reduced sum (i + 1) v rest, whole), omega arith)

pub returns : goal.returns
returns c =
    let i = c.loop-i.i in
    let text = c.args.text.now in
    let done : weighted (i + 1) (drop i text) ≡ 0 = at_drop_all (weighted (i + 1)) text i (omega arith) in
    let whole : c.loop-i.sum ≡ weighted 1 text % 29 = omega (arith, done, c.loop-i.invariant.0, c.loop-i.invariant.1) in
    c.character.ensures ∙ ap char_of whole
