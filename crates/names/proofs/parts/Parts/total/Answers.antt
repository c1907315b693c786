use Rattle.std.proofs.Common.{◌≡◌, ℕ, ◌+◌, ◌*◌, ◌^◌, ◌≤◌, get_or, drop, sym, ap, ◌∙◌, mul_assoc, mul-le-mul, pow-suc, mul-one, add-one, arith}
use native.Mathlib.Nat.{pow-le-pow_right}
use Rattle.std.proofs.lemmas.List.{at_drop_more, at_drop_all}
use Rattle.names.specs.Naming.{base, total}
use Rattle.names.proofs.Numbers.{base_small}
use Rattle.names.proofs.parts.Parts.total.Goals as goal

grows : (t b i : ℕ) → t ≤ 29 ^ i → b ≤ 29 → t * b ≤ 29 ^ (i + 1)
grows t b i h k = rw (add-one, pow-suc) (mul-le-mul h k)

few : (t i : ℕ) → t ≤ 29 ^ i → i ≤ 8 → t ≤ 29 ^ 8
few t i h k = let up : 29 ^ i ≤ 29 ^ 8 = pow-le-pow_right {n = 29} (omega arith) k in omega arith

bounded : (c : goal.After-base_of-total) → c.loop-m.total * c.base_of-total.result ≤ 29 ^ (c.loop-m.m-index + 1)
bounded c =
    let small : c.base_of-total.result ≤ 29 = omega (arith, c.base_of-total.ensures, base_small (get_or c.args.self.now.mask.now c.loop-m.m-index 0)) in
    grows c.loop-m.total c.base_of-total.result c.loop-m.m-index c.loop-m.invariant.1 small

pub overflow_mul-total : goal.overflow_mul-total
overflow_mul-total c =
    let t = c.loop-m.total * c.base_of-total.result in
    let small : t ≤ 29 ^ 8 = few t (c.loop-m.m-index + 1) (bounded c) (omega arith) in
    omega arith

pub loop-m-preserved : goal.loop-m-preserved
loop-m-preserved c =
    let i = c.loop-m.m-index in
    let mask = c.args.self.now.mask.now in
    let t = c.loop-m.total in
    let b = c.base_of-total.result in
    let rest = total (drop (i + 1) mask) in
    let step : total (drop i mask) ≡ base (get_or mask i 0) * rest = at_drop_more total mask i 0 (omega arith) in
    let here : total (drop i mask) ≡ b * rest = step ∙ ap (λ n. n * rest) (sym c.base_of-total.ensures) in
    (mul_assoc t b rest ∙ (ap (λ n. t * n) (sym here) ∙ c.loop-m.invariant.0), bounded c)

pub returns : goal.returns
returns c =
    let i = c.loop-m.m-index in
    let mask = c.args.self.now.mask.now in
    let t = c.loop-m.total in
    let done : total (drop i mask) ≡ 1 = at_drop_all total mask i (omega arith) in
    record { value = sym (mul-one t) ∙ (ap (λ n. t * n) (sym done) ∙ c.loop-m.invariant.0); small = few t i c.loop-m.invariant.1 (omega arith) }
