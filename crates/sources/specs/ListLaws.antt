-- Facts of counted lists. Assumes nothing.
use Rattle.std.specs.Prelude.{◌≡◌, ℕ, suc, ◌≤◌, Bool, true, false, cond, ◌||◌, ltb, List, [], ◌∷◌, ◌==◌, nat_lt}
use Rattle.std.proofs.Common.{sym, ap, ◌∙◌, arith}
use Rattle.std.proofs.lemmas.Bool.{lt-ltb, le-ltb}
use Rattle.sources.specs.Lists.{count, has}

pub has_counted : (n : ℕ) (xs : List ℕ) → has n xs ≡ nat_lt 0 (count n xs)
has_counted n [] = sym (le-ltb 0 0 (omega arith))
has_counted n (x ∷ xs) =
    let ih = has_counted n xs in
    let more : ltb 0 (suc (count n xs)) ≡ true = lt-ltb 0 (suc (count n xs)) (omega arith) in
    elim (n == x) as (λ v. (v || has n xs) ≡ nat_lt 0 (cond v (suc (count n xs)) (count n xs))) [ true ↦ sym more | false ↦ ih ]

-- a number that stands once or not at all
pub has_bit : (n : ℕ) (xs : List ℕ) (b : Bool) → count n xs ≡ cond b 1 0 → has n xs ≡ b
has_bit n xs b e =
    has_counted n xs ∙ ap (ltb 0) e ∙ elim b as (λ v. nat_lt 0 (cond v 1 0) ≡ v) [ true ↦ lt-ltb 0 1 (omega arith) | false ↦ le-ltb 0 0 (omega arith) ]

pub bit_once : (n : ℕ) (xs : List ℕ) (b : Bool) → count n xs ≡ cond b 1 0 → count n xs ≤ 1
bit_once n xs b e = rw e (elim b as (λ v. cond v 1 0 ≤ 1) [ true ↦ omega arith | false ↦ omega arith ])
