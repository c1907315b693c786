-- Two texts that differ in one byte, or in two bytes exchanged, have other check values, as 29 divides no product of two smaller numbers.
use Rattle.std.proofs.Common.{◌≡◌, ℕ, zero, suc, ◌+◌, ◌-◌, ◌*◌, ◌%◌, ◌<◌, ◌≤◌, Bool, true, ltb, ◌≢◌, List, [], ◌∷◌, length, get_or, set, sym, refl, ap, ◌∙◌, subst, ⊎_elim, add-zero, add-mul, mul-add, arith, length-set, get_or-set_other}
use Rattle.std.proofs.lemmas.Bool.{cases_lt, ltb-true}
use Rattle.names.specs.Alphabet.{value_of}
use Rattle.names.specs.Check.{weighted}
use Rattle.names.specs.Texts.{swapped}
use Rattle.names.proofs.Characters.{below, below_at, weight_small}

some : ℕ → ℕ → Bool
some a d = ltb 0 (suc a * suc d % 29)

-- by one test of 784 products
table : below 28 (λ a. below 28 (some a)) ≡ true
unfolding below some
table = refl

no_product : (a d : ℕ) → a < 28 → d < 28 → 0 < suc a * suc d % 29
unfolding some
no_product a d ha hd = ltb-true 0 (suc a * suc d % 29) (below_at 28 (some a) (below_at 28 (λ a. below 28 (some a)) table a ha) d hd)

cancel_up : (a v x s t : ℕ) → 0 < a → a < 29 → x < 29 → s + a * v ≡ t + a * x → s % 29 ≡ t % 29 → v < x → ⊥
cancel_up a v x s t pos small hx e m lt =
    let d = x - v in
    let whole : v + d ≡ x = omega arith in
    let spread : a * x ≡ a * v + a * d = ap (λ n. a * n) (sym whole) ∙ mul-add a v d in
    let none : a * d % 29 ≡ 0 = omega (arith, spread) in
    let pa : suc (a - 1) ≡ a = omega arith in
    let pd : suc (d - 1) ≡ d = omega arith in
    let some_left : 0 < a * d % 29 = subst (λ (n : ℕ). 0 < n * d % 29) pa (subst (λ (n : ℕ). 0 < suc (a - 1) * n % 29) pd (no_product (a - 1) (d - 1) (omega arith) (omega arith))) in
    omega arith

-- a factor of 1 to 28 can be taken away modulo 29
cancel : (a v x s t : ℕ) → 0 < a → a < 29 → v < 29 → x < 29 → s + a * v ≡ t + a * x → s % 29 ≡ t % 29 → x ≡ v
cancel a v x s t pos small hv hx e m =
    ⊎_elim
    (λ (lt : v < x). absurd (cancel_up a v x s t pos small hx e m lt))
    (λ (ge : x ≤ v). ⊎_elim
    (λ (lt : x < v). absurd (cancel_up a x v t s pos small hv (sym e) (sym m) lt))
    (λ (le : v ≤ x). omega arith)
    (cases_lt x v))
    (cases_lt v x)

weighted_set : (p : ℕ) (t : List ℕ) (k b : ℕ) → k < length t → weighted p (set t k b) + (p + k) * value_of (get_or t k 0) ≡ weighted p t + (p + k) * value_of b
weighted_set p [] k b h = absurd (omega arith)
weighted_set p (c ∷ t) zero b h = rw add-zero (omega arith)
weighted_set p (c ∷ t) (suc k) b h =
    let ih = weighted_set (p + 1) t k b (omega arith) in
    let same : p + 1 + k ≡ p + suc k = omega arith in
    let moved : weighted (p + 1) (set t k b) + (p + suc k) * value_of (get_or t k 0) ≡ weighted (p + 1) t + (p + suc k) * value_of b =
    subst (λ (n : ℕ). weighted (p + 1) (set t k b) + n * value_of (get_or t k 0) ≡ weighted (p + 1) t + n * value_of b) same ih in
    omega arith

pub change_found : (t : List ℕ) (k b : ℕ) → length t ≤ 27 → k < length t → weighted 1 (set t k b) % 29 ≡ weighted 1 t % 29 → value_of b ≡ value_of (get_or t k 0)
change_found t k b few in-text e =
    cancel (1 + k) (value_of (get_or t k 0)) (value_of b) (weighted 1 (set t k b)) (weighted 1 t) (omega arith) (omega arith) (weight_small (get_or t k 0)) (weight_small b) (weighted_set 1 t k b in-text) e

pub exchange_found : (t : List ℕ) (i j : ℕ) → length t ≤ 27 → i < j → j < length t → weighted 1 (swapped t i j) % 29 ≡ weighted 1 t % 29 → value_of (get_or t i 0) ≡ value_of (get_or t j 0)
exchange_found t i j few lt in-text e =
    let x = value_of (get_or t i 0) in
    let y = value_of (get_or t j 0) in
    let ws = set t i (get_or t j 0) in
    let ne : j ≢ i = λ (q : j ≡ i). omega arith in
    let kept : get_or ws j 0 ≡ get_or t j 0 = get_or-set_other t i j (get_or t j 0) 0 ne in
    let long : length ws ≡ length t = simp length-set in
    let first : weighted 1 ws + (1 + i) * x ≡ weighted 1 t + (1 + i) * y = weighted_set 1 t i (get_or t j 0) (omega arith) in
    let second : weighted 1 (swapped t i j) + (1 + j) * value_of (get_or ws j 0) ≡ weighted 1 ws + (1 + j) * x = weighted_set 1 ws j (get_or t i 0) (omega arith) in
    let second' : weighted 1 (swapped t i j) + (1 + j) * y ≡ weighted 1 ws + (1 + j) * x =
    subst (λ (n : ℕ). weighted 1 (swapped t i j) + (1 + j) * value_of n ≡ weighted 1 ws + (1 + j) * x) kept second in
    let d = j - i in
    let apart : 1 + i + d ≡ 1 + j = omega arith in
    let ey : (1 + j) * y ≡ (1 + i) * y + d * y = ap (λ n. n * y) (sym apart) ∙ add-mul (1 + i) d y in
    let ex : (1 + j) * x ≡ (1 + i) * x + d * x = ap (λ n. n * x) (sym apart) ∙ add-mul (1 + i) d x in
    cancel d y x (weighted 1 (swapped t i j)) (weighted 1 t) (omega arith) (omega arith) (weight_small (get_or t j 0)) (weight_small (get_or t i 0)) (omega arith) e

-- the check character, of value w, exchanged with the byte at k
pub closing_found : (t : List ℕ) (k b : ℕ) → length t ≤ 27 → k < length t → value_of b ≡ weighted 1 t % 29 → weighted 1 (set t k b) % 29 ≡ value_of (get_or t k 0) → value_of (get_or t k 0) ≡ value_of b
closing_found t k b few in-text eb e =
    let v = value_of (get_or t k 0) in
    let c = value_of b in
    let new = weighted 1 (set t k b) in
    let old = weighted 1 t in
    let step : new + (1 + k) * v ≡ old + (1 + k) * c = weighted_set 1 t k b in-text in
    let hc : c < 29 = weight_small b in
    let hv : v < 29 = weight_small (get_or t k 0) in
    let ev : (1 + k + 1) * v ≡ (1 + k) * v + 1 * v = add-mul (1 + k) 1 v in
    let ec : (1 + k + 1) * c ≡ (1 + k) * c + 1 * c = add-mul (1 + k) 1 c in
    sym (cancel (1 + k + 1) v c (new - v) (old - c) (omega arith) (omega arith) hv hc (omega arith) (omega arith))
