-- Each of the 29 characters has a value below 29, and the values and the characters undo each other.
use Rattle.std.proofs.Common.{◌≡◌, ℕ, zero, suc, ◌+◌, ◌-◌, ◌<◌, ◌≤◌, Bool, true, false, ◌&&◌, eqb, List, [], ◌∷◌, length, get_or, Some, None, Option, unwrap_or, sym, refl, ap, ◌∙◌, subst, ⊎_elim, arith}
use Rattle.std.proofs.lemmas.Bool.{cases_Bool, cases_lt, and_parts, cond-true, cond-false, eqb-true}
use Rattle.names.specs.Alphabet.{alphabet, char_of, place_from, value_in, value_of}

-- a place that was found has the byte
found : (n b v : ℕ) (xs : List ℕ) → place_from n b xs ≡ Some v → (n ≤ v) × (v < n + length xs) × (get_or xs (v - n) 0 ≡ b)
found n b v [] e = absurd (let z : ◌≡◌ {A = ℕ} 0 1 = cc in omega arith)
found n b v (x ∷ xs) e =
    ⊎_elim
    (λ (h : eqb b x ≡ true).
    let here : ◌≡◌ {A = Option ℕ} (Some n) (Some v) = sym (cond-true (eqb b x) (Some n) (place_from (n + 1) b xs) h) ∙ e in
    let same : n ≡ v = cc in
    let none : v - n ≡ 0 = omega arith in
    (omega arith, omega arith, rw none (sym (eqb-true b x h))))
    (λ (h : eqb b x ≡ false).
    let ih = found (n + 1) b v xs (sym (cond-false (eqb b x) (Some n) (place_from (n + 1) b xs) h) ∙ e) in
    let more : v - n ≡ suc (v - (n + 1)) = omega arith in
    (omega arith, omega arith, rw more ih.2))
    (cases_Bool (eqb b x))

pub value_small : (b v : ℕ) → value_in b ≡ Some v → v < 29
value_small b v e = omega (arith, (found 0 b v alphabet e).1)

pub char_of_value : (b v : ℕ) → value_in b ≡ Some v → char_of v ≡ b
char_of_value b v e = let z : v - 0 ≡ v = omega arith in subst (λ (n : ℕ). get_or alphabet n 0 ≡ b) z (found 0 b v alphabet e).2

or_zero_small : (o : Option ℕ) → ((v : ℕ) → o ≡ Some v → v < 29) → unwrap_or o 0 < 29
or_zero_small None h = omega arith
or_zero_small (Some v) h = h v refl

pub weight_small : (b : ℕ) → value_of b < 29
weight_small b = or_zero_small (value_in b) (value_small b)

-- a test of each number below n
unfoldable pub below : ℕ → (ℕ → Bool) → Bool
below zero f = true
below (suc n) f = f n && below n f

pub below_at : (n : ℕ) (f : ℕ → Bool) → below n f ≡ true → (k : ℕ) → k < n → f k ≡ true
unfolding below
below_at zero f e k h = absurd (omega arith)
below_at (suc n) f e k h =
    ⊎_elim
    (λ (lt : k < n). below_at n f (and_parts (f n) (below n f) e).1 k lt)
    (λ (ge : n ≤ k). let same : k ≡ n = omega arith in ap f same ∙ (and_parts (f n) (below n f) e).0)
    (cases_lt k n)

is_value : Option ℕ → ℕ → Bool
is_value None v = false
is_value (Some w) v = eqb w v

from_is_value : (o : Option ℕ) (v : ℕ) → is_value o v ≡ true → o ≡ Some v
unfolding is_value
from_is_value None v e = absurd (let z : ◌≡◌ {A = ℕ} 0 1 = cc in omega arith)
from_is_value (Some w) v e = ap Some (eqb-true w v e)

table : below 29 (λ v. is_value (value_in (char_of v)) v) ≡ true
unfolding below is_value
table = refl

pub value_of_char : (v : ℕ) → v < 29 → value_in (char_of v) ≡ Some v
value_of_char v h = from_is_value (value_in (char_of v)) v (below_at 29 (λ v. is_value (value_in (char_of v)) v) table v h)
