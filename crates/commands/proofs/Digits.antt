-- One digit more, or none; and the bound of what so many digits write. Assumes nothing.
use Rattle.std.proofs.Common.{◌≡◌, ℕ, ◌+◌, ◌-◌, ◌*◌, ◌^◌, ◌<◌, ◌≤◌, true, false, cond, List, length, get_or, drop, None, ap, ◌∙◌, pow-suc, add-one, arith, rules}
use native.Mathlib.Nat.{pow-le-pow_right}
use Rattle.commands.specs.Numbers.{is_digit, digits_on}
use Rattle.std.proofs.lemmas.List.{at_drop_more}

pub digit_more : (n i : ℕ) (w : List ℕ) → i < length w → 48 ≤ get_or w i 0 → get_or w i 0 ≤ 57
    → digits_on n (drop i w) ≡ digits_on (n * 10 + (get_or w i 0 - 48)) (drop (i + 1) w)
digit_more n i w h low high =
    let b = get_or w i 0 in
    let test : is_digit b ≡ true = search rules in
    at_drop_more (digits_on n) w i 0 h ∙ ap (λ t. cond t (digits_on (n * 10 + (b - 48)) (drop (i + 1) w)) None) test

pub digit_none : (n i : ℕ) (w : List ℕ) → i < length w → is_digit (get_or w i 0) ≡ false → digits_on n (drop i w) ≡ None
digit_none n i w h test =
    let b = get_or w i 0 in
    at_drop_more (digits_on n) w i 0 h ∙ ap (λ t. cond t (digits_on (n * 10 + (b - 48)) (drop (i + 1) w)) None) test

pub below_more : (n i d : ℕ) → n < 10 ^ i → d < 10 → n * 10 + d < 10 ^ (i + 1)
below_more n i d h k = let more : 10 ^ (i + 1) ≡ 10 ^ i * 10 = ap (λ m. 10 ^ m) (add-one i) ∙ pow-suc 10 i in omega arith

pub below_all : (n i : ℕ) → n < 10 ^ i → i ≤ 13 → n < 10000000000000
below_all n i h k = let top : 10 ^ i ≤ 10 ^ 13 = pow-le-pow_right {n = 10} (omega arith) k in omega arith
