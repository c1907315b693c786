-- Totals are positive and bounded, and a number's characters can be taken off from the last position.
use Rattle.std.proofs.Common.{◌≡◌, ℕ, suc, ◌+◌, ◌*◌, ◌/◌, ◌%◌, ◌^◌, ◌<◌, ◌≤◌, List, [], ◌∷◌, ◌++◌, length, sym, refl, ap, ◌∙◌, mod-lt, mod-eq_of_lt, mul_assoc, mul_comm, mul-le-mul, mul-pos, mul-one, div-one, arith}
use native.Mathlib.Nat.{pow-succ', div-div-eq-div-mul}
use lib.Arith.{mod-mul, digits_div, digits_mod}
use Rattle.std.proofs.lemmas.Bool.Decides.{nat_tests}
use Rattle.names.specs.Alphabet.{char_of}
use Rattle.names.specs.Naming.{base, total, digits}

pub base_small : (m : ℕ) → base m ≤ 29
base_small m = grind (arith, nat_tests)

pub base_some : (m : ℕ) → 0 < base m
base_some m = grind (arith, nat_tests)

pub total_some : (ms : List ℕ) → 0 < total ms
total_some [] = omega arith
total_some (m ∷ ms) = mul-pos (base_some m) (total_some ms)

pub total_small : (ms : List ℕ) → total ms ≤ 29 ^ length ms
total_small [] = omega arith
total_small (m ∷ ms) = rw pow-succ' (mul-le-mul (base_small m) (total_small ms))

pub length_digits : (ms : List ℕ) (n : ℕ) → length (digits ms n) ≡ length ms
length_digits [] n = refl
length_digits (m ∷ ms) n = ap suc (length_digits ms (n % total ms))

pub total_push : (ms : List ℕ) (m : ℕ) → total (ms ++ m ∷ []) ≡ total ms * base m
total_push [] m = mul_comm (base m) 1
total_push (x ∷ ms) m = ap (λ n. base x * n) (total_push ms m) ∙ sym (mul_assoc (base x) (total ms) (base m))

pub digits_push : (ms : List ℕ) (m n : ℕ) → n < total (ms ++ m ∷ []) → digits (ms ++ m ∷ []) n ≡ digits ms (n / base m) ++ char_of (n % base m) ∷ []
digits_push [] m n h =
    let small : n < base m = omega (arith, mul-one (base m)) in
    let same : n / 1 ≡ n % base m = div-one n ∙ sym (mod-eq_of_lt small) in
    ap (λ k. char_of k ∷ []) same
digits_push (x ∷ ms) m n h =
    let b = base m in
    let t = total ms in
    let low : n % b < b = mod-lt n (base_some m) in
    let high : n / total (ms ++ m ∷ []) ≡ n / b / t = ap (λ k. n / k) (total_push ms m ∙ mul_comm t b) ∙ sym (div-div-eq-div-mul n b t) in
    let rest : n % total (ms ++ m ∷ []) ≡ (n / b % t) * b + n % b = ap (λ k. n % k) (total_push ms m) ∙ mod-mul n (total_some ms) (base_some m) in
    let above : n % total (ms ++ m ∷ []) / b ≡ n / b % t = ap (λ k. k / b) rest ∙ digits_div (n / b % t) low in
    let ones : n % total (ms ++ m ∷ []) % b ≡ n % b = ap (λ k. k % b) rest ∙ digits_mod (n / b % t) low in
    let ih = digits_push ms m (n % total (ms ++ m ∷ [])) (mod-lt n (total_some (ms ++ m ∷ []))) in
    cc (high, above, ones, ih)
