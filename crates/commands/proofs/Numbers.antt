-- A number word is the decimal of its number. Assumes nothing.
use Rattle.std.proofs.Common.{◌≡◌, ℕ, ◌+◌, ◌-◌, ◌*◌, ◌^◌, ◌<◌, ◌≤◌, Bool, true, false, cond, ◌&&◌, eqb, leb, ◌⊎◌, List, [], ◌∷◌, length, get_or, Some, None, Option, codes, decimal, sym, refl, ap, ◌∙◌, inl, inr, arith, rules}
use Rattle.commands.specs.Numbers.{is_digit, digits_on, misshapen, number, from_1_to_100, count, or_else, delay}
use Rattle.commands.specs.Spelling.{Worded}
use Rattle.std.proofs.lemmas.Bool.{and_parts, cases_eq, false_from_ne_true}
use Rattle.std.proofs.lemmas.Bool.Decides.{nat_tests}
use Rattle.std.proofs.lemmas.Fmt.{decimal_digit, decimal_nonempty, digits_decimal, first_decimal, length-decimal-le, digits_value-decimal, decimal-digits_value}
use Rattle.std.proofs.lemmas.Option.{cond_some}
use Rattle.std.proofs.lemmas.Slice.Eq.{bytes_eq-Decides}
use Rattle.std.proofs.lemmas.Str.Parse.{IsNumeralModel, numerals_by_fold, digits_value_short}
use Rattle.std.specs.Str.{bytes_eq}
use Rattle.texts.specs.Pieces.{upto}

abbrev pub read_on : ℕ → List ℕ → ℕ
read_on n [] = n
read_on n (b ∷ bs) = read_on (n * 10 + (b - 48)) bs

abbrev pub all_digits : List ℕ → Bool
all_digits [] = true
all_digits (b ∷ bs) = is_digit b && all_digits bs

pub own : IsNumeralModel (λ ds. all_digits ds ≡ true) (read_on 0)
own = numerals_by_fold _ (search rules) read_on (search rules)

digits : (n : ℕ) (ds : List ℕ) → digits_on n ds ≡ cond (all_digits ds) (Some (read_on n ds)) None
digits n [] = refl
digits n (b ∷ bs) =
    let m : ℕ = n * 10 + (b - 48) in
    elim (is_digit b) as (λ v. cond v (digits_on m bs) None ≡ cond (v && all_digits bs) (Some (read_on m bs)) None) [ true ↦ digits m bs | false ↦ refl ]

-- 1 to 13 bytes, with no leading zero
shape : (t : List ℕ) → misshapen t ≡ false → (0 < length t) × (length t ≤ 13) × (get_or t 0 0 ≡ 48 → length t ≡ 1)
shape t e = (grind (arith, nat_tests), grind (arith, nat_tests), λ z. grind (arith, nat_tests))

shaped : (t : List ℕ) → 0 < length t → length t ≤ 13 → (get_or t 0 0 ≡ 48 → length t ≡ 1) → misshapen t ≡ false
shaped t some few led = grind (arith, nat_tests)

-- a number word
pub number_ok : (t : List ℕ) (n : ℕ) → number t ≡ Some n → (t ≡ decimal n) × (n < 10 ^ 13)
number_ok t n e = go (misshapen t) refl e
  where
    go : (v : Bool) → misshapen t ≡ v → cond v None (digits_on 0 t) ≡ Some n → (t ≡ decimal n) × (n < 10 ^ 13)
    go true s h = cc
    go false s h =
        let d = cond_some (all_digits t) (read_on 0 t) n (sym (digits 0 t) ∙ h) in
        let a = shape t s in
        let small : read_on 0 t < 10 ^ 13 = digits_value_short own t 13 d.0 a.1 in
        (sym (decimal-digits_value own t d.0 a.0 a.2 (omega arith)) ∙ ap decimal d.1, omega (arith, d.1))

pub range_ok : (o : Option ℕ) (n : ℕ) → from_1_to_100 o ≡ Some n → (o ≡ Some n) × (1 ≤ n) × (n ≤ 100)
range_ok None n e = cc
range_ok (Some m) n e = let c = cond_some (leb 1 m && leb m 100) m n e in (ap Some c.1, grind (arith, nat_tests), grind (arith, nat_tests))

pub delay_ok : (t : List ℕ) (s : ℕ) → delay t ≡ Some s → ((t ≡ decimal s) ⊎ ((s ≡ 0) × (t ≡ codes "now"))) × (s < 10 ^ 13)
delay_ok t s e = go (bytes_eq t (codes "now")) refl e
  where
    go : (v : Bool) → bytes_eq t (codes "now") ≡ v → or_else (cond v (Some 0) None) (number t) ≡ Some s → ((t ≡ decimal s) ⊎ ((s ≡ 0) × (t ≡ codes "now"))) × (s < 10 ^ 13)
    go true d h = let zero : s ≡ 0 = cc in (inr (zero, (bytes_eq-Decides t (codes "now")).0 d), omega arith)
    go false d h = let n = number_ok t s h in (inl n.0, n.1)

-- a decimal
small : (n : ℕ) → n < 10 ^ 13 → n < 2 ^ 64
small n h = omega arith

digits_plain : (ds : List ℕ) → all_digits ds ≡ true → upto 32 ds ≡ ds
digits_plain [] e = refl
digits_plain (b ∷ bs) e =
    let both = and_parts (is_digit b) (all_digits bs) e in
    let other : eqb b 32 ≡ false = grind (arith, nat_tests) in
    rw (other, digits_plain bs both.1)

pub decimal_word : (n : ℕ) → n < 10 ^ 13 → Worded (decimal n)
decimal_word n h = (decimal_nonempty n (small n h), digits_plain (decimal n) (digits_decimal own n (small n h)))

pub number_read : (n : ℕ) → n < 10 ^ 13 → number (decimal n) ≡ Some n
number_read n h =
    let d = decimal n in
    let few = length-decimal-le 13 n (omega arith) h (small n h) in
    let led : get_or d 0 0 ≡ 48 → length d ≡ 1 = λ z. elim (cases_eq n 0) [
      | inl none ↦ ap (λ m. length (decimal m)) none ∙ ap length (decimal_digit 0 (omega arith))
      | inr some ↦ absurd (omega (arith, first_decimal n (omega arith) (small n h)))
    ] in
    rw (shaped d (decimal_nonempty n (small n h)) few led, digits 0 d, digits_decimal own n (small n h), digits_value-decimal own n (small n h))

pub count_read : (n : ℕ) → 1 ≤ n → n ≤ 100 → count (decimal n) ≡ Some n
count_read n low high = rw (number_read n (omega arith)) (grind (arith, nat_tests))

-- no digits are `now`
not_now : (ds : List ℕ) → all_digits ds ≡ true → bytes_eq ds (codes "now") ≡ false
not_now ds e = false_from_ne_true _ (λ h. let other : false ≡ true = ap all_digits (sym ((bytes_eq-Decides ds (codes "now")).0 h)) ∙ e in cc)

pub delay_read : (n : ℕ) → n < 10 ^ 13 → delay (decimal n) ≡ Some n
delay_read n h = rw (not_now (decimal n) (digits_decimal own n (small n h)), number_read n h)
