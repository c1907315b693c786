-- Names and readings undo each other.
use Rattle.std.proofs.Common.{◌≡◌, ℕ, suc, ◌+◌, ◌-◌, ◌*◌, ◌/◌, ◌%◌, ◌^◌, ◌<◌, ◌≤◌, Bool, true, false, cond, ◌&&◌, ◌||◌, eqb, ltb, leb, List, [], ◌∷◌, ◌++◌, map, length, get_or, take, is_some, Some, None, Ok, Err, Option, Result, unwrap_or, sym, refl, ap, ◌∙◌, subst, ⊎_elim, add-zero, mod-lt, mul_assoc, div-lt_iff_lt-mul, add-mul, div-add-mod', arith}
use native.Mathlib.Nat.{pow-le-pow_right}
use lib.Arith.{digits_lt, digits_div, digits_mod}
use Rattle.std.proofs.lemmas.List.{append_assoc, append-nil, length-append, length-map, length_push, take_at, get_or_at}
use Rattle.std.proofs.lemmas.Bool.{cases_Bool, cases_lt, cond-true, cond-false, and_parts, eqb-true, eq-eqb, leb-true, or_cases, lt-ltb, le-ltb, ltb-true}
use Rattle.names.specs.Alphabet.{char_of, value_in, value_of, is_of_29}
use Rattle.names.specs.Check.{weighted, check_char}
use Rattle.names.specs.Forms.{Form}
use Rattle.names.specs.Naming.{base, total, digits, body, ended, name_of}
use Rattle.names.specs.Validate.{position, last_slot, slots, fits, counted, walked, closes, closed, reads}
use Rattle.names.specs.declared.fault.NameFault.{NameFault}
use Rattle.names.specs.declared.fault.NameFault.TheVariants.{Length, Byte, Check}
use Rattle.names.specs.declared.slot.Slot.{Slot}
use Rattle.names.specs.declared.slot.Slot.TheVariants.{Fixed, Digit, Letter}
use Rattle.names.proofs.Characters.{below, below_at, value_small, char_of_value, value_of_char}
use Rattle.names.proofs.Numbers.{total_some, total_small, length_digits}
use Rattle.names.proofs.Slots.{reads_closed}

-- a character of the 29 and its value

pub value_back : (v : ℕ) → v < 29 → value_of (char_of v) ≡ v
value_back v h = ap (λ o. unwrap_or o 0) (value_of_char v h)

pub char_fits : (v : ℕ) → v < 29 → is_of_29 (char_of v) ≡ true
char_fits v h = ap is_some (value_of_char v h)

known : (o : Option ℕ) → is_some o ≡ true → o ≡ Some (unwrap_or o 0)
known None e = absurd (let z : ◌≡◌ {A = ℕ} 0 1 = cc in omega arith)
known (Some v) e = refl

pub char_back : (b : ℕ) → is_of_29 b ≡ true → (value_of b < 29) × (char_of (value_of b) ≡ b)
char_back b e =
    let k = known (value_in b) e in
    (value_small b (value_of b) k, char_of_value b (value_of b) k)

digits_table : below 10 (λ v. leb 48 (char_of v) && leb (char_of v) 57) ≡ true
unfolding below
digits_table = refl

digit_values : below 58 (λ b. leb b 47 || (is_of_29 b && ltb (value_of b) 10)) ≡ true
unfolding below
digit_values = refl

digit_back : (b : ℕ) → (leb 48 b && leb b 57) ≡ true → (is_of_29 b ≡ true) × (value_of b < 10)
digit_back b e =
    let from = leb-true 48 b (and_parts (leb 48 b) (leb b 57) e).0 in
    let to = leb-true b 57 (and_parts (leb 48 b) (leb b 57) e).1 in
    let tested = below_at 58 (λ b. leb b 47 || (is_of_29 b && ltb (value_of b) 10)) digit_values b (omega arith) in
    ⊎_elim
    (λ (low : leb b 47 ≡ true). absurd (omega (arith, leb-true b 47 low)))
    (λ (both : (is_of_29 b && ltb (value_of b) 10) ≡ true).
    let parts = and_parts (is_of_29 b) (ltb (value_of b) 10) both in
    (parts.0, ltb-true (value_of b) 10 parts.1))
    (or_cases (leb b 47) (is_of_29 b && ltb (value_of b) 10) tested)

-- a byte that fits a position has a value below its base, and each such value's character fits

takes : (d : Bool) (v : ℕ) → v < cond d 10 29 → (v < 29) × (fits (cond d Digit Letter) (char_of v) ≡ true)
takes true v h = (omega arith, below_at 10 (λ v. leb 48 (char_of v) && leb (char_of v) 57) digits_table v h)
takes false v h = (h, char_fits v h)

pub position_takes : (m v : ℕ) → v < base m → (v < 29) × (fits (position m) (char_of v) ≡ true)
position_takes m v h = takes (eqb m 100) v h

counts : (d : Bool) (b n : ℕ) → counted (cond d Digit Letter) b n ≡ n * cond d 10 29 + value_of b
counts true b n = refl
counts false b n = refl

pub position_counts : (m b n : ℕ) → counted (position m) b n ≡ n * base m + value_of b
position_counts m b n = counts (eqb m 100) b n

fitted : (d : Bool) (b : ℕ) → fits (cond d Digit Letter) b ≡ true → (value_of b < cond d 10 29) × (char_of (value_of b) ≡ b)
fitted true b e = let k = digit_back b e in (k.1, (char_back b k.0).1)
fitted false b e = char_back b e

pub position_fits : (m b : ℕ) → fits (position m) b ≡ true → (value_of b < base m) × (char_of (value_of b) ≡ b)
position_fits m b e = fitted (eqb m 100) b e

-- the walk over a name

over_prefix : (i n : ℕ) (p : List ℕ) (us : List Slot) (t : List ℕ) → walked i n (map Fixed p ++ us) (p ++ t) ≡ walked (i + length p) n us t
over_prefix i n [] us t = rw add-zero refl
over_prefix i n (b ∷ p) us t =
    let next : i + 1 + length p ≡ i + suc (length p) = omega arith in
    cond-true (eqb b b) (walked (i + 1) n (map Fixed p ++ us) (p ++ t)) (Err (Byte i)) (eq-eqb b b refl)
    ∙ (over_prefix (i + 1) n p us t ∙ ap (λ k. walked k n us t) next)

-- the number after a position and those behind it
placed : (n b v t k : ℕ) → (n * b + v) * t + k ≡ n * (b * t) + (v * t + k)
placed n b v t k =
    let one : (n * b + v) * t ≡ n * b * t + v * t = add-mul (n * b) v t in
    let two : n * b * t ≡ n * (b * t) = mul_assoc n b t in
    omega arith

over_mask : (i n k : ℕ) (ms : List ℕ) (us : List Slot) (t : List ℕ) → k < total ms → walked i n (map position ms ++ us) (digits ms k ++ t) ≡ walked (i + length ms) (n * total ms + k) us t
over_mask i n k [] us t h =
    let none : n * 1 + k ≡ n = omega arith in
    ap (λ j. walked j n us t) (sym (add-zero i)) ∙ ap (λ j. walked (i + 0) j us t) (sym none)
over_mask i n k (m ∷ ms) us t h =
    let ts = total ms in
    let v = k / ts in
    let high : v < base m = (div-lt_iff_lt-mul (total_some ms)).1 h in
    let ok = position_takes m v high in
    let next : i + 1 + length ms ≡ i + suc (length ms) = omega arith in
    let seen : counted (position m) (char_of v) n ≡ n * base m + v = position_counts m (char_of v) n ∙ ap (λ x. n * base m + x) (value_back v ok.0) in
    let whole : (n * base m + v) * ts + k % ts ≡ n * (base m * ts) + k = placed n (base m) v ts (k % ts) ∙ ap (λ x. n * (base m * ts) + x) (div-add-mod' k ts) in
    cond-true (fits (position m) (char_of v)) (walked (i + 1) (counted (position m) (char_of v) n) (map position ms ++ us) (digits ms (k % ts) ++ t)) (Err (Byte i)) ok.1
    ∙ (ap (λ x. walked (i + 1) x (map position ms ++ us) (digits ms (k % ts) ++ t)) seen
    ∙ (over_mask (i + 1) (n * base m + v) (k % ts) ms us t (mod-lt k (total_some ms))
    ∙ (ap (λ x. walked x ((n * base m + v) * ts + k % ts) us t) next ∙ ap (λ x. walked (i + suc (length ms)) x us t) whole)))

-- and back: what the walk took

from_prefix : (i n r : ℕ) (p : List ℕ) (us : List Slot) (t : List ℕ) → length t ≡ length p + length us → walked i n (map Fixed p ++ us) t ≡ Ok r
    → (t' : List ℕ) × (t ≡ p ++ t') × (walked (i + length p) n us t' ≡ Ok r)
from_prefix i n r [] us t h e = (t, refl, rw add-zero e)
from_prefix i n r (b ∷ p) us [] h e = absurd (omega arith)
from_prefix i n r (b ∷ p) us (c ∷ t) h e =
    let next : i + 1 + length p ≡ i + suc (length p) = omega arith in
    ⊎_elim
    (λ (ok : eqb c b ≡ true).
    let ih = from_prefix (i + 1) n r p us t (omega arith) (sym (cond-true (eqb c b) (walked (i + 1) n (map Fixed p ++ us) t) (Err (Byte i)) ok) ∙ e) in
    let same : c ≡ b = eqb-true c b ok in
    let text : c ∷ t ≡ b ∷ (p ++ ih.0) = cc (same, ih.1) in
    (ih.0, text, ap (λ k. walked k n us ih.0) (sym next) ∙ ih.2))
    (λ (bad : eqb c b ≡ false).
    let refused = sym (cond-false (eqb c b) (walked (i + 1) n (map Fixed p ++ us) t) (Err (Byte i)) bad) ∙ e in
    absurd (let z : ◌≡◌ {A = ℕ} 0 1 = cc in omega arith))
    (cases_Bool (eqb c b))

from_mask : (i n r : ℕ) (ms : List ℕ) (us : List Slot) (t : List ℕ) → length t ≡ length ms + length us → walked i n (map position ms ++ us) t ≡ Ok r
    → (k : ℕ) × (t' : List ℕ) × (k < total ms) × (t ≡ digits ms k ++ t') × (walked (i + length ms) (n * total ms + k) us t' ≡ Ok r)
from_mask i n r [] us t h e =
    let none : n * 1 + 0 ≡ n = omega arith in
    (0, t, omega arith, refl, ap (λ j. walked j (n * 1 + 0) us t) (add-zero i) ∙ (ap (λ j. walked i j us t) none ∙ e))
from_mask i n r (m ∷ ms) us [] h e = absurd (omega arith)
from_mask i n r (m ∷ ms) us (b ∷ t) h e =
    let ts = total ms in
    let v = value_of b in
    let rest = walked (i + 1) (counted (position m) b n) (map position ms ++ us) t in
    let next : i + 1 + length ms ≡ i + suc (length ms) = omega arith in
    ⊎_elim
    (λ (ok : fits (position m) b ≡ true).
    let fit = position_fits m b ok in
    let ih = from_mask (i + 1) (counted (position m) b n) r ms us t (omega arith) (sym (cond-true (fits (position m) b) rest (Err (Byte i)) ok) ∙ e) in
    let k = ih.0 in
    let low : k < ts = ih.2 in
    let high : (v * ts + k) / ts ≡ v = digits_div v low in
    let back : (v * ts + k) % ts ≡ k = digits_mod v low in
    let text : b ∷ t ≡ char_of ((v * ts + k) / ts) ∷ (digits ms ((v * ts + k) % ts) ++ ih.1) = cc (high, back, fit.1, ih.3) in
    let count : counted (position m) b n * ts + k ≡ n * (base m * ts) + (v * ts + k) = ap (λ x. x * ts + k) (position_counts m b n) ∙ placed n (base m) v ts k in
    (v * ts + k, ih.1, digits_lt fit.0 low, text, ap (λ x. walked x (n * (base m * ts) + (v * ts + k)) us ih.1) (sym next) ∙ (ap (λ x. walked (i + 1 + length ms) x us ih.1) (sym count) ∙ ih.4)))
    (λ (bad : fits (position m) b ≡ false).
    let refused = sym (cond-false (fits (position m) b) rest (Err (Byte i)) bad) ∙ e in
    absurd (let z : ◌≡◌ {A = ℕ} 0 1 = cc in omega arith))
    (cases_Bool (fits (position m) b))

-- the whole name

pub closes_push : (t : List ℕ) (b : ℕ) → closes true (t ++ b ∷ []) ≡ eqb (check_char t) b
closes_push t b =
    let last : length (t ++ b ∷ []) - 1 ≡ length t = omega (arith, length_push t b) in
    let front : take (length (t ++ b ∷ []) - 1) (t ++ b ∷ []) ≡ t = ap (λ k. take k (t ++ b ∷ [])) last ∙ take_at t (b ∷ []) (length t) refl in
    let end : get_or (t ++ b ∷ []) (length (t ++ b ∷ []) - 1) 0 ≡ b = ap (λ k. get_or (t ++ b ∷ []) k 0) last ∙ get_or_at t b [] 0 (length t) refl in
    ap (λ s. eqb (check_char s) (get_or (t ++ b ∷ []) (length (t ++ b ∷ []) - 1) 0)) front ∙ ap (eqb (check_char t)) end

check_small : (t : List ℕ) → weighted 1 t % 29 < 29
check_small t = mod-lt (weighted 1 t) (omega arith)

pub named : (f : Form) (n : ℕ) → n < total f.mask → name_of f n ≡ ended f.check (body f n)
named f n h = cond-true (ltb n (total f.mask)) (ended f.check (body f n)) [] (lt-ltb n (total f.mask) h)

pub length_body : (f : Form) (n : ℕ) → length (body f n) ≡ length f.prefix + length f.mask
length_body f n = length-append f.prefix (digits f.mask n) ∙ ap (λ k. length f.prefix + k) (length_digits f.mask n)

length_ended : (check : Bool) (t : List ℕ) → length (ended check t) ≡ length t + length (last_slot check)
length_ended true t = length_push t (check_char t)
length_ended false t = sym (add-zero (length t))

long_slots : (f : Form) → length (slots f) ≡ length f.prefix + (length f.mask + length (last_slot f.check))
long_slots f = simp (length-append, length-map)

over_last_slot : (check : Bool) (i n : ℕ) (t : List ℕ) → (u : List ℕ) × (ended check t ≡ t ++ u) × (walked i n (last_slot check) u ≡ Ok n)
over_last_slot true i n t =
    (check_char t ∷ [], refl, cond-true (is_of_29 (check_char t)) (Ok n) (Err (Byte i)) (char_fits (weighted 1 t % 29) (check_small t)))
over_last_slot false i n t = ([], sym (append-nil t), refl)

closes_ended : (check : Bool) (t : List ℕ) → closes check (ended check t) ≡ true
closes_ended true t = closes_push t (check_char t) ∙ eq-eqb (check_char t) (check_char t) refl
closes_ended false t = refl

-- the walk over prefix, positions and what stands behind them
over_all : (f : Form) (n : ℕ) (u : List ℕ) → n < total f.mask → walked (0 + length f.prefix + length f.mask) (0 * total f.mask + n) (last_slot f.check) u ≡ Ok (0 * total f.mask + n)
    → walked 0 0 (slots f) (f.prefix ++ (digits f.mask n ++ u)) ≡ Ok n
over_all f n u h e =
    let count : 0 * total f.mask + n ≡ n = omega arith in
    over_prefix 0 0 f.prefix (map position f.mask ++ last_slot f.check) (digits f.mask n ++ u)
    ∙ (over_mask (0 + length f.prefix) 0 n f.mask (last_slot f.check) u h ∙ (e ∙ ap Ok count))

long_ended : (f : Form) (n : ℕ) → length (ended f.check (body f n)) ≡ length (slots f)
long_ended f n = omega (arith, length_ended f.check (body f n), length_body f n, long_slots f)

reads_ended : (f : Form) (n : ℕ) → n < total f.mask → reads f (ended f.check (body f n)) ≡ Ok n
reads_ended f n h =
    let end = over_last_slot f.check (0 + length f.prefix + length f.mask) (0 * total f.mask + n) (body f n) in
    let text : ended f.check (body f n) ≡ f.prefix ++ (digits f.mask n ++ end.0) = end.1 ∙ append_assoc f.prefix (digits f.mask n) end.0 in
    let P : List ℕ → Type 0 = λ t. walked 0 0 (slots f) t ≡ Ok n in
    reads_closed f (ended f.check (body f n)) n (long_ended f n) (subst P (sym text) (over_all f n end.0 h end.2)) (closes_ended f.check (body f n))

pub names : (f : Form) (n : ℕ) → n < total f.mask → reads f (name_of f n) ≡ Ok n
names f n h = let P : List ℕ → Type 0 = λ t. reads f t ≡ Ok n in subst P (sym (named f n h)) (reads_ended f n h)

pub nameless : (f : Form) (n : ℕ) → total f.mask ≤ n → name_of f n ≡ []
nameless f n h = cond-false (ltb n (total f.mask)) (ended f.check (body f n)) [] (le-ltb n (total f.mask) h)

from_closed : (check : Bool) (t : List ℕ) (r : Result ℕ NameFault) (n : ℕ) → closed check t r ≡ Ok n → (r ≡ Ok n) × (closes check t ≡ true)
from_closed check t (Ok m) n e =
    ⊎_elim
    (λ (ok : closes check t ≡ true). (sym (cond-true (closes check t) (Ok m) (Err (Check (length t - 1))) ok) ∙ e, ok))
    (λ (bad : closes check t ≡ false).
    let refused = sym (cond-false (closes check t) (Ok m) (Err (Check (length t - 1))) bad) ∙ e in
    absurd (let z : ◌≡◌ {A = ℕ} 0 1 = cc in omega arith))
    (cases_Bool (closes check t))
from_closed check t (Err x) n e = absurd (let z : ◌≡◌ {A = ℕ} 0 1 = cc in omega arith)

from_reads : (f : Form) (t : List ℕ) (n : ℕ) → reads f t ≡ Ok n → (length t ≡ length (slots f)) × (walked 0 0 (slots f) t ≡ Ok n) × (closes f.check t ≡ true)
from_reads f t n e =
    let long = eqb (length t) (length (slots f)) in
    let whole = closed f.check t (walked 0 0 (slots f) t) in
    ⊎_elim
    (λ (ok : long ≡ true).
    let rest = from_closed f.check t (walked 0 0 (slots f) t) n (sym (cond-true long whole (Err (Length (length t))) ok) ∙ e) in
    (eqb-true (length t) (length (slots f)) ok, rest.0, rest.1))
    (λ (bad : long ≡ false).
    let refused = sym (cond-false long whole (Err (Length (length t))) bad) ∙ e in
    absurd (let z : ◌≡◌ {A = ℕ} 0 1 = cc in omega arith))
    (cases_Bool long)

-- what stands behind the body is the check character, if there is one
from_last_slot : (check : Bool) (i n r : ℕ) (s u : List ℕ) → length u ≡ length (last_slot check) → walked i n (last_slot check) u ≡ Ok r → closes check (s ++ u) ≡ true → (n ≡ r) × (s ++ u ≡ ended check s)
from_last_slot true i n r s [] h e k = absurd (omega arith)
from_last_slot true i n r s (b ∷ []) h e k =
    let same : check_char s ≡ b = eqb-true (check_char s) b (sym (closes_push s b) ∙ k) in
    ⊎_elim
    (λ (ok : is_of_29 b ≡ true).
    let good = sym (cond-true (is_of_29 b) (Ok n) (Err (Byte i)) ok) ∙ e in
    (cc, ap (λ c. s ++ c ∷ []) (sym same)))
    (λ (bad : is_of_29 b ≡ false).
    let refused = sym (cond-false (is_of_29 b) (Ok n) (Err (Byte i)) bad) ∙ e in
    absurd (let z : ◌≡◌ {A = ℕ} 0 1 = cc in omega arith))
    (cases_Bool (is_of_29 b))
from_last_slot true i n r s (b ∷ c ∷ u) h e k = absurd (omega arith)
from_last_slot false i n r s [] h e k = (cc, append-nil s)
from_last_slot false i n r s (b ∷ u) h e k = absurd (omega arith)

pub readings : (f : Form) (t : List ℕ) (n : ℕ) → reads f t ≡ Ok n → (n < total f.mask) × (t ≡ name_of f n)
readings f t n e =
    let p = f.prefix in
    let m = f.mask in
    let c = f.check in
    let whole = from_reads f t n e in
    let long = long_slots f in
    let long' : length (map position m ++ last_slot c) ≡ length m + length (last_slot c) = simp (length-append, length-map) in
    let one = from_prefix 0 0 n p (map position m ++ last_slot c) t (omega (arith, whole.0)) whole.1 in
    let size : length t ≡ length p + length one.0 = ap length one.1 ∙ length-append p one.0 in
    let two = from_mask (0 + length p) 0 n m (last_slot c) one.0 (omega (arith, whole.0)) one.2 in
    let k = two.0 in
    let u = two.1 in
    let size' : length one.0 ≡ length (digits m k) + length u = ap length two.3 ∙ length-append (digits m k) u in
    let text : t ≡ body f k ++ u = one.1 ∙ (ap (λ s. p ++ s) two.3 ∙ sym (append_assoc p (digits m k) u)) in
    let three = from_last_slot c (0 + length p + length m) (0 * total m + k) n (body f k) u (omega (arith, whole.0, length_digits m k)) two.4 (ap (closes c) (sym text) ∙ whole.2) in
    let same : k ≡ n = omega (arith, three.0) in
    let small : n < total m = subst (λ (x : ℕ). x < total m) same two.2 in
    (small, text ∙ (three.1 ∙ (ap (λ x. ended c (body f x)) same ∙ sym (named f n small))))

pub apart : (f : Form) (m n : ℕ) → m < total f.mask → n < total f.mask → name_of f m ≡ name_of f n → m ≡ n
apart f m n hm hn e =
    let one : reads f (name_of f n) ≡ Ok m = ap (reads f) (sym e) ∙ names f m hm in
    let two : reads f (name_of f n) ≡ Ok n = names f n hn in
    cc

last_slot_small : (check : Bool) → length (last_slot check) ≤ 1
last_slot_small true = omega arith
last_slot_small false = omega arith

pub short : (f : Form) → length f.prefix ≤ 19 → length f.mask ≤ 8 → (n : ℕ) → length (name_of f n) ≤ 28
short f few few' n =
    ⊎_elim
    (λ (h : n < total f.mask). omega (arith, ap length (named f n h), length_ended f.check (body f n), length_body f n, last_slot_small f.check))
    (λ (h : total f.mask ≤ n). omega (arith, ap length (nameless f n h)))
    (cases_lt n (total f.mask))

pub total_few : (m : List ℕ) → length m ≤ 8 → total m ≤ 29 ^ 8
total_few m h = let up : 29 ^ length m ≤ 29 ^ 8 = pow-le-pow_right {n = 29} (omega arith) h in omega (arith, total_small m)
