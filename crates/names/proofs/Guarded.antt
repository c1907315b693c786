-- A name with one byte changed, or with two unequal bytes exchanged, is refused where there is a check character.
use Rattle.std.proofs.Common.{◌≡◌, ℕ, zero, suc, ◌+◌, ◌-◌, ◌/◌, ◌%◌, ◌<◌, ◌≤◌, true, false, ◌≢◌, List, [], ◌∷◌, ◌++◌, length, get_or, set, is_ok, Ok, Err, Result, sym, refl, ap, ◌∙◌, subst, ⊎_elim, mod-lt, div-lt_iff_lt-mul, arith}
use Rattle.std.proofs.lemmas.List.{get_or_append_left, get_or-append_right, get_or_at, get_or-set_same, get_or-set_other, length-set, length_push, set-append_left, set_at, set_comm, same_from_push}
use Rattle.std.proofs.lemmas.Bool.{cases_lt, cases_order}
use Rattle.names.specs.Alphabet.{char_of, value_of}
use Rattle.names.specs.Check.{weighted, check_char}
use Rattle.names.specs.Forms.{Form, Good}
use Rattle.names.specs.Guard.{Undo, Guard}
use Rattle.names.specs.Naming.{total, digits, body, ended, name_of}
use Rattle.names.specs.Texts.{swapped}
use Rattle.names.specs.Validate.{reads}
use Rattle.names.specs.declared.fault.NameFault.{NameFault}
use Rattle.names.proofs.Numbers.{total_some}
use Rattle.names.proofs.Sums.{change_found, exchange_found, closing_found}
use Rattle.names.proofs.Undone.{value_back, position_takes, named, names, nameless, readings, apart, short, total_few, length_body}

-- each character of a number is the character of its value
digit_char : (ms : List ℕ) (n i : ℕ) → n < total ms → i < length ms → char_of (value_of (get_or (digits ms n) i 0)) ≡ get_or (digits ms n) i 0
digit_char [] n i h k = absurd (omega arith)
digit_char (m ∷ ms) n zero h k =
    let high = (div-lt_iff_lt-mul (total_some ms)).1 h in
    ap char_of (value_back (n / total ms) (position_takes m (n / total ms) high).0)
digit_char (m ∷ ms) n (suc i) h k = digit_char ms (n % total ms) i (mod-lt n (total_some ms)) (omega arith)

-- the bytes of a body: those of the prefix, then characters of the 29

in_prefix : (f : Form) (n i : ℕ) → i < length f.prefix → get_or (body f n) i 0 ≡ get_or f.prefix i 0
in_prefix f n i h = get_or_append_left f.prefix (digits f.mask n) 0 i h

in_digits : (f : Form) (n i : ℕ) → n < total f.mask → length f.prefix ≤ i → i < length (body f n) → char_of (value_of (get_or (body f n) i 0)) ≡ get_or (body f n) i 0
in_digits f n i h from to =
    let j = i - length f.prefix in
    let here : get_or (body f n) i 0 ≡ get_or (digits f.mask n) j 0 = get_or-append_right f.prefix (digits f.mask n) (length f.prefix) i 0 refl from in
    let in_mask : j < length f.mask = omega (arith, length_body f n) in
    ap (λ b. char_of (value_of b)) here ∙ (digit_char f.mask n j h in_mask ∙ sym here)

-- equal values of two such bytes are equal bytes
same_byte : (b c : ℕ) → char_of (value_of b) ≡ b → char_of (value_of c) ≡ c → value_of b ≡ value_of c → b ≡ c
same_byte b c hb hc e = sym hb ∙ (ap char_of e ∙ hc)

check_value : (t : List ℕ) → value_of (check_char t) ≡ weighted 1 t % 29
check_value t = value_back (weighted 1 t % 29) (mod-lt (weighted 1 t) (omega arith))

-- two texts with one check character have one sum modulo 29
same_sum : (s t : List ℕ) → check_char s ≡ check_char t → weighted 1 s % 29 ≡ weighted 1 t % 29
same_sum s t e = sym (check_value s) ∙ (ap value_of e ∙ check_value t)

-- a byte of a body, by a body that has another at its place
change_in_body : (f : Form) (n m i b : ℕ) → Good f → n < total f.mask → m < total f.mask → i < length (body f n) → set (body f n) i b ≡ body f m → check_char (body f n) ≡ check_char (body f m) → b ≡ get_or (body f n) i 0
change_in_body f n m i b good hn hm hi e k =
    let t = body f n in
    let here : b ≡ get_or (body f m) i 0 = sym (get_or-set_same t i b 0 hi) ∙ ap (λ s. get_or s i 0) e in
    let few : length t ≤ 27 = omega (arith, length_body f n, good.prefix_few, good.mask_few) in
    ⊎_elim
    (λ (h : i < length f.prefix). here ∙ (in_prefix f m i h ∙ sym (in_prefix f n i h)))
    (λ (h : length f.prefix ≤ i).
    let sums : weighted 1 (set t i b) % 29 ≡ weighted 1 t % 29 = ap (λ s. weighted 1 s % 29) e ∙ same_sum (body f m) t (sym k) in
    let b-char : char_of (value_of b) ≡ b = ap (λ x. char_of (value_of x)) here ∙ (in_digits f m i hm h (omega (arith, length_body f n, length_body f m)) ∙ sym here) in
    same_byte b (get_or t i 0) b-char (in_digits f n i hn h hi) (change_found t i b few hi sums))
    (cases_lt i (length f.prefix))

change_in_name : (f : Form) (n m i b : ℕ) → Good f → n < total f.mask → m < total f.mask → i < length (ended true (body f n)) → set (ended true (body f n)) i b ≡ ended true (body f m) → b ≡ get_or (ended true (body f n)) i 0
change_in_name f n m i b good hn hm hi e =
    let t = body f n in
    let c = check_char t in
    ⊎_elim
    (λ (h : i < length t).
    let parts = same_from_push (set t i b) (body f m) c (check_char (body f m)) (sym (set-append_left t (c ∷ []) i b h) ∙ e) in
    change_in_body f n m i b good hn hm h parts.0 parts.1 ∙ sym (get_or_append_left t (c ∷ []) 0 i h))
    (λ (h : length t ≤ i).
    let last : length t ≡ i = omega (arith, length_push t c) in
    let parts = same_from_push t (body f m) b (check_char (body f m)) (sym (set_at t c [] b i last) ∙ e) in
    parts.1 ∙ (ap check_char (sym parts.0) ∙ sym (get_or_at t c [] 0 i last)))
    (cases_lt i (length t))

-- the bytes of a name at two places of the body, exchanged
swap_in_body : (f : Form) (n m i j : ℕ) → Good f → n < total f.mask → m < total f.mask → length f.prefix ≤ i → i < j → j < length (body f n)
    → swapped (body f n) i j ≡ body f m → check_char (body f n) ≡ check_char (body f m) → get_or (body f n) i 0 ≡ get_or (body f n) j 0
swap_in_body f n m i j good hn hm from lt hj e k =
    let t = body f n in
    let few : length t ≤ 27 = omega (arith, length_body f n, good.prefix_few, good.mask_few) in
    let sums : weighted 1 (swapped t i j) % 29 ≡ weighted 1 t % 29 = ap (λ s. weighted 1 s % 29) e ∙ same_sum (body f m) t (sym k) in
    same_byte (get_or t i 0) (get_or t j 0) (in_digits f n i hn from (omega arith)) (in_digits f n j hn (omega arith) hj) (exchange_found t i j few lt hj sums)

-- the check character exchanged with a byte of the body
swap_closing : (f : Form) (n m i : ℕ) → Good f → n < total f.mask → length f.prefix ≤ i → i < length (body f n)
    → set (body f n) i (check_char (body f n)) ≡ body f m → get_or (body f n) i 0 ≡ check_char (body f m) → get_or (body f n) i 0 ≡ check_char (body f n)
swap_closing f n m i good hn from hi e k =
    let t = body f n in
    let c = check_char t in
    let x = get_or t i 0 in
    let few : length t ≤ 27 = omega (arith, length_body f n, good.prefix_few, good.mask_few) in
    let sums : weighted 1 (set t i c) % 29 ≡ value_of x = ap (λ s. weighted 1 s % 29) e ∙ (sym (check_value (body f m)) ∙ ap value_of (sym k)) in
    same_byte x c (in_digits f n i hn from hi) (ap char_of (check_value t)) (closing_found t i c few hi (check_value t) sums)

swap_in_name : (f : Form) (n m i j : ℕ) → Good f → n < total f.mask → m < total f.mask → i < j → j < length (ended true (body f n)) → swapped (ended true (body f n)) i j ≡ ended true (body f m)
    → get_or (ended true (body f n)) i 0 ≡ get_or (ended true (body f n)) j 0
swap_in_name f n m i j good hn hm lt hj e =
    let t = body f n in
    let c = check_char t in
    let name = t ++ c ∷ [] in
    let long : length name ≡ length t + 1 = length_push t c in
    let long' : length (body f m) ≡ length t = length_body f m ∙ sym (length_body f n) in
    let hi : i < length t = omega arith in
    let x-is : get_or name i 0 ≡ get_or t i 0 = get_or_append_left t (c ∷ []) 0 i hi in
    let ne : i ≢ j = λ (q : i ≡ j). omega arith in
    ⊎_elim
    (λ (h : i < length f.prefix).
    let moved : get_or (swapped name i j) i 0 ≡ get_or name j 0 = get_or-set_other (set name i (get_or name j 0)) j i (get_or name i 0) 0 ne ∙ get_or-set_same name i (get_or name j 0) 0 (omega arith) in
    let other : get_or (ended true (body f m)) i 0 ≡ get_or f.prefix i 0 = get_or_append_left (body f m) (check_char (body f m) ∷ []) 0 i (omega arith) ∙ in_prefix f m i h in
    x-is ∙ (in_prefix f n i h ∙ (sym other ∙ (ap (λ s. get_or s i 0) (sym e) ∙ moved))))
    (λ (h : length f.prefix ≤ i). ⊎_elim
    (λ (k : j < length t).
    let y-is : get_or name j 0 ≡ get_or t j 0 = get_or_append_left t (c ∷ []) 0 j k in
    let long'' : length (set t i (get_or t j 0)) ≡ length t = length-set t i (get_or t j 0) in
    let text : swapped name i j ≡ swapped t i j ++ c ∷ [] =
    ap (λ y. set (set name i y) j (get_or name i 0)) y-is
    ∙ (ap (λ x. set (set name i (get_or t j 0)) j x) x-is
    ∙ (ap (λ s. set s j (get_or t i 0)) (set-append_left t (c ∷ []) i (get_or t j 0) hi) ∙ set-append_left (set t i (get_or t j 0)) (c ∷ []) j (get_or t i 0) (omega arith))) in
    let parts = same_from_push (swapped t i j) (body f m) c (check_char (body f m)) (sym text ∙ e) in
    x-is ∙ (swap_in_body f n m i j good hn hm h lt k parts.0 parts.1 ∙ sym y-is))
    (λ (k : length t ≤ j).
    let last : length t ≡ j = omega arith in
    let y-is : get_or name j 0 ≡ c = get_or_at t c [] 0 j last in
    let text : swapped name i j ≡ set t i c ++ get_or t i 0 ∷ [] =
    ap (λ y. set (set name i y) j (get_or name i 0)) y-is
    ∙ (ap (λ x. set (set name i c) j x) x-is
    ∙ (ap (λ s. set s j (get_or t i 0)) (set-append_left t (c ∷ []) i c hi) ∙ set_at (set t i c) c [] (get_or t i 0) j (length-set t i c ∙ last))) in
    let parts = same_from_push (set t i c) (body f m) (get_or t i 0) (check_char (body f m)) (sym text ∙ e) in
    x-is ∙ (swap_closing f n m i good hn h hi parts.0 parts.1 ∙ sym y-is))
    (cases_lt j (length t)))
    (cases_lt i (length f.prefix))

swap_any : (f : Form) (n m i j : ℕ) → Good f → n < total f.mask → m < total f.mask → i < length (ended true (body f n)) → j < length (ended true (body f n)) → swapped (ended true (body f n)) i j ≡ ended true (body f m)
    → get_or (ended true (body f n)) i 0 ≡ get_or (ended true (body f n)) j 0
swap_any f n m i j good hn hm hi hj e =
    let name = ended true (body f n) in
    ⊎_elim
    (λ (h : i ≡ j). ap (λ k. get_or name k 0) h)
    (⊎_elim
    (λ (h : i < j). swap_in_name f n m i j good hn hm h hj e)
    (λ (h : j < i).
    let ne : j ≢ i = λ (q : j ≡ i). omega arith in
    sym (swap_in_name f n m j i good hn hm h hi (set_comm name j i (get_or name i 0) (get_or name j 0) ne ∙ e))))
    (cases_order i j)

-- a reading of another text is none

refused : (r : Result ℕ NameFault) → ((n : ℕ) → r ≡ Ok n → ⊥) → is_ok r ≡ false
refused (Ok n) h = absurd (h n refl)
refused (Err x) h = refl

whole : (f : Form) (n : ℕ) → f.check ≡ true → n < total f.mask → name_of f n ≡ ended true (body f n)
whole f n c h = named f n h ∙ ap (λ b. ended b (body f n)) c

pub guard : (f : Form) → Good f → Guard f
guard f good = record {
  changes = λ c n i b hn hi ne. refused (reads f (set (name_of f n) i b)) (λ m e.
      let r = readings f (set (name_of f n) i b) m e in
      let t = whole f n c hn in
      let text : set (ended true (body f n)) i b ≡ ended true (body f m) = ap (λ s. set s i b) (sym t) ∙ (r.1 ∙ whole f m c r.0) in
      ne (change_in_name f n m i b good hn r.0 (subst (λ (s : List ℕ). i < length s) t hi) text ∙ ap (λ s. get_or s i 0) (sym t)));
  exchanges = λ c n i j hn hi hj ne. refused (reads f (swapped (name_of f n) i j)) (λ m e.
      let r = readings f (swapped (name_of f n) i j) m e in
      let t = whole f n c hn in
      let name = ended true (body f n) in
      let text : swapped name i j ≡ ended true (body f m) = ap (λ s. swapped s i j) (sym t) ∙ (r.1 ∙ whole f m c r.0) in
      let equal : get_or name i 0 ≡ get_or name j 0 =
      swap_any f n m i j good hn r.0 (subst (λ (s : List ℕ). i < length s) t hi) (subst (λ (s : List ℕ). j < length s) t hj) text in
      ne (ap (λ s. get_or s i 0) t ∙ (equal ∙ ap (λ s. get_or s j 0) (sym t))));
}

pub undo : (f : Form) → Good f → Undo f
undo f good = record {
  small = omega (arith, total_few f.mask good.mask_few);
  names = names f;
  nameless = nameless f;
  short = short f good.prefix_few good.mask_few;
  readings = readings f;
  apart = apart f;
}
