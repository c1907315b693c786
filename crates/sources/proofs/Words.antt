-- The set bits of a word, and the lowest of them. Assumes nothing.
use Rattle.std.proofs.Common.{◌≡◌, ℕ, zero, suc, ◌+◌, ◌-◌, ◌*◌, ◌/◌, ◌%◌, ◌^◌, ◌<◌, ◌≤◌, min, true, false, cond, eqb, ◌⊎◌, List, [], ◌∷◌, ◌++◌, length, get_or, drop, set, sum_by, sym, refl, ap, ◌∙◌, subst, ap₂, inl, inr, ⊎_elim, add-zero, mod-eq_of_lt, pow-suc, zero-add, arith, length-drop}
use lib.Bits.{bit_and, and_step, and_self, and_mask}
use lib.Count.{ones, ones_step, count_trailing_zeros, under}
use Rattle.std.proofs.lemmas.List.{drop_more, length-append, append-nil}
use Rattle.std.proofs.lemmas.List.Recursion.{is_sum_by}
use Rattle.std.proofs.lemmas.Bool.{cases_eq, cases_lt, ne_eqb, eq-eqb, cond-true, cond-false}
use Rattle.std.proofs.lemmas.Nat.{pow_pos, pow_below}
use Rattle.sources.specs.Maps.{bits_from, live_in, run, lacks}

digit : (n : ℕ) → (n % 2 ≡ 0) ⊎ (n % 2 ≡ 1)
digit n = ⊎_elim inl (λ (ne : n % 2 ≡ 0 → ⊥). inr (omega arith)) (cases_eq (n % 2) 0)

bits_even : (k b n : ℕ) → n % 2 ≡ 0 → bits_from (suc k) b n ≡ bits_from k (b + 1) (n / 2)
unfolding bits_from
bits_even k b n e = rw e

bits_odd : (k b n : ℕ) → n % 2 ≡ 1 → bits_from (suc k) b n ≡ b ∷ bits_from k (b + 1) (n / 2)
unfolding bits_from
bits_odd k b n e = rw e

halved : (k n : ℕ) → n < 2 ^ suc k → n / 2 < 2 ^ k
halved k n h = omega (arith, pow-suc 2 k)

none : ones 0 ≡ 0
unfolding ones
none = refl

pub count : (k b n : ℕ) → n < 2 ^ k → length (bits_from k b n) ≡ ones n
unfolding bits_from
count zero b n h = let z : n ≡ 0 = omega arith in let o : ones n ≡ 0 = ap ones z ∙ none in sym o
count (suc k) b n h =
    let ih = count k (b + 1) (n / 2) (halved k n h) in
    ⊎_elim
    (λ (e : n % 2 ≡ 0). ap length (bits_even k b n e) ∙ ih ∙ sym (ones_step n ∙ omega arith))
    (λ (e : n % 2 ≡ 1). ap length (bits_odd k b n e) ∙ ap suc ih ∙ sym (ones_step n ∙ omega arith))
    (digit n)

-- what is left of n without its lowest set digit
pub lowest : (k b n : ℕ) → 0 < n → n < 2 ^ k → bits_from k b n ≡ (b + count_trailing_zeros k n) ∷ bits_from k b (bit_and n (n - 1))
unfolding count_trailing_zeros
lowest zero b n p h = absurd (omega arith)
lowest (suc k) b n p h =
    ⊎_elim
    (λ (e : n % 2 ≡ 0).
    let q : 0 < n / 2 = omega arith in
    let ih = lowest k (b + 1) (n / 2) q (halved k n h) in
    let h1 : (n - 1) / 2 ≡ n / 2 - 1 = omega arith in
    let h2 : (n - 1) % 2 ≡ 1 = omega arith in
    let a : bit_and n (n - 1) ≡ bit_and (n / 2) (n / 2 - 1) * 2 + 0 = and_step n (n - 1) ∙ ap₂ (λ (x y : ℕ). bit_and (n / 2) x * 2 + y) h1 (ap₂ min e h2) in
    let a0 : bit_and n (n - 1) % 2 ≡ 0 = omega arith in
    let a1 : bit_and n (n - 1) / 2 ≡ bit_and (n / 2) (n / 2 - 1) = omega arith in
    let t : b + under (n % 2) (count_trailing_zeros k (n / 2)) ≡ b + 1 + count_trailing_zeros k (n / 2) = ap (λ (d : ℕ). b + under d (count_trailing_zeros k (n / 2))) e ∙ omega arith in
    let r : bits_from (suc k) b (bit_and n (n - 1)) ≡ bits_from k (b + 1) (bit_and (n / 2) (n / 2 - 1)) = bits_even k b (bit_and n (n - 1)) a0 ∙ ap (bits_from k (b + 1)) a1 in
    bits_even k b n e ∙ ih ∙ sym (ap₂ (λ (x : ℕ) (xs : List ℕ). x ∷ xs) t r))
    (λ (e : n % 2 ≡ 1).
    let h1 : (n - 1) / 2 ≡ n / 2 = omega arith in
    let h2 : (n - 1) % 2 ≡ 0 = omega arith in
    let a : bit_and n (n - 1) ≡ n / 2 * 2 + 0 = and_step n (n - 1) ∙ ap₂ (λ (x y : ℕ). bit_and (n / 2) x * 2 + y) h1 (ap₂ min e h2) ∙ ap (λ (x : ℕ). x * 2 + 0) (and_self (n / 2)) in
    let a0 : bit_and n (n - 1) % 2 ≡ 0 = omega arith in
    let a1 : bit_and n (n - 1) / 2 ≡ n / 2 = omega arith in
    let t : b + under (n % 2) (count_trailing_zeros k (n / 2)) ≡ b = ap (λ (d : ℕ). b + under d (count_trailing_zeros k (n / 2))) e ∙ add-zero b in
    let r : bits_from (suc k) b (bit_and n (n - 1)) ≡ bits_from k (b + 1) (n / 2) = bits_even k b (bit_and n (n - 1)) a0 ∙ ap (bits_from k (b + 1)) a1 in
    bits_odd k b n e ∙ sym (ap₂ (λ (x : ℕ) (xs : List ℕ). x ∷ xs) t r))
    (digit n)

pub some_left : (k b n : ℕ) → 0 < length (bits_from k b n) → 0 < n
unfolding bits_from
some_left k b zero h = let e : length (bits_from k b 0) ≡ 0 = empty k b in absurd (omega arith)
  where
    empty : (k b : ℕ) → length (bits_from k b 0) ≡ 0
    empty zero b = refl
    empty (suc k) b = empty k (b + 1)
some_left k b (suc n) h = omega arith

-- one set bit cleared
pub cleared : (b n : ℕ) (i : ℕ) (all : List ℕ) → n < 2 ^ 64 → i < length all → drop i all ≡ bits_from 64 b n → (0 < n) × (drop (i + 1) all ≡ bits_from 64 b (bit_and n (n - 1))) × (get_or all i 0 ≡ b + count_trailing_zeros 64 n)
cleared b n i all f h e =
    let d : drop i all ≡ get_or all i 0 ∷ drop (i + 1) all = drop_more all i 0 h in
    let l : 0 < length (bits_from 64 b n) = subst (λ (xs : List ℕ). 0 < length xs) e (rw (length-drop i all) (omega arith)) in
    let p : 0 < n = some_left 64 b n l in
    let two : get_or all i 0 ∷ drop (i + 1) all ≡ (b + count_trailing_zeros 64 n) ∷ bits_from 64 b (bit_and n (n - 1)) = sym d ∙ e ∙ lowest 64 b n p f in
    (p, cc, cc)

-- where a word's bits are counted from changes no count
long_same : (k b d n : ℕ) → length (bits_from k b n) ≡ length (bits_from k d n)
unfolding bits_from
long_same zero b d n = refl
long_same (suc k) b d n =
    let ih = long_same k (b + 1) (d + 1) (n / 2) in
    elim (eqb (n % 2) 1) as (λ v. length (cond v (b ∷ bits_from k (b + 1) (n / 2)) (bits_from k (b + 1) (n / 2))) ≡ length (cond v (d ∷ bits_from k (d + 1) (n / 2)) (bits_from k (d + 1) (n / 2)))) [ true ↦ ap suc ih | false ↦ ih ]

-- the words' ones summed
pub live_sum : (b : ℕ) (ws : List ℕ) → length (live_in b ws) ≡ sum_by (λ w. length (bits_from 64 0 w)) ws
live_sum b ws = same b ws ∙ is_sum_by ones_in (λ w. length (bits_from 64 0 w)) refl (λ _ _. refl) ws
  where
    ones_in : List ℕ → ℕ
    ones_in [] = 0
    ones_in (w ∷ ws) = length (bits_from 64 0 w) + ones_in ws

    same : (b : ℕ) (ws : List ℕ) → length (live_in b ws) ≡ ones_in ws
    same b [] = refl
    same b (w ∷ ws) = length-append (bits_from 64 b w) (live_in (b + 64) ws) ∙ ap₂ (λ (m n : ℕ). m + n) (long_same 64 b 0 w) (same (b + 64) ws)

-- ---- a bit cleared

lacks_append : (x : ℕ) (xs ys : List ℕ) → lacks x (xs ++ ys) ≡ lacks x xs ++ lacks x ys
lacks_append x [] ys = refl
lacks_append x (y ∷ xs) ys =
    let ih = lacks_append x xs ys in
    elim (eqb x y) as (λ v. cond v (lacks x (xs ++ ys)) (y ∷ lacks x (xs ++ ys)) ≡ cond v (lacks x xs) (y ∷ lacks x xs) ++ lacks x ys) [ true ↦ ih | false ↦ ap (λ (l : List ℕ). y ∷ l) ih ]

-- a word has no bit at a place outside of its own
lacks_outside : (k b n x : ℕ) → (x < b) ⊎ (b + k ≤ x) → lacks x (bits_from k b n) ≡ bits_from k b n
unfolding bits_from
lacks_outside zero b n x h = refl
lacks_outside (suc k) b n x h =
    let ih = lacks_outside k (b + 1) (n / 2) x (⊎_elim (λ (l : x < b). inl (omega arith)) (λ (l : b + suc k ≤ x). inr (omega arith)) h) in
    let f : eqb x b ≡ false = ne_eqb x b (⊎_elim (λ (l : x < b) (e : x ≡ b). omega arith) (λ (l : b + suc k ≤ x) (e : x ≡ b). omega arith) h) in
    ⊎_elim
    (λ (e : n % 2 ≡ 0). ap (lacks x) (bits_even k b n e) ∙ ih ∙ sym (bits_even k b n e))
    (λ (e : n % 2 ≡ 1). ap (lacks x) (bits_odd k b n e) ∙ cond-false _ _ _ f ∙ ap (λ (xs : List ℕ). b ∷ xs) ih ∙ sym (bits_odd k b n e))
    (digit n)

pub cleared_bit : (k b n j : ℕ) → n < 2 ^ k → j < k → bits_from k b (bit_and n (2 ^ k - 1 - 2 ^ j)) ≡ lacks (b + j) (bits_from k b n)
cleared_bit zero b n j f l = absurd (omega arith)
cleared_bit (suc k) b n zero f l =
    let p = pow-suc 2 k in
    let q = pow_pos k in
    let h : n / 2 < 2 ^ k = halved k n f in
    let m1 : (2 ^ suc k - 1 - 1) / 2 ≡ 2 ^ k - 1 = omega arith in
    let m2 : (2 ^ suc k - 1 - 1) % 2 ≡ 0 = omega arith in
    let r : n / 2 % 2 ^ k ≡ n / 2 = mod-eq_of_lt h in
    let a : bit_and n (2 ^ suc k - 1 - 1) ≡ n / 2 * 2 + min (n % 2) 0 = and_step n (2 ^ suc k - 1 - 1) ∙ ap₂ (λ (x y : ℕ). bit_and (n / 2) x * 2 + min (n % 2) y) m1 m2 ∙ ap (λ (x : ℕ). x * 2 + min (n % 2) 0) (and_mask (n / 2) k ∙ r) in
    let a0 : bit_and n (2 ^ suc k - 1 - 1) % 2 ≡ 0 = omega arith in
    let a1 : bit_and n (2 ^ suc k - 1 - 1) / 2 ≡ n / 2 = omega arith in
    let z : b + 0 ≡ b = add-zero b in
    let low : lacks b (bits_from k (b + 1) (n / 2)) ≡ bits_from k (b + 1) (n / 2) = lacks_outside k (b + 1) (n / 2) b (inl (omega arith)) in
    let same : bits_from (suc k) b (bit_and n (2 ^ suc k - 1 - 1)) ≡ bits_from k (b + 1) (n / 2) = bits_even k b (bit_and n (2 ^ suc k - 1 - 1)) a0 ∙ ap (bits_from k (b + 1)) a1 in
    same ∙ sym (ap (λ (x : ℕ). lacks x (bits_from (suc k) b n)) z ∙ ⊎_elim
    (λ (o : n % 2 ≡ 0). ap (lacks b) (bits_even k b n o) ∙ low)
    (λ (o : n % 2 ≡ 1). ap (lacks b) (bits_odd k b n o) ∙ cond-true _ _ _ (eq-eqb b b refl) ∙ low)
    (digit n))
cleared_bit (suc k) b n (suc j) f l =
    let p = pow-suc 2 k in
    let p2 = pow-suc 2 j in
    let q = pow_pos k in
    let q2 = pow_pos j in
    let lt : 2 ^ j < 2 ^ k = pow_below j k (omega arith) in
    let m1 : (2 ^ suc k - 1 - 2 ^ suc j) / 2 ≡ 2 ^ k - 1 - 2 ^ j = omega arith in
    let m2 : (2 ^ suc k - 1 - 2 ^ suc j) % 2 ≡ 1 = omega arith in
    let a : bit_and n (2 ^ suc k - 1 - 2 ^ suc j) ≡ bit_and (n / 2) (2 ^ k - 1 - 2 ^ j) * 2 + min (n % 2) 1 = and_step n (2 ^ suc k - 1 - 2 ^ suc j) ∙ ap₂ (λ (x y : ℕ). bit_and (n / 2) x * 2 + min (n % 2) y) m1 m2 in
    let a0 : bit_and n (2 ^ suc k - 1 - 2 ^ suc j) % 2 ≡ n % 2 = omega arith in
    let a1 : bit_and n (2 ^ suc k - 1 - 2 ^ suc j) / 2 ≡ bit_and (n / 2) (2 ^ k - 1 - 2 ^ j) = omega arith in
    let z : b + 1 + j ≡ b + suc j = omega arith in
    let ih = cleared_bit k (b + 1) (n / 2) j (halved k n f) (omega arith) in
    let step : bits_from k (b + 1) (bit_and n (2 ^ suc k - 1 - 2 ^ suc j) / 2) ≡ lacks (b + suc j) (bits_from k (b + 1) (n / 2)) = ap (bits_from k (b + 1)) a1 ∙ ih ∙ ap (λ (x : ℕ). lacks x (bits_from k (b + 1) (n / 2))) z in
    ⊎_elim
    (λ (o : n % 2 ≡ 0). bits_even k b (bit_and n (2 ^ suc k - 1 - 2 ^ suc j)) (a0 ∙ o) ∙ step ∙ sym (ap (lacks (b + suc j)) (bits_even k b n o)))
    (λ (o : n % 2 ≡ 1).
    let g : eqb (b + suc j) b ≡ false = ne_eqb (b + suc j) b (omega arith) in
    bits_odd k b (bit_and n (2 ^ suc k - 1 - 2 ^ suc j)) (a0 ∙ o) ∙ ap (λ (xs : List ℕ). b ∷ xs) step ∙ sym (ap (lacks (b + suc j)) (bits_odd k b n o) ∙ cond-false _ _ _ g))
    (digit n)

lacks_before : (b x : ℕ) (ws : List ℕ) → x < b → lacks x (live_in b ws) ≡ live_in b ws
lacks_before b x [] h = refl
lacks_before b x (w ∷ ws) h = lacks_append x (bits_from 64 b w) (live_in (b + 64) ws) ∙ ap₂ (λ (xs ys : List ℕ). xs ++ ys) (lacks_outside 64 b w x (inl h)) (lacks_before (b + 64) x ws (omega arith))

-- one word written anew, without the bit at place x
pub live_set : (b i j w : ℕ) (ws : List ℕ) → i < length ws → j < 64 → ((d : ℕ) → bits_from 64 d w ≡ lacks (d + j) (bits_from 64 d (get_or ws i 0))) → live_in b (set ws i w) ≡ lacks (b + (64 * i + j)) (live_in b ws)
live_set b i j w [] l h e = absurd (omega arith)
live_set b zero j w (v ∷ ws) l h e =
    let z : b + (64 * 0 + j) ≡ b + j = omega arith in
    rw z (sym (lacks_append (b + j) (bits_from 64 b v) (live_in (b + 64) ws) ∙ ap₂ (λ (xs ys : List ℕ). xs ++ ys) (sym (e b)) (lacks_before (b + 64) (b + j) ws (omega arith))))
live_set b (suc i) j w (v ∷ ws) l h e =
    let z : b + 64 + (64 * i + j) ≡ b + (64 * suc i + j) = omega arith in
    let ih : live_in (b + 64) (set ws i w) ≡ lacks (b + (64 * suc i + j)) (live_in (b + 64) ws) = live_set (b + 64) i j w ws (omega arith) h e ∙ ap (λ (x : ℕ). lacks x (live_in (b + 64) ws)) z in
    sym (lacks_append (b + (64 * suc i + j)) (bits_from 64 b v) (live_in (b + 64) ws) ∙ ap₂ (λ (xs ys : List ℕ). xs ++ ys) (lacks_outside 64 b v (b + (64 * suc i + j)) (inr (omega arith))) (sym ih))

-- ---- the map of a new generator

bits_none : (k b : ℕ) → bits_from k b 0 ≡ []
unfolding bits_from
bits_none zero b = refl
bits_none (suc k) b = bits_none k (b + 1)

pub bits_lowest : (k b j : ℕ) → j ≤ k → bits_from k b (2 ^ j - 1) ≡ run b j
unfolding run
bits_lowest k b zero h = bits_none k b
bits_lowest zero b (suc j) h = absurd (omega arith)
bits_lowest (suc k) b (suc j) h =
    let p = pow-suc 2 j in
    let q = pow_pos j in
    let o : (2 ^ suc j - 1) % 2 ≡ 1 = omega arith in
    let d : (2 ^ suc j - 1) / 2 ≡ 2 ^ j - 1 = omega arith in
    bits_odd k b (2 ^ suc j - 1) o ∙ ap (λ (x : ℕ). b ∷ bits_from k (b + 1) x) d ∙ ap (λ (l : List ℕ). b ∷ l) (bits_lowest k (b + 1) j (omega arith))

run_append : (b m n : ℕ) → run b m ++ run (b + m) n ≡ run b (m + n)
unfolding run
run_append b zero n = ap₂ run (add-zero b) (sym (zero-add n))
run_append b (suc m) n =
    let e : b + suc m ≡ b + 1 + m = omega arith in
    let e2 : suc m + n ≡ suc (m + n) = omega arith in
    rw (e, e2) (ap (λ (l : List ℕ). b ∷ l) (run_append (b + 1) m n))

-- a word of the lowest bits, and the words after it
pub filled : (b n m w : ℕ) (rest : List ℕ) → ((d : ℕ) → bits_from 64 d w ≡ run d (min n 64)) → rest ≡ run (b + 64) m → m ≡ n - 64 → bits_from 64 b w ++ rest ≡ run b n
unfolding run
filled b n m w rest h e d =
    ap₂ (λ (xs ys : List ℕ). xs ++ ys) (h b) e ∙ ⊎_elim
    (λ (l : n < 64).
    let z : m ≡ 0 = omega arith in
    let k : min n 64 ≡ n = omega arith in
    rw (z, k) (append-nil (run b n)))
    (λ (l : 64 ≤ n).
    let k : min n 64 ≡ 64 = omega arith in
    let s : 64 + m ≡ n = omega arith in
    rw k (run_append b 64 m ∙ ap (run b) s))
    (cases_lt n 64)

-- words of the lowest bits, each as many as are left for it
pub all_filled : (b n : ℕ) (ws : List ℕ) → n ≤ 64 * length ws → ((i d : ℕ) → i < length ws → bits_from 64 d (get_or ws i 0) ≡ run d (min (n - 64 * i) 64)) → live_in b ws ≡ run b n
unfolding run
all_filled b n [] l h = let z : n ≡ 0 = omega arith in rw z refl
all_filled b n (w ∷ ws) l h =
    let first : (d : ℕ) → bits_from 64 d w ≡ run d (min n 64) = λ d. let e : n - 64 * 0 ≡ n = omega arith in rw e at (h 0 d (omega arith)) in
    let later : (i d : ℕ) → i < length ws → bits_from 64 d (get_or ws i 0) ≡ run d (min (n - 64 - 64 * i) 64) = λ i d k.
    let e : n - 64 * suc i ≡ n - 64 - 64 * i = omega arith in rw e at (h (suc i) d (omega arith)) in
    filled b n (n - 64) w (live_in (b + 64) ws) first (all_filled (b + 64) (n - 64) ws (omega arith) later) refl
