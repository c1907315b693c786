-- The law is met by a real source, and refuses the histories of wrong registers, each by a short one (latest event first).
use Rattle.std.proofs.Common.{◌≡◌, ℕ, zero, suc, ◌+◌, ◌-◌, ◌<◌, ◌≤◌, Bool, true, false, cond, ◌&&◌, eqb, ltb, leb, List, [], ◌∷◌, length, get_or, set, is_ok, Ok, sym, refl, ap, ◌∙◌, subst, arith, lit≤}
use Rattle.std.proofs.lemmas.Bool.{true≢false, cond-true, cond-false, lt-ltb, le-ltb}
use Rattle.std.proofs.lemmas.Bool.Decides.{nat_tests}
use Rattle.names.specs.Texts.{swapped}
use Rattle.sources.specs.Lists.{has}
use Rattle.sources.specs.Stock.{Stock, Lawful, is_ahead, is_foreign}
use Rattle.sources.specs.declared.source.Stand.TheVariants.{Ahead, Foreign}
use Rattle.stores.specs.declared.text.Element.TheVariants.{Who}
use Rattle.machine.specs.Machine.{fresh}
use Rattle.machine.specs.History.{minted, mint_refused, held, queued, bound}
use Rattle.machine.specs.Law.{Law, new}
use Rattle.machine.specs.Runs.{past}
use Rattle.machine.specs.Calls.{Asked}
use Rattle.machine.proofs.Examples.{four, twin, number_if, read_twin}
use Rattle.machine.proofs.Runs.{from_new}

-- ---- the source of four numbers obeys the laws of sources

twin_is : (n : ℕ) → n < 4 → twin n ≡ (48 + n) ∷ (48 + n) ∷ []
twin_is n h = cond-true (ltb n 4) _ [] (lt-ltb n 4 h)

-- two bytes are read by what they are
abbrev two : ℕ → ℕ → Bool
two a b = leb 48 a && (ltb a 52 && eqb a b)

read_true : (x : Bool) (n m : ℕ) → x ≡ true → n ≡ m → number_if x n ≡ Ok m
read_true true n m e f = ap (λ (k : ℕ). Ok k) f
read_true false n m e f = let z : ◌≡◌ {A = ℕ} 0 1 = cc in absurd (omega arith)

read_false : (x : Bool) (n : ℕ) → x ≡ false → is_ok (number_if x n) ≡ false
read_false true n e = e
read_false false n e = refl

read_two : (a b n : ℕ) → number_if (two a b) (a - 48) ≡ Ok n → (two a b ≡ true) × (a - 48 ≡ n)
read_two a b n = at (two a b)
  where
    at : (x : Bool) → number_if x (a - 48) ≡ Ok n → (x ≡ true) × (a - 48 ≡ n)
    at true e = (refl, cc)
    at false e = let z : ◌≡◌ {A = ℕ} 0 1 = cc in absurd (omega arith)

four_readings : (t : List ℕ) (n : ℕ) → read_twin t ≡ Ok n → (n < 4) × (t ≡ twin n)
four_readings [] n e = let z : ◌≡◌ {A = ℕ} 0 1 = cc in absurd (omega arith)
four_readings (a ∷ []) n e = let z : ◌≡◌ {A = ℕ} 0 1 = cc in absurd (omega arith)
four_readings (a ∷ (b ∷ [])) n e =
    let r = read_two a b n e in
    let p = r.0 in
    let q = r.1 in
    let l : n < 4 = grind (arith, nat_tests) in
    let x : a ≡ 48 + n = grind (arith, nat_tests) in
    let y : b ≡ 48 + n = grind (arith, nat_tests) in
    (l, (let w = twin_is n l in cc))
four_readings (a ∷ (b ∷ (c ∷ ds))) n e = let z : ◌≡◌ {A = ℕ} 0 1 = cc in absurd (omega arith)

four_changes : (n i b : ℕ) → n < 4 → i < length (twin n) → (b ≡ get_or (twin n) i 0 → ⊥) → is_ok (read_twin (set (twin n) i b)) ≡ false
four_changes n i b h = subst (λ (t : List ℕ). i < length t → (b ≡ get_or t i 0 → ⊥) → is_ok (read_twin (set t i b)) ≡ false) (sym (twin_is n h)) (at i)
  where
    at : (i : ℕ) → i < 2 → (b ≡ get_or ((48 + n) ∷ (48 + n) ∷ []) i 0 → ⊥) → is_ok (read_twin (set ((48 + n) ∷ (48 + n) ∷ []) i b)) ≡ false
    at zero l d = read_false (two b (48 + n)) (b - 48) (grind (arith, nat_tests))
    at (suc zero) l d = read_false (two (48 + n) b) (48 + n - 48) (grind (arith, nat_tests))
    at (suc (suc i)) l d = absurd (omega arith)

four_exchanges : (n i j : ℕ) → n < 4 → i < length (twin n) → j < length (twin n) → (get_or (twin n) i 0 ≡ get_or (twin n) j 0 → ⊥) → is_ok (read_twin (swapped (twin n) i j)) ≡ false
four_exchanges n i j h = subst (λ (t : List ℕ). i < length t → j < length t → (get_or t i 0 ≡ get_or t j 0 → ⊥) → is_ok (read_twin (swapped t i j)) ≡ false) (sym (twin_is n h)) (λ a b d. absurd (d (at i a ∙ sym (at j b))))
  where
    at : (i : ℕ) → i < 2 → get_or ((48 + n) ∷ (48 + n) ∷ []) i 0 ≡ 48 + n
    at zero l = refl
    at (suc zero) l = refl
    at (suc (suc i)) l = absurd (omega arith)

pub four_lawful : Lawful four
four_lawful = record {
  once = λ n. grind (arith, nat_tests);
  listed = λ n. at n (ltb n 4) refl;
  within = λ n h. inside n (ltb n 4) refl h;
  small = lit≤ tt;
  names = λ n h. let e = twin_is n h in ap read_twin e ∙ read_true (two (48 + n) (48 + n)) (48 + n - 48) n (grind (arith, nat_tests)) (omega arith);
  nameless = λ n h. cond-false (ltb n 4) _ [] (le-ltb n 4 h);
  short = λ n. short n (ltb n 4);
  readings = four_readings;
  changes = λ k. four_changes;
  exchanges = λ k. four_exchanges;
}
  where
    at : (n : ℕ) (b : Bool) → ltb n 4 ≡ b → is_ahead (cond b Ahead Foreign) ≡ has n (0 ∷ 1 ∷ 2 ∷ 3 ∷ [])
    at n true e = grind (arith, nat_tests)
    at n false e = grind (arith, nat_tests)

    inside : (n : ℕ) (b : Bool) → ltb n 4 ≡ b → is_foreign (cond b Ahead Foreign) ≡ false → n < 4
    inside n true e h = grind (arith, nat_tests)
    inside n false e h = let z : ◌≡◌ {A = ℕ} 0 1 = cc in absurd (omega arith)

    short : (n : ℕ) (b : Bool) → length (cond b ((48 + n) ∷ (48 + n) ∷ []) []) ≤ 28
    short n true = lit≤ tt
    short n false = lit≤ tt

-- so every run over it has the law
four_law : (calls : List Asked) → Law four (new four) (past (fresh four 1) calls)
four_law calls = from_new four 1 calls four_lawful

-- ---- wrong registers

-- one that refuses all
refuses_all : Law four (new four) (mint_refused ∷ []) → ⊥
refuses_all l = true≢false (sym (l.refused_only_if_stopped [] ([], refl) (twin 0) refl))

-- a mint that answers 'stopped' before it looked: one name is on hold, the others are free
stopped_too_soon : Law four (new four) (mint_refused ∷ held (twin 0) ∷ []) → ⊥
stopped_too_soon l = true≢false (sym (l.refused_only_if_stopped (held (twin 0) ∷ []) ([], refl) (twin 1) refl))

-- a mint of number 0 only
zero_only : Law four (new four) (minted 0 (twin 0) ∷ minted 0 (twin 0) ∷ []) → ⊥
zero_only l = let e = l.turns (twin 0) in absurd (omega arith)

-- one that never looks into the store
never_looks : Law four (new four) (minted 0 (twin 0) ∷ queued (twin 0) 0 ∷ bound (twin 0) Who ∷ minted 0 (twin 0) ∷ []) → ⊥
never_looks l = true≢false (l.textless (queued (twin 0) 0 ∷ bound (twin 0) Who ∷ minted 0 (twin 0) ∷ []) 0 (twin 0) ([], refl) Who)

-- a hold that does nothing
idle_hold : Law four (new four) (minted 0 (twin 0) ∷ held (twin 0) ∷ []) → ⊥
idle_hold l = true≢false (l.free (held (twin 0) ∷ []) 0 (twin 0) ([], refl)).1

-- a name minted before it is due
too_soon : Law four (new four) (minted 0 (twin 0) ∷ queued (twin 0) 5 ∷ minted 0 (twin 0) ∷ []) → ⊥
too_soon l = true≢false (l.free (queued (twin 0) 5 ∷ minted 0 (twin 0) ∷ []) 0 (twin 0) ([], refl)).2

-- a name that is not the source's
not_ours : Law four (new four) (minted 4 (52 ∷ 52 ∷ []) ∷ []) → ⊥
not_ours l = let e = l.ours_alone (52 ∷ 52 ∷ []) refl in absurd (omega arith)

-- a name with another's number
misnumbered : Law four (new four) (minted 3 (twin 0) ∷ []) → ⊥
misnumbered l = let e = l.validates [] 3 (twin 0) ([], refl) in let z : ◌≡◌ {A = ℕ} 0 3 = cc in absurd (omega arith)

-- a source all of whose names are one
one_name : (s : Stock) → Lawful s → 1 < s.reach → s.named 0 ≡ s.named 1 → ⊥
one_name s l h e =
    let a = l.names 0 (omega (arith, h)) in
    let b = l.names 1 h in
    let z : ◌≡◌ {A = ℕ} 0 1 = cc in
    absurd (omega arith)
