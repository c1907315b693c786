-- A roll is a lawful source: the lists that it accepts, and where their numbers stand. Assumes nothing.
use Rattle.std.specs.Prelude.{◌≡◌, ℕ, suc, ◌+◌, ◌<◌, ◌≤◌, true, false, cond, ◌||◌, List, [], ◌∷◌, ◌++◌, length, take, drop, Some, None, ◌==◌, nat_eq, nat_le, nat_lt, refl}
use Rattle.std.proofs.Common.{sym, ap, subst, ◌∙◌, ⊎_elim, arith, take-append-drop}
use Rattle.std.proofs.lemmas.List.{append-nil, append_assoc}
use Rattle.std.proofs.lemmas.Bool.{both_ways, cases_lt, eqb-true, leb-false, or_parts, le-ltb, ltb-false, cases_Bool, cond-true, cond-false}
use Rattle.sources.specs.ListLaws.{has_counted}
use Rattle.sources.specs.Lists.{count, has}
use Rattle.sources.specs.NamedLaws.{named_lawful}
use Rattle.sources.specs.RollMeans.{roll_stock}
use Rattle.sources.specs.Rolls.{first_wrong, roll_standing}
use Rattle.sources.specs.Stock.{Lawful, is_ahead, is_foreign}
use Rattle.sources.specs.declared.roll.Roll.{Roll}
use Rattle.sources.specs.declared.source.Stand.TheVariants.{Ahead, Given, Foreign}

-- no number of the list stands there twice, and none is at t or above
pub record Sound (t : ℕ) (xs : List ℕ) : Type 0 where
  pub once : (n : ℕ) → count n xs ≤ 1
  pub below : (n : ℕ) → t ≤ n → count n xs ≡ 0

pub count_append : (n : ℕ) (xs ys : List ℕ) → count n (xs ++ ys) ≡ count n xs + count n ys
count_append n [] ys = omega arith
count_append n (x ∷ xs) ys =
    let ih = count_append n xs ys in
    elim (n == x) as (λ v. cond v (suc (count n (xs ++ ys))) (count n (xs ++ ys)) ≡ cond v (suc (count n xs)) (count n xs) + count n ys) [ true ↦ omega arith | false ↦ ih ]

pub count_split : (n i : ℕ) (xs : List ℕ) → count n xs ≡ count n (take i xs) + count n (drop i xs)
count_split n i xs = ap (count n) (sym (take-append-drop i xs)) ∙ count_append n (take i xs) (drop i xs)

pub none_has : (n : ℕ) (xs : List ℕ) → count n xs ≡ 0 → has n xs ≡ false
none_has n xs e = has_counted n xs ∙ ap (nat_lt 0) e ∙ le-ltb 0 0 (omega arith)

has_none : (n : ℕ) (xs : List ℕ) → has n xs ≡ false → count n xs ≡ 0
has_none n xs e = let q = ltb-false 0 (count n xs) (sym (has_counted n xs) ∙ e) in omega arith

count_one : (n x : ℕ) → count n (x ∷ []) ≤ 1
count_one n x = elim (n == x) as (λ v. cond v 1 0 ≤ 1) [ true ↦ omega arith | false ↦ omega arith ]

-- one number more, that is below t and was not met
sound_more : (t x : ℕ) (xs : List ℕ) → Sound t xs → x < t → has x xs ≡ false → Sound t (xs ++ (x ∷ []))
sound_more t x xs s l f =
    record {
      once = λ n. ⊎_elim
          (λ (e : nat_eq n x ≡ true).
          let q = has_none n xs (ap (λ (m : ℕ). has m xs) (eqb-true n x e) ∙ f) in
          let a = count_append n xs (x ∷ []) in
          let b = count_one n x in
          omega arith)
          (λ (e : nat_eq n x ≡ false).
          let a : count n (xs ++ (x ∷ [])) ≡ count n xs + 0 = count_append n xs (x ∷ []) ∙ ap (λ (c : ℕ). count n xs + c) (cond-false _ _ _ e) in
          let b = s.once n in
          omega arith)
          (cases_Bool (n == x));
      below = λ n h. ⊎_elim
          (λ (e : nat_eq n x ≡ true). absurd (let q = eqb-true n x e in omega arith))
          (λ (e : nat_eq n x ≡ false).
          let a : count n (xs ++ (x ∷ [])) ≡ count n xs + 0 = count_append n xs (x ∷ []) ∙ ap (λ (c : ℕ). count n xs + c) (cond-false _ _ _ e) in
          let b = s.below n h in
          omega arith)
          (cases_Bool (n == x));
    }

pub sound_none : (t : ℕ) → Sound t []
sound_none t = record { once = λ n. omega arith; below = λ n h. refl }

accepted_more : (t : ℕ) (seen xs : List ℕ) → first_wrong t seen xs ≡ None → Sound t seen → Sound t (seen ++ xs)
accepted_more t seen [] e s = subst (λ (l : List ℕ). Sound t l) (sym (append-nil seen)) s
accepted_more t seen (x ∷ xs) e s =
    ⊎_elim
    (λ (h : (nat_le 4096 (length seen) || (nat_le t x || has x seen)) ≡ true). let n : None ≡ Some (length seen) = sym e ∙ cond-true _ _ _ h in let z : ◌≡◌ {A = ℕ} 0 1 = cc in absurd (omega arith))
    (λ (h : (nat_le 4096 (length seen) || (nat_le t x || has x seen)) ≡ false).
    let p = or_parts _ _ (or_parts _ _ h).1 in
    let next : first_wrong t (seen ++ (x ∷ [])) xs ≡ None = sym (cond-false _ _ _ h) ∙ e in
    subst (λ (l : List ℕ). Sound t l) (append_assoc seen (x ∷ []) xs) (accepted_more t (seen ++ (x ∷ [])) xs next (sound_more t x seen s (leb-false t x p.0) p.1)))
    (cases_Bool (nat_le 4096 (length seen) || (nat_le t x || has x seen)))

-- a list with no wrong number is sound
pub accepted_sound : (t : ℕ) (xs : List ℕ) → first_wrong t [] xs ≡ None → Sound t xs
accepted_sound t xs e = accepted_more t [] xs e (sound_none t)

-- ---- where numbers stand

pub roll_once : (t i n : ℕ) (xs : List ℕ) → Sound t xs → count n (drop i xs) ≤ 1
roll_once t i n xs s = let a = count_split n i xs in let b = s.once n in omega arith

pub roll_listed : (i n : ℕ) (xs : List ℕ) → is_ahead (roll_standing i xs n) ≡ has n (drop i xs)
roll_listed i n xs =
    elim (has n (drop i xs)) as (λ v. is_ahead (cond v Ahead (cond (has n (take i xs)) Given Foreign)) ≡ v) [
      | true ↦ refl
      | false ↦ elim (has n (take i xs)) as (λ w. is_ahead (cond w Given Foreign) ≡ false) [ true ↦ refl | false ↦ refl ]
    ]

pub roll_within : (t i n : ℕ) (xs : List ℕ) → Sound t xs → is_foreign (roll_standing i xs n) ≡ false → n < t
roll_within t i n xs s h =
    ⊎_elim
    (λ (l : n < t). l)
    (λ (l : t ≤ n).
    let a = count_split n i xs in
    let b = s.below n l in
    let p = none_has n (drop i xs) (omega arith) in
    let q = none_has n (take i xs) (omega arith) in
    absurd (both_ways _ h (ap is_foreign (cond-false _ _ _ p ∙ cond-false _ _ _ q))))
    (cases_lt n t)

pub roll_lawful : (s : Roll) → Lawful (roll_stock s)
roll_lawful s =
    let sound : Sound _ s.numbers.now = record { once = s.once; below = s.below } in
    named_lawful s.template _ _
    (λ n. roll_once _ s.used n s.numbers.now sound)
    (λ n. roll_listed s.used n s.numbers.now)
    (λ n h. roll_within _ s.used n s.numbers.now sound h)
