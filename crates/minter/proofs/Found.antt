-- What stands at the places that the lists' functions find. Assumes nothing.
use Rattle.std.proofs.Common.{◌≡◌, ℕ, zero, suc, ◌+◌, ◌<◌, ◌≤◌, Bool, true, false, cond, not, eqb, ltb, leb, nat_eq, nat_le, nat_lt, List, [], ◌∷◌, ◌++◌, length, get_or, take, drop, min, map, filter, fold, count_by, position, Some, None, Option, MatchOption, unwrap_or, sym, refl, ap, ◌∙◌, ap₂, ⊎_elim, arith}
use Rattle.std.specs.List.{insert, remove, list_any, position_or_len, prefix_len, reduce, AllWithin, HoldsAt}
use Rattle.std.proofs.lemmas.List.{drop_more, get_or_read}
use Rattle.std.proofs.lemmas.List.Quantifiers.{position-Some}
use Rattle.std.proofs.lemmas.Option.{none-some}
use Rattle.std.proofs.lemmas.List.Sums.{prefix_len-le-length}
use Rattle.std.proofs.lemmas.List.Recursion.{is_count_by}
use Rattle.std.proofs.lemmas.Bool.{cases_Bool, cond-true, cond-false, eqb-true, le-leb, leb-true, leb-false, lt-leb, ltb-false}
use Rattle.std.proofs.lemmas.Bool.Decides.{nat_tests}
use Rattle.sources.specs.Lists.{has, first, rest}
use Rattle.sources.proofs.Looks.{has_any}
use Rattle.machine.specs.Machine.{front, back, added, without, outside, numbers, by, later_than, placed, in_order}
use Rattle.machine.specs.declared.call.Due.{Due}

-- ---- the library's words for the register's own

pub outside_counted : (xs ys : List ℕ) → outside xs ys ≡ count_by (λ y. not (list_any (λ z. nat_eq z y) xs)) ys
outside_counted xs ys = is_count_by (outside xs) (λ y. not (list_any (λ z. nat_eq z y) xs)) refl (λ y zs. let e = has_any y xs in grind arith) ys

pub has_queued : (n : ℕ) (xs : List Due) → has n (numbers xs) ≡ list_any (λ (d : Due). nat_eq d.number n) xs
has_queued n [] = refl
has_queued n (x ∷ xs) = let ih = has_queued n xs in grind (arith, nat_tests)

-- ---- a front that passes a test, and what is left after it

-- at the place of the first that fails it
pub splits_Some : (p : ℕ → Bool) (xs : List ℕ) (i : ℕ) → position (λ x. not (p x)) xs ≡ Some i → (i < length xs) × (front p xs ≡ take i xs) × (back p xs ≡ drop i xs)
splits_Some p xs i e =
    let found = position-Some (λ x. not (p x)) xs i 0 e in
    let split = at xs i found.0 (λ b. let f = found.1 in grind (arith, nat_tests)) (λ k l. let f = found.2 k l in grind (arith, nat_tests)) in
    (found.0, split.0, split.1)
  where
    at : (xs : List ℕ) (i : ℕ) → i < length xs → (p (get_or xs i 0) ≡ true → ⊥) → ((k : ℕ) → k < i → p (get_or xs k 0) ≡ true) → (front p xs ≡ take i xs) × (back p xs ≡ drop i xs)
    at [] i h bad good = absurd (omega arith)
    at (x ∷ xs) zero h bad good = ⊎_elim (λ (b : p x ≡ true). absurd (bad b)) (λ (b : p x ≡ false). rw b (refl, refl)) (cases_Bool (p x))
    at (x ∷ xs) (suc i) h bad good = let ih = at xs i (omega arith) bad (λ k l. good (suc k) (omega arith)) in rw (good 0 (omega arith)) (ap {B = List ℕ} (λ ys. x ∷ ys) ih.0, ih.1)

-- that number, and the list without it
pub taken_at : (p : ℕ → Bool) (xs : List ℕ) (i : ℕ) (ys : List ℕ) (n : ℕ) → (i < length xs) × (front p xs ≡ take i xs) × (back p xs ≡ drop i xs) → n ≡ get_or xs i n → ys ≡ remove xs i
    → (Some n ≡ first (back p xs)) × (ys ≡ front p xs ++ rest (back p xs))
taken_at p xs i ys n at value items =
    let b : back p xs ≡ n ∷ drop (i + 1) xs = at.2 ∙ drop_more xs i n at.0 ∙ ap (λ (x : ℕ). x ∷ drop (i + 1) xs) (sym value) in
    (sym (ap first b), items ∙ ap₂ {C = List ℕ} (λ us vs. us ++ vs) (sym at.1) (let j : suc i ≡ i + 1 = omega arith in rw j (sym (ap rest b))))

-- where there is none
pub splits_None : (p : ℕ → Bool) (xs : List ℕ) → position (λ x. not (p x)) xs ≡ None → back p xs ≡ []
splits_None p xs e = past xs (⊎_elim (λ (l : ltb (prefix_len (λ x. not (not (p x))) xs) (length xs) ≡ true). absurd (none-some _ (sym e ∙ cond-true _ _ _ l))) (λ (l : ltb (prefix_len (λ x. not (not (p x))) xs) (length xs) ≡ false). ltb-false _ _ l) (cases_Bool (ltb (prefix_len (λ x. not (not (p x))) xs) (length xs))))
  where
    past : (xs : List ℕ) → length xs ≤ prefix_len (λ x. not (not (p x))) xs → back p xs ≡ []
    past [] h = refl
    past (x ∷ xs) h =
        ⊎_elim
        (λ (b : p x ≡ true). rw b (past xs (let k = rw b at h in omega arith)))
        (λ (b : p x ≡ false). absurd (let k = rw b at h in omega arith))
        (cases_Bool (p x))

-- ---- numbers on hold

pub added_is : (n : ℕ) (xs : List ℕ) → added n xs ≡ insert xs (position_or_len (λ x. nat_lt n x) xs) n
added_is n [] = refl
added_is n (x ∷ xs) =
    let s : 1 + position_or_len (λ x. nat_lt n x) xs ≡ suc (position_or_len (λ x. nat_lt n x) xs) = omega arith in
    ⊎_elim
    (λ (b : ltb n x ≡ true). rw b refl)
    (λ (b : ltb n x ≡ false). rw (b, s) (ap {B = List ℕ} (λ ys. x ∷ ys) (added_is n xs)))
    (cases_Bool (ltb n x))

-- the place that was found, or the length
pub found_or_len : (p : ℕ → Bool) (xs : List ℕ) → unwrap_or (cond (nat_lt (position_or_len p xs) (length xs)) (Some (position_or_len p xs)) None) (length xs) ≡ position_or_len p xs
found_or_len p xs = let l = prefix_len-le-length (λ x. not (p x)) xs in grind (arith, nat_tests)

-- a list without n, by the place that was found for n
pub without_found : (n : ℕ) (xs : List ℕ) (r : Option ℕ)
    → MatchOption r (AllWithin (λ x. nat_eq x n ≡ false) xs 0 (length xs)) (λ i. (i < length xs) × HoldsAt (λ x. nat_eq x n ≡ true) xs i × AllWithin (λ x. nat_eq x n ≡ false) xs 0 i)
    → without n xs ≡ elim r [ None ↦ xs | Some i ↦ remove xs i ]
without_found n xs None none = missing xs (λ k l. none k 0 (omega arith) l)
  where
    missing : (xs : List ℕ) → ((k : ℕ) → k < length xs → eqb (get_or xs k 0) n ≡ false) → without n xs ≡ xs
    missing [] none = refl
    missing (x ∷ xs) none =
        let ih = missing xs (λ k l. none (suc k) (omega arith)) in
        let first : eqb x n ≡ false = none 0 (omega arith) in
        grind (arith, nat_tests)
without_found n xs (Some i) found = at xs i found.0 (found.1 0) (λ k l. found.2 k 0 (omega arith) l)
  where
    at : (xs : List ℕ) (i : ℕ) → i < length xs → eqb (get_or xs i 0) n ≡ true → ((k : ℕ) → k < i → eqb (get_or xs k 0) n ≡ false) → without n xs ≡ remove xs i
    at [] i h here before = absurd (omega arith)
    at (x ∷ xs) zero h here before = grind (arith, nat_tests)
    at (x ∷ xs) (suc i) h here before =
        let ih = at xs i (omega arith) here (λ k l. before (suc k) (omega arith)) in
        let first : eqb x n ≡ false = before 0 (omega arith) in
        grind (arith, nat_tests)

-- ---- numbers that are due

-- the least second of those that are not after t
abbrev pub soonest_of : ℕ → List Due → Option ℕ
soonest_of t xs = reduce min (map (λ (d : Due). d.second) (filter (λ (d : Due). nat_le d.second t) xs))

-- none of the numbers is below s
abbrev Above : ℕ → List ℕ → Type 0
Above s [] = Unit {0}
Above s (x ∷ xs) = (s ≤ x) × Above s xs

least_of : (x : ℕ) (xs : List ℕ) (s : ℕ) → fold min x xs ≡ s → (s ≤ x) × Above s xs × (has s (x ∷ xs) ≡ true)
least_of x [] s e = (omega arith, tt, grind (arith, nat_tests))
least_of x (y ∷ ys) s e =
    let ih = least_of (min x y) ys s e in
    let h = ih.2 in
    (omega (arith, ih.0), (omega (arith, ih.0), ih.1), grind (arith, nat_tests))

reduced : (ss : List ℕ) (s : ℕ) → reduce min ss ≡ Some s → Above s ss × (has s ss ≡ true)
reduced [] s e = absurd (none-some _ e)
reduced (x ∷ xs) s e = let l = least_of x xs s cc in ((l.0, l.1), l.2)

pub none_soonest : (t : ℕ) (xs : List Due) → soonest_of t xs ≡ None → by t xs ≡ []
none_soonest t [] e = refl
none_soonest t (x ∷ xs) e =
    ⊎_elim
    (λ (b : leb x.second t ≡ true). absurd (none-some _ (sym (rw b at e))))
    (λ (b : leb x.second t ≡ false). rw b (none_soonest t xs (rw b at e)))
    (cases_Bool (leb x.second t))

abbrev nobody : Due
nobody = record { number = 0; second = 0 }

-- the soonest one comes first, and the others are as they were
pub record Soonest (t : ℕ) (xs : List Due) (i : ℕ) (s : ℕ) : Type 0 where
  pub second : (get_or xs i nobody).second ≡ s
  pub due : s ≤ t
  pub leads : in_order (by t xs) ≡ get_or xs i nobody ∷ in_order (by t (remove xs i))
  pub later : later_than t (remove xs i) ≡ later_than t xs

-- the first of a list is not before s
abbrev Leads : ℕ → List Due → Type 0
Leads s [] = Unit {0}
Leads s (d ∷ ds) = s ≤ d.second

placed_front : (x : Due) (zs : List Due) → Leads x.second zs → placed x zs ≡ x ∷ zs
placed_front x [] h = refl
placed_front x (d ∷ ds) h = cond-true _ _ _ (le-leb _ _ h)

placed_leads : (s : ℕ) (x : Due) (zs : List Due) → s ≤ x.second → Leads s zs → Leads s (placed x zs)
placed_leads s x [] l h = l
placed_leads s x (d ∷ ds) l h = elim (leb x.second d.second) as (λ v. Leads s (cond v (x ∷ (d ∷ ds)) (d ∷ placed x ds))) [ true ↦ l | false ↦ h ]

-- none of those that are due by t is sooner than s
abbrev Least : ℕ → ℕ → List Due → Type 0
Least t s xs = (k : ℕ) → k < length xs → (get_or xs k nobody).second ≤ t → s ≤ (get_or xs k nobody).second

order_leads : (t s : ℕ) (xs : List Due) → Least t s xs → Leads s (in_order (by t xs))
order_leads t s [] least = tt
order_leads t s (x ∷ xs) least =
    let ih = order_leads t s xs (λ k l. least (suc k) (omega arith)) in
    ⊎_elim
    (λ (b : leb x.second t ≡ true). rw b (placed_leads s x _ (least 0 (omega arith) (leb-true _ _ b)) ih))
    (λ (b : leb x.second t ≡ false). rw b ih)
    (cases_Bool (leb x.second t))

above_least : (t s : ℕ) (xs : List Due) → Above s (map (λ (d : Due). d.second) (filter (λ (d : Due). nat_le d.second t) xs)) → Least t s xs
above_least t s [] above k l h = absurd (omega arith)
above_least t s (x ∷ xs) above k l h =
    ⊎_elim
    (λ (b : leb x.second t ≡ true). let a = rw b at above in at k l h a.0 (above_least t s xs a.1))
    (λ (b : leb x.second t ≡ false). let a = rw b at above in let f = leb-false _ _ b in later k l h f (above_least t s xs a))
    (cases_Bool (leb x.second t))
  where
    at : (k : ℕ) → k < suc (length xs) → (get_or (x ∷ xs) k nobody).second ≤ t → s ≤ x.second → Least t s xs → s ≤ (get_or (x ∷ xs) k nobody).second
    at zero l h le rest = le
    at (suc k) l h le rest = rest k (omega arith) h

    later : (k : ℕ) → k < suc (length xs) → (get_or (x ∷ xs) k nobody).second ≤ t → t < x.second → Least t s xs → s ≤ (get_or (x ∷ xs) k nobody).second
    later zero l h lt rest = absurd (omega arith)
    later (suc k) l h lt rest = rest k (omega arith) h

-- its second is one by t, and the list has it
pub second_there : (t s : ℕ) (xs : List Due) → has s (map (λ (d : Due). d.second) (filter (λ (d : Due). nat_le d.second t) xs)) ≡ true → (s ≤ t) × (((k : ℕ) → k < length xs → eqb (get_or xs k nobody).second s ≡ false) → ⊥)
second_there t s [] h = absurd (grind arith)
second_there t s (x ∷ xs) h =
    ⊎_elim
    (λ (b : leb x.second t ≡ true). let l = leb-true _ _ b in ⊎_elim
    (λ (e : eqb s x.second ≡ true). let q : s ≡ x.second = eqb-true _ _ e in (omega arith, λ none. let f = none 0 (omega arith) in grind (arith, nat_tests)))
    (λ (e : eqb s x.second ≡ false). let k = rw (b, e) at h in tail (second_there t s xs k))
    (cases_Bool (eqb s x.second)))
    (λ (b : leb x.second t ≡ false). let k = rw b at h in tail (second_there t s xs k))
    (cases_Bool (leb x.second t))
  where
    tail : (s ≤ t) × (((k : ℕ) → k < length xs → eqb (get_or xs k nobody).second s ≡ false) → ⊥) → (s ≤ t) × (((k : ℕ) → k < suc (length xs) → eqb (get_or (x ∷ xs) k nobody).second s ≡ false) → ⊥)
    tail r = (r.0, λ none. r.1 (λ k l. none (suc k) (omega arith)))

behind : (x d : Due) (zs ws : List Due) → zs ≡ d ∷ ws → d.second < x.second → placed x zs ≡ d ∷ placed x ws
behind x d zs ws e lt = ap (placed x) e ∙ cond-false _ _ _ (lt-leb _ _ lt)

soonest_there : (t : ℕ) (x : Due) (xs : List Due) (i s : ℕ) → s < x.second → Soonest t xs i s → Soonest t (x ∷ xs) (suc i) s
soonest_there t x xs i s lt k =
    let d : (get_or xs i nobody).second < x.second = omega (arith, k.second) in
    ⊎_elim
    (λ (b : leb x.second t ≡ true). record { second = k.second; due = k.due; leads = rw b (behind x _ _ _ k.leads d); later = rw b k.later })
    (λ (b : leb x.second t ≡ false). record { second = k.second; due = k.due; leads = rw b k.leads; later = rw b (ap {B = List Due} (λ ys. x ∷ ys) k.later) })
    (cases_Bool (leb x.second t))

-- at the first place of the soonest second
pub soonest_at : (t s : ℕ) (xs : List Due) (i : ℕ) → s ≤ t → Least t s xs → i < length xs → eqb (get_or xs i nobody).second s ≡ true → ((k : ℕ) → k < i → eqb (get_or xs k nobody).second s ≡ false) → Soonest t xs i s
soonest_at t s [] i le least h here before = absurd (omega arith)
soonest_at t s (x ∷ xs) zero le least h here before =
    let e : x.second ≡ s = grind (arith, nat_tests) in
    let b : leb x.second t ≡ true = le-leb _ _ (omega arith) in
    let leads : Leads x.second (in_order (by t xs)) = rw e (order_leads t s xs (λ k l. least (suc k) (omega arith))) in
    record { second = e; due = le; leads = rw b (placed_front x _ leads); later = rw b refl }
soonest_at t s (x ∷ xs) (suc i) le least h here before =
    let ih = soonest_at t s xs i le (λ k l. least (suc k) (omega arith)) (omega arith) here (λ k l. before (suc k) (omega arith)) in
    let first : eqb x.second s ≡ false = before 0 (omega arith) in
    let ne : x.second ≡ s → ⊥ = λ e. grind (arith, nat_tests) in
    let lt : s < x.second = ⊎_elim (λ (b : leb x.second t ≡ true). let l = least 0 (omega arith) (leb-true _ _ b) in omega arith) (λ (b : leb x.second t ≡ false). let l = leb-false _ _ b in omega arith) (cases_Bool (leb x.second t)) in
    soonest_there t x xs i s lt ih

-- by the place that was found for the soonest second, which is there
pub found_soonest : (t s : ℕ) (xs : List Due) (r : Option ℕ) → soonest_of t xs ≡ Some s
    → MatchOption r (AllWithin (λ (d : Due). nat_eq d.second s ≡ false) xs 0 (length xs)) (λ i. (i < length xs) × HoldsAt (λ (d : Due). nat_eq d.second s ≡ true) xs i × AllWithin (λ (d : Due). nat_eq d.second s ≡ false) xs 0 i)
    → MatchOption r ⊥ (λ i. Soonest t xs i s)
found_soonest t s xs None e none = (second_there t s xs (reduced _ s e).1).1 (λ k l. none k nobody (omega arith) l)
found_soonest t s xs (Some i) e found =
    let r = reduced _ s e in
    soonest_at t s xs i (second_there t s xs r.1).0 (above_least t s xs r.0) found.0 (found.1 nobody) (λ k l. found.2 k nobody (omega arith) l)

-- what is left once it was taken out
pub taken_soonest : (t s i : ℕ) (xs ys : List Due) (d : Due) → Soonest t xs i s → i < length xs → d ≡ get_or xs i d → ys ≡ remove xs i
    → (Some d.number ≡ first (numbers (in_order (by t xs)))) × (numbers (in_order (by t ys)) ≡ rest (numbers (in_order (by t xs)))) × (later_than t ys ≡ later_than t xs)
taken_soonest t s i xs ys d k l value items =
    let read : get_or xs i nobody ≡ d = sym (get_or_read xs i d l value nobody) in (
      sym (ap (λ (zs : List Due). first (numbers zs)) k.leads ∙ ap (λ (x : Due). first (numbers (x ∷ []))) read),
      ap (λ (zs : List Due). numbers (in_order (by t zs))) items ∙ sym (ap (λ (zs : List Due). rest (numbers zs)) k.leads),
      ap (later_than t) items ∙ k.later,
    )
