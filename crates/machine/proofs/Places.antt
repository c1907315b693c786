-- The places of aside and held: what a hold, a release and a mint make of them.
use Rattle.std.proofs.Common.{◌≡◌, ℕ, suc, ◌+◌, ◌≤◌, Bool, true, false, cond, ◌||◌, eqb, List, [], ◌∷◌, ◌++◌, length, refl, ap, append_assoc, arith}
use Rattle.std.proofs.lemmas.List.{append-nil}
use Rattle.std.proofs.lemmas.Bool.Decides.{nat_tests}
use Rattle.sources.specs.Lists.{count, has}
use Rattle.machine.specs.Machine.{added, without, outside, front}
use Rattle.machine.proofs.Counts.{has_tells, count_append}

pub has_append : (n : ℕ) (xs ys : List ℕ) → has n (xs ++ ys) ≡ (has n xs || has n ys)
has_append n [] ys = refl
has_append n (x ∷ xs) ys = let ih = has_append n xs ys in grind (arith, nat_tests)

pub outside_added : (xs : List ℕ) (n : ℕ) (ys : List ℕ) → outside xs (added n ys) ≡ cond (has n xs) (outside xs ys) (suc (outside xs ys))
outside_added xs n [] = refl
outside_added xs n (y ∷ ys) = let ih = outside_added xs n ys in grind arith

pub outside_without : (xs : List ℕ) (n : ℕ) (ys : List ℕ) → outside xs (without n ys) ≤ outside xs ys
outside_without xs n [] = omega arith
outside_without xs n (y ∷ ys) = let ih = outside_without xs n ys in grind arith

-- a number that is not held may go
pub outside_less : (xs zs : List ℕ) (n : ℕ) (ys : List ℕ) → has n ys ≡ false → outside (xs ++ zs) ys ≡ outside (xs ++ (n ∷ zs)) ys
outside_less xs zs n [] h = refl
outside_less xs zs n (y ∷ ys) h =
    let ih = outside_less xs zs n ys in
    let a = has_append y xs zs in
    let b = has_append y xs (n ∷ zs) in
    grind (arith, nat_tests)

outside_more : (xs zs ys : List ℕ) → outside (xs ++ zs) ys ≤ outside xs ys
outside_more xs zs [] = omega arith
outside_more xs zs (y ∷ ys) = let ih = outside_more xs zs ys in let a = has_append y xs zs in grind arith

-- a held number that comes aside leaves the others' count
pub outside_one : (xs : List ℕ) (n : ℕ) (ys : List ℕ) → has n xs ≡ false → has n ys ≡ true → suc (outside (xs ++ (n ∷ [])) ys) ≤ outside xs ys
outside_one xs n [] f h = grind arith
outside_one xs n (y ∷ ys) f h =
    let ih = outside_one xs n ys f in
    let m = outside_more xs (n ∷ []) ys in
    let a = has_append y xs (n ∷ []) in
    grind (arith, nat_tests)

-- held numbers that come aside, none of them twice or already there, take no new place
pub passed_fit : (ps xs ys : List ℕ) → ((n : ℕ) → has n ps ≡ true → has n ys ≡ true) → ((n : ℕ) → count n xs + count n ps ≤ 1) → length ps + outside (xs ++ ps) ys ≤ outside xs ys
passed_fit [] xs ys in-hold once = let e = ap (λ (zs : List ℕ). outside zs ys) (append-nil xs) in omega arith
passed_fit (p ∷ ps) xs ys in-hold once =
    let ih = passed_fit ps (xs ++ (p ∷ [])) ys (λ n h. in-hold n (let a : (eqb n p || has n ps) ≡ true = grind arith in a)) (λ n. let a = count_append n xs (p ∷ []) in let o = once n in grind (arith, nat_tests)) in
    let e = ap (λ (zs : List ℕ). outside zs ys) (append_assoc xs (p ∷ []) ps) in
    let o = once p in
    let t = has_tells p xs in
    let f : has p xs ≡ false = grind (arith, nat_tests) in
    let h : has p ys ≡ true = in-hold p (grind (arith, nat_tests)) in
    let one = outside_one xs p ys f h in
    omega arith

-- a front that passes a test
pub front_passes : (p : ℕ → Bool) (n : ℕ) (xs : List ℕ) → has n (front p xs) ≡ true → p n ≡ true
front_passes p n [] h = grind arith
front_passes p n (x ∷ xs) h = let ih = front_passes p n xs in grind (arith, nat_tests)
